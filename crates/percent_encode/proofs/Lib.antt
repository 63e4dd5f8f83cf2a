mod CursorLaws
mod PlainLaws
mod WindowLaws
mod Unique
