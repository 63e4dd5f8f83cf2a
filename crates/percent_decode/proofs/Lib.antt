mod CursorLaws
mod Unique
