pub mod Directive
