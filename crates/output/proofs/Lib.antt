-- Laws of the program's text.
pub mod PrintLaws
pub mod SizeLaws
pub mod ExampleLaws
