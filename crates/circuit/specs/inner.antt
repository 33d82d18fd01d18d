-- What the functions promise each other.
pub mod Tables
pub mod Columns
pub mod Lists
pub mod Fills
