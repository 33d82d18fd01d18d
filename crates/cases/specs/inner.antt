-- What the commands of a script take.
pub mod Taken
