-- One separator: levels, components, marks, choices and the rule of one level; and what the theorems about them speak of.
pub mod Levels
pub mod Components
pub mod Connected
pub mod Level
pub mod Choice
pub mod Representatives
pub mod Separates
pub mod inner
