mod Values
mod HaveValues
mod Steps
pub mod Consequences
mod Cutting
mod LineWords
mod ScriptLines
mod Scripts
mod GoingOn
mod BadLines
