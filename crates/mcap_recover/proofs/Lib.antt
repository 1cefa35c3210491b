mod Reading
mod Ending
mod Rules
