pub mod Noting
pub mod Planning
