pub mod Planned
pub mod Numbers
pub mod Words
pub mod Runs
pub mod Stretches
