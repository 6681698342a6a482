pub mod Transcript
pub mod SessionPromise
pub mod Owed
