pub mod Dispatch
pub mod Lent
pub mod Results
pub mod SummingLaws
pub mod SameLent
