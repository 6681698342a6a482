pub mod Output
pub mod TotalPromise
