pub mod Shared
pub mod SharedPromise
pub mod Rows
pub mod RowsPromise
