pub mod Laws
pub mod SharedTheorem
pub mod RowsTheorem
pub mod Examples
