pub mod Amounts
pub mod AmountLaws
pub mod Rounding
mod Examples
