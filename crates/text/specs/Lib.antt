pub mod Bytes
pub mod Decimal
pub mod DigitLaws
pub mod DecimalLaws
pub mod Phrase
pub mod PhraseLaws
pub mod Find
pub mod WriteLaws
pub mod Puts
pub mod Lent
pub mod PutDecimalLaws
pub mod ParseDecimalLaws
mod Examples
