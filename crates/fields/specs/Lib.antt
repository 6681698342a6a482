pub mod Bit
pub mod Fields
pub mod FieldLaws
