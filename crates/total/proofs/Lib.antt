pub mod AnswerLaws
pub mod LengthLaws
pub mod ListingLaws
pub mod SummedLaws
pub mod TotalTheorem
pub mod Examples
