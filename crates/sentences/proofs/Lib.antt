pub mod TablesApart
pub mod SaidLaws
pub mod ReadingLaws
pub mod SentencesTheorem
