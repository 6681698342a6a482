pub mod Scores
pub mod ScoreLaws
pub mod AddingLaws
