pub mod Phrases
pub mod Sentences
pub mod Read
pub mod ApartLaws
pub mod PhraseTableLaws
pub mod LengthLaws
pub mod ReadLaws
pub mod SentencesPromise
mod Examples
