pub mod GrammarLaws
mod Examples
