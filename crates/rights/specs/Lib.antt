pub mod FormLaws
pub mod All
pub mod LentLaws
