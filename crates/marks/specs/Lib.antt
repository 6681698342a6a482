pub mod Pairs
pub mod Placed
pub mod Gap
pub mod FormLaws
pub mod PlacedLaws
pub mod MarksVerdictLaws
pub mod DecidedLaws
pub mod OutcomeLaws
