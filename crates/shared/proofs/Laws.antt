-- The proofs of what the theorems need.
pub mod Replays
pub mod Writes
