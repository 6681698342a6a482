-- The proofs of what the theorems need.
pub mod Numbers
pub mod Turns
pub mod Places
pub mod Invariant
pub mod Withdrawn
