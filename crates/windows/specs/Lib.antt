pub mod Left
pub mod WalkLaws
pub mod FirstWindowLaws
