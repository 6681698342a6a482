pub mod Parts
pub mod AcceptedLaws
pub mod LengthLaws
pub mod StartLaws
pub mod SessionTheorem
pub mod Examples
