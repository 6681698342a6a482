pub mod Laws
pub mod IdsTheorem
pub mod NumbersTheorem
pub mod SharingTheorem
pub mod DrivingTheorem
pub mod EndingTheorem
pub mod LosingTheorem
pub mod Examples
