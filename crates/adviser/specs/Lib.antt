pub mod AdviserLaws
