pub mod Test
pub mod TestLaws
pub mod Checks
pub mod ResultLaws
