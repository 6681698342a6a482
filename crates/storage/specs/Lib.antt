pub mod Storage
pub mod WrappingLaws
pub mod PlaneLaws
pub mod WritingLaws
pub mod Restoring
pub mod StoragePromise
pub mod StorageTheorem
