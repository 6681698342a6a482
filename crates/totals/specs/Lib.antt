pub mod Totals
pub mod SumLaws
pub mod Carried
pub mod AnswerLaws
pub mod TotalsPromise
pub mod TotalsTheorem
pub mod FourteenPromise
pub mod FourteenTheorem
