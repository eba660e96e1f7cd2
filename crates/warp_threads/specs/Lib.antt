pub mod Loans
pub mod Rounds
