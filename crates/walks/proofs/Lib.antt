pub mod Cells
pub mod Loans
