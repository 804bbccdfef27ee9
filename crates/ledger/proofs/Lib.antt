-- The laws and theorems of the ledger; README.md beside this folder lists them on one page.
pub mod Past
pub mod Newest
pub mod Acceptances
pub mod Safety
pub mod Orders
pub mod Link
pub mod Night
pub mod Cases
