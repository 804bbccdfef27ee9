-- What the contracts of `vote` cite: document 01, "Requests and votes", in its order.
pub mod Data
pub mod Shape
pub mod Requests
pub mod Voters
pub mod Consider
pub mod Queue
pub mod Voting
pub mod Verdicts
pub mod Numbers
