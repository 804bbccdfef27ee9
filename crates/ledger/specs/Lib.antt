-- What a reader has to believe of the ledger, each part in a file of its own. Demand 3 needs Ledger, View and Promise; the serial order, Order too.
pub mod Ledger
pub mod View
pub mod Promise
pub mod Order
