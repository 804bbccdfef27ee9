-- What the contracts of `record` cite: document 01, "Step records and the bench program", first paragraph.
pub mod Bodies
pub mod Records
