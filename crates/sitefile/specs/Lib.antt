-- What the contracts of `sitefile` cite: how a file stands in its bytes, which bytes the reader takes, and what the writer answers.
pub mod Frame
pub mod Entries
pub mod Read
pub mod Write
