-- A table taken apart and put together again is the same: its requests, its messages, its sites, and all of it.
pub mod TakenApart
pub mod Letters
pub mod Sites
pub mod Opening
