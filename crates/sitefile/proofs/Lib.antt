-- The laws of the site file.
-- For every form of an entry: entries and their bytes, the trailer and the check, items and what entries tell of them.
pub mod Forms
pub mod Frames
pub mod Tellings
pub mod Chains
-- What the reader's code asks and stores, and what the writer's code writes.
pub mod Stores
pub mod Rates
pub mod Writes
-- What the layers above cite: which bytes are taken, both round trips, and which readings are never refused.
pub mod Taken
pub mod Backs
pub mod RoundTrips
pub mod Writable
pub mod Cases
-- That what the code answers says no more and no less than document 01's number and values.
pub mod Told
