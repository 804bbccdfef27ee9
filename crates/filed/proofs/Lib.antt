-- A site's copy in a sound table is always writable.
pub mod Filed
