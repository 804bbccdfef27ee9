-- What a reader has to believe of the tie: what a table shows, and which events a site's log stands for.
pub mod Views
pub mod Events
