-- A table as rows of numbers, and what rows stand for: its sites, its requests, its messages, and all of it. No promise cites it.
pub mod Notes
pub mod Sites
pub mod Parts
pub mod Letters
pub mod Opened
