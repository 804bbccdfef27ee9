-- The laws of the programs' shared loop, and of a site's copy in a buffer.
mod Copies
mod Laws
