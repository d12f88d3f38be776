-- What the functions' proofs share.
mod Assemble
mod Ties
mod Small
-- A theorem that other crates can cite.
pub mod RootKeepsRule
