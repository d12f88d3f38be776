-- What the functions' proofs share.
mod Ties
