-- Laws of the controller, and what its functions' proofs share.
pub mod PidLaws
mod Options
