pub mod HolePrints
