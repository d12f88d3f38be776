pub mod ThreePasses
