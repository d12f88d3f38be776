pub mod OneNotch
