pub mod Airframe
pub mod AirframeLaws
pub mod FlatMotors
