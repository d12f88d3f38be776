pub mod Line
pub mod Linear
pub mod Rates
pub mod ExpoRates
