pub mod Slew
pub mod RatePid
pub mod RatePidLaws
pub mod FiltersOffLaws
