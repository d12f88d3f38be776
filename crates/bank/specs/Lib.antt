pub mod Lane
pub mod LaneLaws
pub mod Single
pub mod SingleLaws
pub mod Bank
pub mod BankLaws
pub mod BankRuns
pub mod RunLaws
