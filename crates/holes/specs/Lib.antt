pub mod DtZeroInTrace
pub mod NanInUpdate
pub mod HoleInTrace
