pub mod F32
pub mod Float
pub mod FloatLaws
pub mod OperationLaws
