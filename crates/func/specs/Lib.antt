pub mod Func
pub mod WrapLaws
