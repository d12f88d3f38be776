pub mod LinearLut
pub mod LinearLutLaws
