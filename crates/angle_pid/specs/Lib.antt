pub mod Range
pub mod LpFilter
pub mod LpFilterLaws
pub mod Pid
pub mod PidLaws
