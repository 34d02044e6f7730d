pub mod Natural
pub mod Same
