pub mod AlarmAlgebra
pub mod AlarmLaws
