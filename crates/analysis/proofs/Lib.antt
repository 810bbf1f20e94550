pub mod LabelBytes
