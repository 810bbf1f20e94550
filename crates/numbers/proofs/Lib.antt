pub mod BelowLaws
pub mod BitLaws
pub mod RangeLaws
