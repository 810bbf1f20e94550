pub mod Below
pub mod Bits
