pub mod Listed
pub mod Masks
pub mod StandingLawful
pub mod FileParts
pub mod FileLawful
pub mod RecordedBounds
pub mod Reading
