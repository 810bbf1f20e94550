pub mod Standing
pub mod FileDiagram
pub mod DiagramLayer
pub mod Recorded
pub mod Drafts
pub mod Labelled
pub mod Calls
