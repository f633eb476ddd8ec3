pub mod PassiveFrames
pub mod FrameCells
pub mod FrameClauseForm
pub mod HeadlessTerms
pub mod FrameAgreement
pub mod FrameLayers
pub mod FrameStarts
