pub mod FrameValues
pub mod OfKinds
