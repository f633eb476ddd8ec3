pub mod SegmentEnds
pub mod RunOfFrame
pub mod HeadlessLaws
pub mod FramePrices
pub mod OnePrice
