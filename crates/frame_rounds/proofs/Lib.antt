pub mod FrameRoots
pub mod FrameAnswering
pub mod FrameJudging
pub mod FrameDeciding
pub mod ListedCalls
