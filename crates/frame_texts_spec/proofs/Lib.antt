pub mod Headless
pub mod Once
pub mod EndingsBack
pub mod PartsBack
pub mod Samples
pub mod CallSamples
pub mod CallOnce
pub mod Blockless
pub mod BlocksBack
pub mod CallsBack
pub mod BlocklessReplays
pub mod CallReplaySamples
pub mod WordsSaid
pub mod EndingsSaid
pub mod PartsSaid
pub mod BitsSaid
pub mod BlocksSaid
pub mod CallsSaid
pub mod FramedSaid
pub mod ProgramBlocks
pub mod Replaying
mod RunEnds
mod MadeBlocks
pub mod HeadlessReplays
pub mod PlainPrinted
