mod ModelSamples
mod ReadSamples
pub mod Alike
pub mod AlikeSteps
pub mod Printed
pub mod OfScripts
pub mod GivenValues
pub mod OneFault
