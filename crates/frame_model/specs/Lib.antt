pub mod FrameSymbols
