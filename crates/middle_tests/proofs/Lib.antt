mod Wider
mod Lifted
