mod EqualWords
mod StandIns
mod BothSides
mod Alike
mod Parts
mod Told
