mod NamedWords
mod BlockLines
mod Places
mod Agreeing
mod Readable
mod BothBlocks
mod OneSide
mod Judged
