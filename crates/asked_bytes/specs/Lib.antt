pub mod AskedBytes
