pub mod FrameDeclared
