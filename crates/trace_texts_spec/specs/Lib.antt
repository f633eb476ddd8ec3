pub mod Names
pub mod NoteTexts
pub mod ValueLines
pub mod StepLines
pub mod HeadLines
