pub mod Templates
pub mod TemplateLines
pub mod Views
pub mod Forms
