pub mod Requests
pub mod Solutions
pub mod Answers
pub mod Ends
