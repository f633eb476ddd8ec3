pub mod Members
pub mod Orders
pub mod Groups
pub mod FlagSets
pub mod NamedFlags
pub mod Nodal
pub mod Walking
