mod Coded
mod Dropped
mod Found
mod Mixed
mod Named
mod Priced
mod Repeated
mod Rows
pub mod Adding
pub mod Addressed
pub mod BackEdges
pub mod Capped
pub mod Coding
pub mod CutHeads
pub mod EdgeLists
pub mod Ends
pub mod FileRows
pub mod FrameFirst
pub mod FrameLines
pub mod Framed
pub mod Fronts
pub mod Grouped
pub mod Heading
pub mod KeptRuns
pub mod Leads
pub mod Listing
pub mod Literals
pub mod Looked
pub mod Numbered
pub mod Ordered
pub mod Placed
pub mod Places
pub mod RootPlaces
pub mod RowEdges
pub mod SameKeys
pub mod Totalled
pub mod Whole
