pub mod Accepted
pub mod Apart
pub mod AxisSpots
pub mod Changes
mod EditRows
pub mod Ends
pub mod Examples
pub mod FirstBytes
mod HashRows
pub mod Holes
pub mod LoadDocuments
pub mod NumberedTrees
pub mod OneString
pub mod OneValue
mod OrderRows
mod PathRows
pub mod Plugging
mod RefusalRows
pub mod Revisions
pub mod Shortest
pub mod Sound
pub mod Spelled
pub mod Spots
pub mod StringShapes
pub mod TextRows
pub mod Tokens
pub mod TreeTexts
pub mod Units
mod ValidRows
pub mod Within
pub mod WrittenStrings
