pub mod NumberStates
pub mod NumberFronts
pub mod NumberBytes
pub mod NumberTexts
pub mod NameLists
pub mod AscendingNames
pub mod MemberLists
pub mod ValueTrees
