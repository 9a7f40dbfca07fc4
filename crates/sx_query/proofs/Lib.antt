pub mod Faults
pub mod OfNodes
pub mod OfPaths
pub mod Premise
pub mod Walking
