pub mod ByUse
pub mod PrivateUse
pub mod ResidentList
pub mod OfferEnds
