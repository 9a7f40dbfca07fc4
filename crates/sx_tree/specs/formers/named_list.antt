pub mod NamedList
