pub mod Damage
pub mod Front
