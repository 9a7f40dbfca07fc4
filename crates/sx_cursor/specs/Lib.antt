pub mod Cursor
pub mod Damage
pub mod Told
