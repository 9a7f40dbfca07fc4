pub mod Differ
