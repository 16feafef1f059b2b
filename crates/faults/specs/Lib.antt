pub mod Faults
pub mod Refusals
