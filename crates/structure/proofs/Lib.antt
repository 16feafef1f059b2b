pub mod Faults
pub mod Firsts
pub mod Gathering
pub mod Kept
pub mod Rounds
pub mod Runs
pub mod Turns
