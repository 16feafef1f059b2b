pub mod Bytes
pub mod Determined
pub mod Laws
pub mod RoundTrip
pub mod Rows
