pub mod Binary64
pub mod Values
pub mod Order
pub mod Roots
pub mod Sqrt
pub mod Laws
