-- Laws of the order of checks, which refusals they give, that the paper tells refusals apart, and of the one shape of a
-- promise.
pub mod Order
pub mod Turns
pub mod Splitting
pub mod Only
pub mod Unique
pub mod Giving
pub mod Passing
pub mod Promises
pub mod Rooms
