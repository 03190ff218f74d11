-- Laws of `face_projection`: the projection: finite, near, in order.
pub mod Tables
pub mod Entering
pub mod Units
pub mod Reach
pub mod Finite
pub mod Order
