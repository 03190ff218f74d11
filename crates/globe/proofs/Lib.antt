-- Laws of `globe`: how its loops and tests lead to the answer, vectors on the sphere, unique answers, refusals, and the plane boundary beside it.
pub mod Lists
pub mod OneTest
pub mod Images
pub mod Entering
pub mod Taking
pub mod Turning
pub mod OnFaces
pub mod Filling
pub mod Deep
pub mod UnitLength
pub mod UnitVector
pub mod OnSphere
pub mod Unique
pub mod Given
pub mod Order
pub mod Plane
