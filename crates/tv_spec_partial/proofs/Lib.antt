mod Values
mod PlaneValues
