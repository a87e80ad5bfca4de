mod Values
mod LegValues
mod ShapeValues
mod PathValues
