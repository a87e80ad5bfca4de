pub mod Symmetry
