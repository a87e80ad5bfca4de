pub mod Edges
pub mod Grades
pub use Rattle.tv_spec_plane.specs.Plane
pub use Rattle.tv_spec_plane.specs.Web
pub use Rattle.tv_laws_edges.specs.Rule
