-- Segments as they are compared.
--
-- same_segment s r == the test of equal segments
-- precedes s r     == the test that s comes before r or is r, by its first, then its second point
-- earlier first s  == the earlier of s and the segment before it, if there is one
use Rattle.std.specs.Prelude.{Bool, ◌&&◌, cond, nat_eq, nat_lt, nat_le, Option, Some, None}
use Rattle.tv_spec_plane.specs.Plane.{Segment}

abbrev pub same_segment : Segment → Segment → Bool
same_segment s r = nat_eq s.0 r.0 && nat_eq s.1 r.1

abbrev pub precedes : Segment → Segment → Bool
precedes s r = cond (nat_eq s.0 r.0) (nat_le s.1 r.1) (nat_lt s.0 r.0)

abbrev pub earlier : Option Segment → Segment → Option Segment
earlier None s = Some s
earlier (Some first) s = Some (cond (precedes first s) first s)
