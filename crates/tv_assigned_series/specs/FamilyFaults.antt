-- When a class has too many configurations, and what the fault of a series is at a class.
--
-- OnWide fault P      == P holds of the class of a fault that is Wide
-- IsCrowded r w d n v == the crowd of the class, times the size of one, exceeds the limit
-- of_ring fault v     == Wide with the class v where the fault is Wide, else want of memory
-- of_series fault v   == so of a series' fault, whose exponent is left out
use Rattle.std.specs.Prelude.{ℕ, ◌*◌, ◌<◌, ℤ, List, ⊤}
use Rattle.tv_ring.specs.Operations.{Operations, limit}
use Rattle.tv_ring.specs.declared.fault.RingFault.{RingFault}
use Rattle.tv_ring.specs.declared.fault.RingFault.TheVariants as ring
use Rattle.tv_laurent.specs.declared.fault.SeriesFault.{SeriesFault}
use Rattle.tv_laurent.specs.declared.fault.SeriesFault.TheVariants as series
use Rattle.tv_spec_plane.specs.Web.{Web}
use Rattle.tv_spec_boxes.specs.Assignments.{no_legs}
use Rattle.tv_spec_boxes.specs.Numbers.{crowd}
use Rattle.tv_assigned_series.specs.declared.family_fault.GlueFault.{GlueFault}
use Rattle.tv_assigned_series.specs.declared.family_fault.GlueFault.TheVariants.{Wide, Memory}

abbrev pub OnWide : GlueFault → (List ℤ → Type 0) → Type 0
OnWide (Wide v) P = P v
OnWide Memory P = ⊤

abbrev pub IsCrowded : {A : Type 0} → Operations A → Web → ℕ → ℤ → List ℤ → Type 0
IsCrowded r w d n v = limit < crowd w (no_legs w) d n v * r.size r.unit

abbrev pub of_ring : RingFault → List ℤ → GlueFault
of_ring ring.Wide v = Wide v
of_ring ring.Memory v = Memory

abbrev pub of_series : SeriesFault → List ℤ → GlueFault
of_series (series.Wide n) v = Wide v
of_series series.Memory v = Memory
