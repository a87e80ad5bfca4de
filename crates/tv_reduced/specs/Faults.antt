-- Why there is no family of reduced series.
--
-- IsSpreadOut r w d n v m  == some assignment of degree at most d has the class v, and the spread of v at the exponent m, of
--                             at most n, times the size of one, exceeds the limit
-- of_full fault            == why there is no family of reduced series where there is no full one for that fault
-- of_division fault        == the same where a series is not divided for that fault
-- OnCrowd fault P          == P holds of the class of a fault that is Crowd, and the fault is no Spread
-- OnSpread fault P         == P holds of the class and the exponent of a fault that is Spread, and the fault is no Crowd
-- IsReducedFault r w d n e == e names a class whose crowd is too wide, or a class and an exponent at which the spread is, or
--                             is want of memory
use Rattle.std.specs.Prelude.{ℕ, ◌*◌, ◌<◌, ℤ, List, ⊤}
use Rattle.tv_ring.specs.Operations.{Operations, limit}
use Rattle.tv_spec_plane.specs.Web.{Web}
use Rattle.tv_spec_boxes.specs.Assignments.{no_legs}
use Rattle.tv_spec_boxes.specs.Classes.{IsClass}
use Rattle.tv_spec_series.specs.Reduced.{IsSpread}
use Rattle.tv_assigned_series.specs.declared.family_fault.GlueFault.{GlueFault}
use Rattle.tv_assigned_series.specs.declared.family_fault.GlueFault.TheVariants.{Wide as TooCrowded, Memory as NoMemoryToGlue}
use Rattle.tv_assigned_series.specs.FamilyFaults.{IsCrowded}
use Rattle.tv_graded.specs.declared.fault.GradedFault.{GradedFault}
use Rattle.tv_graded.specs.declared.fault.GradedFault.TheVariants.{Wide as TooWide, Memory as NoMemoryToDivide}
use Rattle.tv_reduced.specs.declared.fault.ReducedFault.{ReducedFault}
use Rattle.tv_reduced.specs.declared.fault.ReducedFault.TheVariants.{Crowd, Spread, Memory}

pub record IsSpreadOut {A : Type 0} (r : Operations A) (w : Web) (d : ℕ) (n : ℤ) (v : List ℤ) (m : ℤ) : Type 0 where
  pub class : IsClass w d v
  pub number : ℕ
  pub spread : IsSpread w (no_legs w) n v m number
  pub wide : limit < number * r.size r.unit

abbrev pub of_full : GlueFault → ReducedFault
of_full (TooCrowded v) = Crowd v
of_full NoMemoryToGlue = Memory

abbrev pub of_division : GradedFault → ReducedFault
of_division (TooWide v m) = Spread v m
of_division NoMemoryToDivide = Memory

abbrev pub OnCrowd : ReducedFault → (List ℤ → Type 0) → Type 0
OnCrowd (Crowd v) P = P v
OnCrowd (Spread v m) P = ⊥
OnCrowd Memory P = ⊤

abbrev pub OnSpread : ReducedFault → (List ℤ → ℤ → Type 0) → Type 0
OnSpread (Crowd v) P = ⊥
OnSpread (Spread v m) P = P v m
OnSpread Memory P = ⊤

abbrev pub IsReducedFault : {A : Type 0} → Operations A → Web → ℕ → ℤ → ReducedFault → Type 0
IsReducedFault r w d n (Crowd v) = IsCrowded r w d n v
IsReducedFault r w d n (Spread v m) = IsSpreadOut r w d n v m
IsReducedFault r w d n Memory = ⊤
