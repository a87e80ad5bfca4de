use Rattle.std.proofs.Common.{ℕ, take, pos, ◌+ℤ◌}
use Rattle.tv_spec_slices.specs.Slices.{Shape}
use Rattle.tv_spec_slices.specs.Paths.{ways_at}
use Rattle.tv_slices.specs.Tables.{IsTable}
use Rattle.tv_slices.proofs.Neighbours.{partly}
use Rattle.tv_slices.proofs.table.push_slice.Given as goal

abbrev pub invariant-loop-b : goal.invariant-loop-b
invariant-loop-b g l = (h : Shape → ℕ → ℕ) → IsTable g.C.Ring.ring l.legs l.k (l.t +ℤ pos 1) h l.initial.next.entries → IsTable g.C.Ring.ring l.legs l.k (l.t +ℤ pos 1) (partly l.legs (l.t +ℤ pos 1) (ways_at l.legs l.k l.t l.a) (take l.b-index l.b-items) h) l.next.entries
