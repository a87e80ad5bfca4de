use Rattle.std.proofs.Common.{◌≡◌, ℕ, ◌+◌, ◌*◌, ℤ, pos, ◌-ℤ◌, List, w32, to_z, of_z, refl, ◌∙◌, ap, arith, subst}
use Rattle.std.specs.Prelude.{IfOk}
use Rattle.std.specs.Map.{lookup}
use Rattle.std.proofs.lemmas.Int.{ints}
use Rattle.tv_ring.specs.Sums.{at}
use Rattle.tv_laws_series.specs.Terms.{listed}
use Rattle.tv_cells.specs.Extras.{extent}
use Rattle.tv_slices.specs.Joined.{counts_of}
use Rattle.tv_slices.specs.Bare.{bare}
use Rattle.tv_slices.specs.Tables.{ways_to, IsTable}
use Rattle.tv_slices.proofs.Ends.{read-last}
use Rattle.tv_sums.proofs.counts.slice_counts.Goals as goal
use Rattle.tv_spec_slices.specs.Slices.{same_shape}

pub returns-clause-value : goal.returns-clause-value
returns-clause-value g c =
    let r = g.C.Ring.ring in let legs = c.args.legs.now in let k = c.args.k in let rows = c.in_ok-table.table.entries in
    let far = k + extent legs in
    let T : ℤ → Type 0 = λ t. IsTable r legs k t (ways_to legs k t) rows in
    let end : pos (2 * (k + c.extent.result)) -ℤ pos (k + c.extent.result) ≡ pos far = ap (λ e. pos (2 * (k + e)) -ℤ pos (k + e)) c.extent.ensures.value ∙ half far in
    let at_end : to_z w32 (of_z w32 c.diagonal_at.result) ≡ pos (2 * (k + c.extent.result)) -ℤ pos (k + c.extent.result) = omega (arith, ints, c.diagonal_at.ensures) in
    let last : c.in_ok-last.last ≡ bare legs (pos far) = c.in_ok-last.ensures ∙ ap (bare legs) (at_end ∙ end) in
    let table : T (pos far) = subst T end c.in_ok-table.ensures.value in
    let row = c.get.ensures.value ∙ ap (λ s. lookup (same_shape s) rows) last in
    let P : List g.row.C.Denot → Type 0 = λ xs. IfOk c.row_of.result (λ v. v.items ≡ xs) in
    subst P (ap (λ o. listed (at r (counts_of o)) (k + 1)) row ∙ read-last r legs k (k + 1) rows (listed (at r (counts_of (lookup (same_shape (bare legs (pos far))) rows))) (k + 1)) c.known.ensures.diagrams table refl refl) c.row_of.ensures.value
  where
    half : (n : ℕ) → pos (2 * n) -ℤ pos n ≡ pos n
    half n = omega (arith, ints)
