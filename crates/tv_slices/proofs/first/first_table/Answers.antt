use Rattle.std.proofs.Common.{◌≡◌, ℤ, pos, ◌-ℤ◌, [], ◌∷◌, w32, to_z, of_z, refl, ◌∙◌, ap, arith}
use Rattle.std.proofs.lemmas.Int.{ints}
use Rattle.indexmap.specs.IndexMap.{insert_entry}
use Rattle.tv_slices.specs.declared.row.Row.{Row}
use Rattle.tv_slices.specs.Rows.{numbers, marks}
use Rattle.tv_slices.specs.Bare.{bare, at_start}
use Rattle.tv_slices.specs.Tables.{known}
use Rattle.tv_slices.proofs.Ends.{first-table}
use Rattle.tv_slices.proofs.first.first_table.Goals as goal
use Rattle.tv_spec_slices.specs.Slices.{same_shape}

pub returns-clause-value : goal.returns-clause-value
returns-clause-value g c =
    let r = g.C.Ring.ring in let legs = c.args.legs.now in let k = c.args.k in
    let t : ℤ = pos 0 -ℤ pos c.args.far in
    let one : to_z w32 (of_z w32 c.diagonal_at.result) ≡ t = omega (arith, ints, c.diagonal_at.ensures) in
    let two : to_z w32 (of_z w32 c.diagonal_at-2.result) ≡ t = omega (arith, ints, c.diagonal_at-2.ensures) in
    let b : c.in_ok-bare.bare ≡ bare legs t = c.in_ok-bare.ensures ∙ ap (bare legs) one in
    let len = c.known-len.ensures.value ∙ (ap (λ u. known legs k u c.in_ok-bare.bare) two ∙ ap (known legs k t) b) in
    let row : Row g.row.C.Denot = record { least = 0; counts = c.in_ok-counts.counts; reached = c.in_ok-reached.reached } in
    first-table r legs k t row c.insert.new.self.entries c.known.ensures.diagrams (omega (arith, ints, c.requires.far)) (c.in_ok-counts.ensures.value ∙ ap (numbers r at_start) len) (c.in_ok-reached.ensures ∙ ap (marks at_start) len) refl
    (c.in_ok-insert.ensures.entries ∙ (ap (λ es. insert_entry same_shape es c.in_ok-bare.bare row) c.new-table.ensures.empty ∙ ap (λ x. (x, row) ∷ []) b))
