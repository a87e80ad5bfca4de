use Rattle.std.proofs.Common.{◌≡◌, ◌+◌, ◌*◌, ℤ, pos, ◌+ℤ◌, ◌-ℤ◌, map, Err, w32, to_z, of_z, ◌∙◌, ap, arith, subst, rules}
use Rattle.std.proofs.lemmas.Int.{ints}
use Rattle.std.proofs.lemmas.Result.{err_from_is_err_and}
use Rattle.tv_laws_series.specs.Terms.{listed}
use Rattle.tv_ring.specs.declared.fault.RingFault.TheVariants.{Wide}
use Rattle.tv_cells.specs.declared.legs.Legs.{Legs}
use Rattle.tv_cells.specs.Extras.{extent}
use Rattle.tv_slices.specs.Tables.{ways_to, IsTable}
use Rattle.tv_paths.specs.Counts.{path_counts}
use Rattle.tv_paths.specs.Built.{diagonal_counts, IsBuilt}
use Rattle.tv_paths.proofs.Diagonals.{before-end, row-push, row-first}
use Rattle.tv_paths.proofs.slices.Slices.build.Goals as goal

pub loop-i-init : goal.loop-i-init
loop-i-init g c =
    let r = g.C.Ring.ring in let legs = c.args.legs.now in let k = c.args.k in let far = k + c.extent.result in
    let at : to_z w32 (of_z w32 c.diagonal_at.result) ≡ pos 0 -ℤ pos far = omega (arith, ints, c.diagonal_at.ensures) in
    (c.in_ok-table.ensures.value, row-first (λ v. v.items) (diagonal_counts r legs k far) c.new-diagonals.result.items c.push.new.self.items c.in_ok-counted.field-0 c.new-diagonals.ensures.items c.in_ok-push.ensures.items (c.in_ok-counted.ensures.value ∙ ap (path_counts r legs k) at))

pub next_table-requires-clause-high : goal.next_table-requires-clause-high
next_table-requires-clause-high g c =
    let at : to_z w32 (of_z w32 c.diagonal_at-in-loop-i.result) ≡ pos c.loop-i.i -ℤ pos (c.args.k + c.extent.result) = omega (arith, ints, c.diagonal_at-in-loop-i.ensures) in
    before-end (to_z w32 (of_z w32 c.diagonal_at-in-loop-i.result)) c.loop-i.i c.args.k (extent c.args.legs.now) c.extent.result at c.extent.ensures.value c.loop-i-test.true

pub returns-in_err-table-2-clause-wide : goal.returns-in_err-table-2-clause-wide
returns-in_err-table-2-clause-wide g c =
    let p = err_from_is_err_and c.from_residual-in_err-table-2.result c.from_residual-in_err-table-2.ensures.1 in
    rw (p.1, p.2) (λ w. c.in_err-table-2.ensures.wide (let f : c.in_err-table-2.field-0.0 ≡ Wide = cc w in ap Err f))

pub counted-requires-in-loop-i-clause-table : goal.counted-requires-in-loop-i-clause-table
counted-requires-in-loop-i-clause-table g c =
    let T : ℤ → Type 0 = λ t. IsTable g.C.Ring.ring c.args.legs.now c.args.k t (ways_to c.args.legs.now c.args.k t) c.in_ok-table-2.table.entries in
    let at : to_z w32 (of_z w32 c.diagonal_at-in-loop-i.result) +ℤ pos 1 ≡ to_z w32 (of_z w32 c.diagonal_at-in-loop-i-2.result) = omega (arith, ints, c.diagonal_at-in-loop-i.ensures, c.diagonal_at-in-loop-i-2.ensures) in
    subst T at c.in_ok-table-2.ensures.value

pub loop-i-preserved : goal.loop-i-preserved
loop-i-preserved g c =
    let r = g.C.Ring.ring in let legs = c.args.legs.now in let k = c.args.k in let far = k + c.extent.result in
    let T : ℤ → Type 0 = λ t. IsTable r legs k t (ways_to legs k t) c.in_ok-table-2.table.entries in
    let at : to_z w32 (of_z w32 c.diagonal_at-in-loop-i.result) +ℤ pos 1 ≡ pos (c.loop-i.i + 1) -ℤ pos far = omega (arith, ints, c.diagonal_at-in-loop-i.ensures) in
    let here : to_z w32 (of_z w32 c.diagonal_at-in-loop-i-2.result) ≡ pos (c.loop-i.i + 1) -ℤ pos far = omega (arith, ints, c.diagonal_at-in-loop-i-2.ensures) in
    (subst T at c.in_ok-table-2.ensures.value, row-push (λ v. v.items) (diagonal_counts r legs k far) (c.loop-i.i + 1) c.loop-i.diagonals.items c.push-in-loop-i.new.self.items c.in_ok-counted-2.field-0 c.loop-i.invariant.1 c.in_ok-push-2.ensures.items (c.in_ok-counted-2.ensures.value ∙ ap (path_counts r legs k) here))

pub invariant_of-result : goal.invariant_of-result
invariant_of-result g c =
    let r = g.C.Ring.ring in let legs = c.args.legs.now in let k = c.args.k in let far = k + c.extent.result in
    let copied : legs ≡ c.in_ok-clone.field-0 = search rules in
    let all : c.loop-i.i + 1 ≡ 2 * far + 1 = omega (arith, c.loop-i-test.false) in
    let built : IsBuilt r legs k far (map (λ v. v.items) c.loop-i.diagonals.items) = record {
      few = c.requires;
      end = ap (λ e. k + e) c.extent.ensures.value;
      diagonals = c.loop-i.invariant.1 ∙ ap (listed (diagonal_counts r legs k far)) all;
    } in
    subst (λ (l : Legs). IsBuilt r l k far (map (λ v. v.items) c.loop-i.diagonals.items)) copied built
