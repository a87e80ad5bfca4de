use Rattle.std.proofs.Common.{◌≡◌, ℕ, ◌+◌, ◌*◌, ℤ, pos, ◌+ℤ◌, ◌-ℤ◌, w32, to_z, of_z, sym, arith, subst}
use Rattle.std.proofs.lemmas.Int.{ints}
use Rattle.tv_slices.specs.Tables.{ways_to, IsTable}
use Rattle.tv_sums.proofs.counts.last_table.Goals as goal

pub loop-i-init : goal.loop-i-init
loop-i-init g c = c.in_ok-table.ensures.value

pub next_table_by_sums-requires-clause-table : goal.next_table_by_sums-requires-clause-table
next_table_by_sums-requires-clause-table g c =
    let T : ℤ → Type 0 = λ t. IsTable g.C.Ring.ring c.args.legs.now c.args.k t (ways_to c.args.legs.now c.args.k t) c.loop-i.table.entries in
    let at : to_z w32 (of_z w32 c.diagonal_at.result) ≡ pos c.loop-i.i -ℤ pos c.args.far = omega (arith, ints, c.diagonal_at.ensures) in
    subst T (sym at) c.loop-i.invariant

pub loop-i-preserved : goal.loop-i-preserved
loop-i-preserved g c =
    let T : ℤ → Type 0 = λ t. IsTable g.C.Ring.ring c.args.legs.now c.args.k t (ways_to c.args.legs.now c.args.k t) c.in_ok-table-2.table.entries in
    let at : to_z w32 (of_z w32 c.diagonal_at.result) +ℤ pos 1 ≡ pos (c.loop-i.i + 1) -ℤ pos c.args.far = omega (arith, ints, c.diagonal_at.ensures) in
    subst T at c.in_ok-table-2.ensures.value

pub returns-clause-value : goal.returns-clause-value
returns-clause-value g c =
    let T : ℕ → Type 0 = λ n. IsTable g.C.Ring.ring c.args.legs.now c.args.k (pos n -ℤ pos c.args.far) (ways_to c.args.legs.now c.args.k (pos n -ℤ pos c.args.far)) c.loop-i.table.entries in
    let all : c.loop-i.i ≡ 2 * c.args.far = omega arith in
    subst T all c.loop-i.invariant
