use Rattle.std.proofs.Common.{◌≡◌, ℤ, pos, ◌+ℤ◌, ◌+◌, take, w32, Err, true, false, sym, ap, arith, subst}
use Rattle.std.proofs.lemmas.Int.{to_z-of_z}
use Rattle.std.proofs.lemmas.Result.{err_from_is_err_and}
use Rattle.tv_ring.specs.declared.fault.RingFault.TheVariants.{Wide}
use Rattle.tv_spec_slices.specs.Slices.{fits}
use Rattle.tv_spec_slices.specs.Paths.{ways_at}
use Rattle.tv_slices.specs.Tables.{known, HasRow, IsTable}
use Rattle.tv_slices.proofs.Levels.{shares, shares-start, shares-next, row-of, suits-of, next-table, next-wide}
use Rattle.tv_slices.proofs.table.next_table.Goals as goal
use Rattle.tv_slices.proofs.table.next_table.Goals.{in-Some+in_ok-push_slice, in_default}

pub loop-i-init : goal.loop-i-init
loop-i-init g c =
    let T : ℤ → Type 0 = λ t. IsTable g.C.Ring.ring c.args.legs.now c.args.k (t +ℤ pos 1) (shares c.args.legs.now c.args.k t (take 0 c.args.table.now.entries)) c.new-next.result.entries in
    subst T (sym (to_z-of_z w32 c.args.t c.ranges.t)) (shares-start g.C.Ring.ring c.args.legs.now c.args.k c.args.t c.known.ensures.diagrams c.args.table.now.entries c.new-next.result.entries c.new-next.ensures.empty)

pub push_slice-requires-clause-row : goal.push_slice-requires-clause-row
push_slice-requires-clause-row g c =
    let T : ℤ → Type 0 = λ t. HasRow g.C.Ring.ring (ways_at c.args.legs.now c.args.k t c.in-Some.a.now) (known c.args.legs.now c.args.k t c.in-Some.a.now) c.in-Some.row.now in
    let es = c.args.table.now.entries in
    let fit = suits-of g.C.Ring.ring c.args.legs.now c.args.k c.args.t c.known.ensures.diagrams es c.requires.table c.loop-i.i c.in-Some.a.now c.in-Some.row.now (sym c.in-Some.ensures.entry) in
    subst T (sym (to_z-of_z w32 c.args.t c.ranges.t)) (row-of g.C.Ring.ring c.args.legs.now c.args.k c.args.t c.known.ensures.diagrams es c.requires.table c.in-Some.a.now c.in-Some.row.now c.in-Some.ensures.value fit)

pub push_slice-requires-clause-suits : goal.push_slice-requires-clause-suits
push_slice-requires-clause-suits g c =
    let T : ℤ → Type 0 = λ t. fits c.args.legs.now t c.in-Some.a.now ≡ true in
    subst T (sym (to_z-of_z w32 c.args.t c.ranges.t)) (suits-of g.C.Ring.ring c.args.legs.now c.args.k c.args.t c.known.ensures.diagrams c.args.table.now.entries c.requires.table c.loop-i.i c.in-Some.a.now c.in-Some.row.now (sym c.in-Some.ensures.entry))

pub returns-in_err-push_slice-clause-wide : goal.returns-in_err-push_slice-clause-wide
returns-in_err-push_slice-clause-wide g c =
    let fits_t = c.ranges.t in
    let r = g.C.Ring.ring in let legs = c.args.legs.now in let k = c.args.k in let t = c.args.t in let es = c.args.table.now.entries in
    let are = c.known.ensures.diagrams in let a = c.in-Some.a.now in let row = c.in-Some.row.now in
    let e = sym c.in-Some.ensures.entry in
    let fit = suits-of r legs k t are es c.requires.table c.loop-i.i a row e in
    let has = row-of r legs k t are es c.requires.table a row c.in-Some.ensures.value fit in
    let T : ℤ → Type 0 = λ t. IsTable r legs k (t +ℤ pos 1) (shares legs k t (take c.loop-i.i es)) c.loop-i.next.entries in
    let before = subst T (to_z-of_z w32 t c.ranges.t) c.loop-i.invariant in
    let one = simp to_z-of_z at c.in_err-push_slice.ensures.wide in
    let p = err_from_is_err_and c.from_residual.result c.from_residual.ensures.1 in
    rw (p.1, p.2) (λ w. next-wide r legs k t are es c.requires.table c.loop-i.i a row e has c.len-i-end.ensures.unique c.requires.low c.requires.high (one (let f : c.in_err-push_slice.field-0.0 ≡ Wide = cc w in ap Err f) (shares legs k t (take c.loop-i.i es)) before))

pub loop-i-preserved : goal.loop-i-preserved
loop-i-preserved g c =
    let fits_t = c.ranges.t in
    let r = g.C.Ring.ring in let legs = c.args.legs.now in let k = c.args.k in let t = c.args.t in let es = c.args.table.now.entries in
    let are = c.known.ensures.diagrams in
    let T : ℤ → Type 0 = λ t. IsTable r legs k (t +ℤ pos 1) (shares legs k t (take (c.loop-i.i + 1) es)) c.match-get_index.next.entries in
    let B : ℤ → Type 0 = λ t. IsTable r legs k (t +ℤ pos 1) (shares legs k t (take c.loop-i.i es)) c.loop-i.next.entries in
    let before = subst B (to_z-of_z w32 t c.ranges.t) c.loop-i.invariant in
    subst T (sym (to_z-of_z w32 t c.ranges.t)) (elim c.match-get_index.branch [
      | in-Some+in_ok-push_slice w ↦
          let e = sym w.in-Some.ensures.entry in
          let fit = suits-of r legs k t are es c.requires.table c.loop-i.i w.in-Some.a.now w.in-Some.row.now e in
          let has = row-of r legs k t are es c.requires.table w.in-Some.a.now w.in-Some.row.now w.in-Some.ensures.value fit in
          let one = simp to_z-of_z at w.in_ok-push_slice.ensures.table in
          let done = shares-next r legs k t are es c.loop-i.i w.in-Some.a.now w.in-Some.row.now w.push_slice.new.next.entries e has (one (shares legs k t (take c.loop-i.i es)) before) in
          subst (λ m. IsTable r legs k (t +ℤ pos 1) (shares legs k t (take (c.loop-i.i + 1) es)) m.entries) (sym w.next-is) done
      | in_default w ↦ absurd (let off : false ≡ true = w.in_default.ensures.found.1 (omega arith) in cc)
    ])

pub returns-clause-value : goal.returns-clause-value
returns-clause-value g c =
    let B : ℤ → Type 0 = λ t. IsTable g.C.Ring.ring c.args.legs.now c.args.k (t +ℤ pos 1) (shares c.args.legs.now c.args.k t (take c.loop-i.i c.args.table.now.entries)) c.loop-i.next.entries in
    let before = subst B (to_z-of_z w32 c.args.t c.ranges.t) c.loop-i.invariant in
    next-table g.C.Ring.ring c.args.legs.now c.args.k c.args.t c.known.ensures.diagrams c.args.table.now.entries c.requires.table c.loop-i.next.entries c.loop-i.i (omega arith) c.len-i-end.ensures.unique c.requires.low before
