use Rattle.std.proofs.Common.{◌≡◌, true, false, length, sym, ap, ◌∙◌, arith}
use Rattle.tv_graded.specs.Places.{is_at}
use Rattle.tv_graded.proofs.Held.{held_entries, find-series}
use Rattle.tv_graded.proofs.Places.{place_within, find-gap, find-other_length}
use Rattle.tv_graded.proofs.graded.Graded.get.Goals as goal

pub returns-then-entries-len : goal.returns-then-entries-len
returns-then-entries-len g c =
    let f = c.self.inside in let ok = f.heights.ok in let n = c.len.ensures in
    let entries = c.entries.ensures.value in
    let other : (length c.args.class.now ≡ length f.heights.items) → ⊥ = λ e. c.if-entries-len.true (let l = ap length entries in omega arith) in
    record { value = rw (← c.self.view_is) (find-other_length (length f.heights.items) c.args.class.now f.rows.items (held_entries _ c.self.invariant.family) other) }

pub place_of-place-requires-clause-rows : goal.place_of-place-requires-clause-rows
place_of-place-requires-clause-rows g c = rw (c.deref.ensures.value, c.deref-2.ensures.value) (held_entries _ c.self.invariant.family)

pub index-requires : goal.index-requires
index-requires g c =
    let within = place_within c.args.class.now c.deref-3.result.now c.place_of-place.result (sym c.is_at.ensures.value ∙ c.if-is_at.true) in
    let n = c.deref-3.ensures.len in omega arith

pub returns-then-is_at : goal.returns-then-is_at
returns-then-is_at g c =
    let f = c.self.inside in let v = c.args.class.now in let p = c.place_of-place.result in
    let place = rw (c.deref.ensures.value, c.deref-2.ensures.value) at c.place_of-place.ensures.place in
    let here : is_at v f.rows.items p ≡ true = rw (← c.deref-3.ensures.value) (sym c.is_at.ensures.value ∙ c.if-is_at.true) in
    record { value = rw (← c.self.view_is) (find-series f.heights.items v f.rows.items p c.index.result.now c.series.result.now place here c.index.ensures c.series.ensures.value) }

pub returns-else-is_at : goal.returns-else-is_at
returns-else-is_at g c =
    let f = c.self.inside in let v = c.args.class.now in let p = c.place_of-place.result in
    let place = rw (c.deref.ensures.value, c.deref-2.ensures.value) at c.place_of-place.ensures.place in
    let gap : is_at v f.rows.items p ≡ false = rw (← c.deref-3.ensures.value) (sym c.is_at.ensures.value ∙ c.if-is_at.false) in
    record { value = rw (← c.self.view_is) (find-gap f.heights.items v f.rows.items p c.self.invariant.family.rises place gap) }
