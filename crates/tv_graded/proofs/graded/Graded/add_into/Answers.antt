use Rattle.std.proofs.Common.{rules, ◌≡◌, true, false, List, sym, ap, ◌∙◌, w64, SFits, arith}
use Rattle.std.specs.List.{insert}
use Rattle.std.proofs.lemmas.Int.{to_z-of_z}
use Rattle.std.proofs.lemmas.Result.{err_from_is_err_and}
use Rattle.tv_spec_series.specs.Families.{Row}
use Rattle.tv_graded.specs.Places.{is_at}
use Rattle.tv_graded.proofs.Places.{place_within}
use Rattle.tv_graded.proofs.Held.{put-series, put-insert, added_held, wide_there}
use Rattle.tv_graded.proofs.graded.Graded.add_into.Goals as goal

pub returns-in_err-sum-clause-wide : goal.returns-in_err-sum-clause-wide
returns-in_err-sum-clause-wide g c =
    let f = c.self.inside in let v = c.args.class in let p = c.place_of-place.result in
    let place = rw (c.deref.ensures.value, c.deref-2.ensures.value) at c.place_of-place.ensures.place in
    let here : is_at v f.rows.items p ≡ true = rw (← c.deref-3.ensures.value) (sym c.is_at.ensures.value ∙ c.if-is_at.true) in
    let e = err_from_is_err_and c.from_residual.result c.from_residual.ensures.1 in
    rw (e.1, e.2, ← c.self.view_is) (wide_there g.C.Ring.ring f.heights.items v _ p c.index.result.now c.args.series c.series-then-is_at.result.now c.in_err-sum.field-0.0 place here c.index.ensures c.series-then-is_at.ensures.value c.in_err-sum.ensures.wide)

pub index_mut-requires : goal.index_mut-requires
index_mut-requires g c =
    let within = place_within c.args.class c.deref-3.result.now c.place_of-place.result (sym c.is_at.ensures.value ∙ c.if-is_at.true) in
    let n = c.deref-3.ensures.len in omega arith

-- the class was there, and its row is written over
pub invariant_of-self : goal.invariant_of-self
invariant_of-self g c =
    let f = c.self.inside in let v = c.args.class in let p = c.place_of-place.result in
    let place = rw (c.deref.ensures.value, c.deref-2.ensures.value) at c.place_of-place.ensures.place in
    let here : is_at v f.rows.items p ≡ true = rw (← c.deref-3.ensures.value) (sym c.is_at.ensures.value ∙ c.if-is_at.true) in
    let fits : SFits w64 f.upto = search rules in
    let cut = rw (to_z-of_z w64 f.upto fits) at c.cut.ensures.value in
    let rows = put-series g.C.Ring.ring f.heights.items f.upto v c.args.series f.rows.items p c.index.result.now c.new.result c.series-then-is_at.result.now c.in_ok-sum.sum c.cut.result place here c.index.ensures c.series-then-is_at.ensures.value c.in_ok-sum.ensures.value cut c.new.ensures.value in
    let has_place = rw (← c.self.view_is) at c.requires.place in let known = rw (← c.self.view_is) at c.requires.known in
    added_held g.met.C.Ring.laws _ v c.args.series _ c.self.invariant (record { place = has_place; known = known; series = c.known.ensures.value }) rows

pub returns-in_ok-sum-clause-ok : goal.returns-in_ok-sum-clause-ok
returns-in_ok-sum-clause-ok g c =
    let f = c.self.inside in let v = c.args.class in let p = c.place_of-place.result in
    let place = rw (c.deref.ensures.value, c.deref-2.ensures.value) at c.place_of-place.ensures.place in
    let here : is_at v f.rows.items p ≡ true = rw (← c.deref-3.ensures.value) (sym c.is_at.ensures.value ∙ c.if-is_at.true) in
    let fits : SFits w64 f.upto = search rules in
    let cut = rw (to_z-of_z w64 f.upto fits) at c.cut.ensures.value in
    let rows = put-series g.C.Ring.ring f.heights.items f.upto v c.args.series f.rows.items p c.index.result.now c.new.result c.series-then-is_at.result.now c.in_ok-sum.sum c.cut.result place here c.index.ensures c.series-then-is_at.ensures.value c.in_ok-sum.ensures.value cut c.new.ensures.value in
    rw (← c.self.view_is) (ap (λ (zs : List (Row _)). record { heights = f.heights.items; top = f.top; upto = f.upto; rows = zs }) rows)

-- it was not, and its row is put in its place
pub invariant_of-self-else-is_at : goal.invariant_of-self-else-is_at
invariant_of-self-else-is_at g c =
    let f = c.self.inside in let v = c.args.class in let p = c.place_of-place.result in
    let place = rw (c.deref.ensures.value, c.deref-2.ensures.value) at c.place_of-place.ensures.place in
    let gap : is_at v f.rows.items p ≡ false = rw (← c.deref-3.ensures.value) (sym c.is_at.ensures.value ∙ c.if-is_at.false) in
    let fits : SFits w64 f.upto = search rules in
    let cut = rw (to_z-of_z w64 f.upto fits) at c.cut-cut.ensures.value in
    let inserted : c.insert.new.self.items ≡ insert f.rows.items p c.new-else-is_at.result = c.in_ok-insert.ensures.items in
    let rows = inserted ∙ put-insert g.C.Ring.ring f.heights.items f.upto v c.args.series f.rows.items p c.new-else-is_at.result c.cut-cut.result place gap cut c.new-else-is_at.ensures.value in
    let has_place = rw (← c.self.view_is) at c.requires.place in let known = rw (← c.self.view_is) at c.requires.known in
    added_held g.met.C.Ring.laws _ v c.args.series _ c.self.invariant (record { place = has_place; known = known; series = c.known.ensures.value }) rows

pub returns-in_ok-insert-clause-ok : goal.returns-in_ok-insert-clause-ok
returns-in_ok-insert-clause-ok g c =
    let f = c.self.inside in let v = c.args.class in let p = c.place_of-place.result in
    let place = rw (c.deref.ensures.value, c.deref-2.ensures.value) at c.place_of-place.ensures.place in
    let gap : is_at v f.rows.items p ≡ false = rw (← c.deref-3.ensures.value) (sym c.is_at.ensures.value ∙ c.if-is_at.false) in
    let fits : SFits w64 f.upto = search rules in
    let cut = rw (to_z-of_z w64 f.upto fits) at c.cut-cut.ensures.value in
    let inserted : c.insert.new.self.items ≡ insert f.rows.items p c.new-else-is_at.result = c.in_ok-insert.ensures.items in
    let rows = inserted ∙ put-insert g.C.Ring.ring f.heights.items f.upto v c.args.series f.rows.items p c.new-else-is_at.result c.cut-cut.result place gap cut c.new-else-is_at.ensures.value in
    rw (← c.self.view_is) (ap (λ (zs : List (Row _)). record { heights = f.heights.items; top = f.top; upto = f.upto; rows = zs }) rows)
