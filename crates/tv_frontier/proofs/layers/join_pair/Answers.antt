use Rattle.std.proofs.Common.{◌≡◌, ◌<◌, suc, refl, sym, ap, subst, ◌∙◌, length, get_or, arith, w64, to_z, of_z}
use Rattle.std.specs.Prelude.{pos, List, [], ℤ}
use Rattle.std.proofs.lemmas.Int.{ints}
use Rattle.std.proofs.lemmas.List.{get_or_default}
use Rattle.std.proofs.lemmas.Option.{MatchOption-at_some, MatchOption-at_none}
use Rattle.tv_spec_boxes.specs.Assignments.{Rows}
use Rattle.tv_spec_series.specs.Families.{classes}
use Rattle.tv_assigned_series.specs.FamilyFaults.{OnWide}
use Rattle.tv_assigned_series.proofs.FamilyTold.{on-wide}
use Rattle.tv_frontier.specs.Joining.{IsJoin, Reaches}
use Rattle.tv_frontier.specs.Rows.{after_of, HasShape, KeepsRows, IsCrowdedBy, IsPart}
use Rattle.tv_frontier.specs.Bounds.{IsAfter}
use Rattle.tv_frontier.specs.Layers.{pair_addends, CrowdedIn}
use Rattle.tv_frontier.proofs.Bounded.{bound-at, bound-small, stage-read, stage-through, shaped-at, shaped-set}
use Rattle.tv_frontier.proofs.Next.{keys-once}
use Rattle.tv_frontier.proofs.Pair.{nowhere-stays, pair-grows, pair-crowded}
use Rattle.tv_frontier.proofs.layers.join_pair.Goals as goal

pub returns-in_default-clause-grows : goal.returns-in_default-clause-grows
returns-in_default-clause-grows g c =
    nowhere-stays g.C.Ring.IsValue g.C.Ring.ring c.args.stage.now.web.now c.args.stage.now.d c.args.stage.now.n c.args.stage.now.t c.args.key.now c.args.option.now (classes c.args.part.now.rows) c.args.keys.now c.args.parts.now c.requires.keys (MatchOption-at_none _ _ c.in_default.is c.in_ok-met.ensures.after)

pub join_rows-requires-clause-stage : goal.join_rows-requires-clause-stage
join_rows-requires-clause-stage g c =
    let after : IsAfter c.args.stage.now.web.now c.args.stage.now.d c.args.stage.now.t c.args.key.now c.args.option.now c.in-Some.met.place = MatchOption-at_some _ _ c.in-Some.met c.in-Some.is c.in_ok-met.ensures.after in
    let there : c.in-Some.met.place < length c.args.bounds.now = (let h = after.place in let l = c.requires.bounds.one_each in omega arith) in
    let bound = bound-at c.args.stage.now.web.now c.args.stage.now.d c.args.stage.now.n c.args.bounds.now c.in-Some.met.place (pos 0) c.requires.bounds.each there in
    let small = bound-small c.args.stage.now.web.now c.args.stage.now.d c.args.stage.now.n c.args.stage.now.floor c.args.stage.now.upto (get_or c.args.bounds.now c.in-Some.met.place (pos 0)) c.args.stage.now.t c.requires.stage bound in
    let n : c.args.stage.now.n ≡ (to_z w64 (of_z w64 c.args.stage.now.n)) = (let f = c.requires.stage.order in omega (arith, ints)) in
    let low : c.args.stage.now.floor ≡ (to_z w64 (of_z w64 c.args.stage.now.floor)) = (let f = c.requires.stage.small_low in omega (arith, ints)) in
    let last : (get_or c.args.bounds.now c.in-Some.met.place (pos 0)) ≡ (to_z w64 (of_z w64 (get_or c.args.bounds.now c.in-Some.met.place (pos 0)))) = omega (arith, ints) in
    stage-read c.args.stage.now.web.now c.args.stage.now.d c.args.stage.now.n c.args.stage.now.floor (get_or c.args.bounds.now c.in-Some.met.place (pos 0)) (to_z w64 (of_z w64 c.args.stage.now.n)) (to_z w64 (of_z w64 c.args.stage.now.floor)) (to_z w64 (of_z w64 (get_or c.args.bounds.now c.in-Some.met.place (pos 0)))) c.args.stage.now.t n low last (stage-through c.args.stage.now.web.now c.args.stage.now.d c.args.stage.now.n c.args.stage.now.floor c.args.stage.now.upto (get_or c.args.bounds.now c.in-Some.met.place (pos 0)) c.args.stage.now.t c.requires.stage bound)

pub join_rows-requires-clause-join : goal.join_rows-requires-clause-join
join_rows-requires-clause-join g c =
    let join : IsJoin c.args.stage.now.web.now c.args.stage.now.d c.args.stage.now.t c.args.key.now c.args.option.now c.in-Some.met.join.legs c.in-Some.met.join.class c.in-Some.met.join.near c.in-Some.met.join.shift = MatchOption-at_some _ _ c.in-Some.met c.in-Some.is c.in_ok-met.ensures.join in
    let first : c.in-Some.met.join.first.now ≡ c.args.key.now = MatchOption-at_some _ _ c.in-Some.met c.in-Some.is c.in_ok-met.ensures.first in
    let new : c.in-Some.met.join.new.now ≡ c.args.option.now = MatchOption-at_some _ _ c.in-Some.met c.in-Some.is c.in_ok-met.ensures.new in
    subst (λ (z : List Rows). IsJoin c.args.stage.now.web.now c.args.stage.now.d c.args.stage.now.t z c.in-Some.met.join.new.now c.in-Some.met.join.legs c.in-Some.met.join.class c.in-Some.met.join.near c.in-Some.met.join.shift) (sym first) (subst (λ (z : List Rows). IsJoin c.args.stage.now.web.now c.args.stage.now.d c.args.stage.now.t c.args.key.now z c.in-Some.met.join.legs c.in-Some.met.join.class c.in-Some.met.join.near c.in-Some.met.join.shift) (sym new) join)

pub join_rows-requires-clause-part : goal.join_rows-requires-clause-part
join_rows-requires-clause-part g c =
    let first : c.in-Some.met.join.first.now ≡ c.args.key.now = MatchOption-at_some _ _ c.in-Some.met c.in-Some.is c.in_ok-met.ensures.first in
    let n : (to_z w64 (of_z w64 c.args.stage.now.n)) ≡ c.args.stage.now.n = (let f = c.requires.stage.order in omega (arith, ints)) in
    subst (λ (z : ℤ). IsPart g.C.Ring.IsValue g.C.Ring.ring c.args.stage.now.web.now c.args.stage.now.d z c.args.stage.now.t c.in-Some.met.join.first.now c.args.part.now) (sym n) (subst (λ (z : List Rows). IsPart g.C.Ring.IsValue g.C.Ring.ring c.args.stage.now.web.now c.args.stage.now.d c.args.stage.now.n c.args.stage.now.t z c.args.part.now) (sym first) c.requires.part)

pub join_rows-requires-clause-reaches : goal.join_rows-requires-clause-reaches
join_rows-requires-clause-reaches g c =
    let after : IsAfter c.args.stage.now.web.now c.args.stage.now.d c.args.stage.now.t c.args.key.now c.args.option.now c.in-Some.met.place = MatchOption-at_some _ _ c.in-Some.met c.in-Some.is c.in_ok-met.ensures.after in
    let join : IsJoin c.args.stage.now.web.now c.args.stage.now.d c.args.stage.now.t c.args.key.now c.args.option.now c.in-Some.met.join.legs c.in-Some.met.join.class c.in-Some.met.join.near c.in-Some.met.join.shift = MatchOption-at_some _ _ c.in-Some.met c.in-Some.is c.in_ok-met.ensures.join in
    let there : c.in-Some.met.place < length c.args.bounds.now = (let h = after.place in let l = c.requires.bounds.one_each in omega arith) in
    let bound = bound-at c.args.stage.now.web.now c.args.stage.now.d c.args.stage.now.n c.args.bounds.now c.in-Some.met.place (pos 0) c.requires.bounds.each there in
    let small = bound-small c.args.stage.now.web.now c.args.stage.now.d c.args.stage.now.n c.args.stage.now.floor c.args.stage.now.upto (get_or c.args.bounds.now c.in-Some.met.place (pos 0)) c.args.stage.now.t c.requires.stage bound in
    let last : (to_z w64 (of_z w64 (get_or c.args.bounds.now c.in-Some.met.place (pos 0)))) ≡ (get_or c.args.bounds.now c.in-Some.met.place (pos 0)) = omega (arith, ints) in
    let n : (to_z w64 (of_z w64 c.args.stage.now.n)) ≡ c.args.stage.now.n = (let f = c.requires.stage.order in omega (arith, ints)) in
    let reach = c.requires.suffices c.args.option.now c.in-Some.met.place c.requires.new after in
    subst (λ (z : ℤ). Reaches c.args.stage.now.web.now c.args.stage.now.d z c.args.part.now.upto (to_z w64 (of_z w64 (get_or c.args.bounds.now c.in-Some.met.place (pos 0)))) c.in-Some.met.join.shift) (sym n) (subst (λ (z : ℤ). Reaches c.args.stage.now.web.now c.args.stage.now.d c.args.stage.now.n c.args.part.now.upto z c.in-Some.met.join.shift) (sym last) (subst (λ (z : ℤ). Reaches c.args.stage.now.web.now c.args.stage.now.d c.args.stage.now.n c.args.part.now.upto (get_or c.args.bounds.now c.in-Some.met.place (pos 0)) z) (sym join.shift) reach))

pub join_rows-requires-clause-shape : goal.join_rows-requires-clause-shape
join_rows-requires-clause-shape g c =
    let after : IsAfter c.args.stage.now.web.now c.args.stage.now.d c.args.stage.now.t c.args.key.now c.args.option.now c.in-Some.met.place = MatchOption-at_some _ _ c.in-Some.met c.in-Some.is c.in_ok-met.ensures.after in
    let there : c.in-Some.met.place < length c.args.bounds.now = (let h = after.place in let l = c.requires.bounds.one_each in omega arith) in
    let bound = bound-at c.args.stage.now.web.now c.args.stage.now.d c.args.stage.now.n c.args.bounds.now c.in-Some.met.place (pos 0) c.requires.bounds.each there in
    let small = bound-small c.args.stage.now.web.now c.args.stage.now.d c.args.stage.now.n c.args.stage.now.floor c.args.stage.now.upto (get_or c.args.bounds.now c.in-Some.met.place (pos 0)) c.args.stage.now.t c.requires.stage bound in
    let last : (to_z w64 (of_z w64 (get_or c.args.bounds.now c.in-Some.met.place (pos 0)))) ≡ (get_or c.args.bounds.now c.in-Some.met.place (pos 0)) = omega (arith, ints) in
    let within : c.in-Some.met.place < length c.args.parts.now = (let h = after.place in let e = c.requires.one_each in let k = ap length c.requires.keys in omega arith) in
    let same : get_or c.args.parts.now c.in-Some.met.place (get_or c.args.parts.now c.in-Some.met.place c.index-parts-met.result) ≡ (get_or c.args.parts.now c.in-Some.met.place c.index-parts-met.result) = sym (get_or_default c.args.parts.now c.in-Some.met.place c.index-parts-met.result (get_or c.args.parts.now c.in-Some.met.place c.index-parts-met.result) within) in
    subst (λ (z : ℤ). HasShape c.args.stage.now.web.now c.args.stage.now.d z (get_or c.args.parts.now c.in-Some.met.place c.index-parts-met.result)) (sym last) (shaped-at c.args.stage.now.web.now c.args.stage.now.d c.args.bounds.now c.args.parts.now c.in-Some.met.place (get_or c.args.bounds.now c.in-Some.met.place (pos 0)) (get_or c.args.parts.now c.in-Some.met.place c.index-parts-met.result) c.requires.shaped there (get_or_default c.args.bounds.now c.in-Some.met.place (pos 0) (get_or c.args.bounds.now c.in-Some.met.place (pos 0)) there) same)

pub returns-in-Ok-clause-shaped : goal.returns-in-Ok-clause-shaped
returns-in-Ok-clause-shaped g c =
    let after : IsAfter c.args.stage.now.web.now c.args.stage.now.d c.args.stage.now.t c.args.key.now c.args.option.now c.in-Some.met.place = MatchOption-at_some _ _ c.in-Some.met c.in-Some.is c.in_ok-met.ensures.after in
    let there : c.in-Some.met.place < length c.args.bounds.now = (let h = after.place in let l = c.requires.bounds.one_each in omega arith) in
    let bound = bound-at c.args.stage.now.web.now c.args.stage.now.d c.args.stage.now.n c.args.bounds.now c.in-Some.met.place (pos 0) c.requires.bounds.each there in
    let small = bound-small c.args.stage.now.web.now c.args.stage.now.d c.args.stage.now.n c.args.stage.now.floor c.args.stage.now.upto (get_or c.args.bounds.now c.in-Some.met.place (pos 0)) c.args.stage.now.t c.requires.stage bound in
    let last : (to_z w64 (of_z w64 (get_or c.args.bounds.now c.in-Some.met.place (pos 0)))) ≡ (get_or c.args.bounds.now c.in-Some.met.place (pos 0)) = omega (arith, ints) in
    shaped-set c.args.stage.now.web.now c.args.stage.now.d c.args.bounds.now c.args.parts.now c.in-Some.met.place (get_or c.args.bounds.now c.in-Some.met.place (pos 0)) c.join_rows.new.family c.requires.shaped there (get_or_default c.args.bounds.now c.in-Some.met.place (pos 0) (get_or c.args.bounds.now c.in-Some.met.place (pos 0)) there) (subst (λ (z : ℤ). HasShape c.args.stage.now.web.now c.args.stage.now.d z c.join_rows.new.family) last c.in-Ok.ensures.shape)

pub returns-in-Ok-clause-grows : goal.returns-in-Ok-clause-grows
returns-in-Ok-clause-grows g c =
    let after : IsAfter c.args.stage.now.web.now c.args.stage.now.d c.args.stage.now.t c.args.key.now c.args.option.now c.in-Some.met.place = MatchOption-at_some _ _ c.in-Some.met c.in-Some.is c.in_ok-met.ensures.after in
    let first : c.in-Some.met.join.first.now ≡ c.args.key.now = MatchOption-at_some _ _ c.in-Some.met c.in-Some.is c.in_ok-met.ensures.first in
    let new : c.in-Some.met.join.new.now ≡ c.args.option.now = MatchOption-at_some _ _ c.in-Some.met c.in-Some.is c.in_ok-met.ensures.new in
    let n : (to_z w64 (of_z w64 c.args.stage.now.n)) ≡ c.args.stage.now.n = (let f = c.requires.stage.order in omega (arith, ints)) in
    let within : c.in-Some.met.place < length c.args.parts.now = (let h = after.place in let e = c.requires.one_each in let k = ap length c.requires.keys in omega arith) in
    let same : get_or c.args.parts.now c.in-Some.met.place (get_or c.args.parts.now c.in-Some.met.place c.index-parts-met.result) ≡ (get_or c.args.parts.now c.in-Some.met.place c.index-parts-met.result) = sym (get_or_default c.args.parts.now c.in-Some.met.place c.index-parts-met.result (get_or c.args.parts.now c.in-Some.met.place c.index-parts-met.result) within) in
    let listed : c.in-Some.met.place < length c.args.keys.now = (let h = after.place in let k = ap length c.requires.keys in omega arith) in
    let chosen : get_or c.args.keys.now c.in-Some.met.place [] ≡ after_of c.args.stage.now.web.now c.args.stage.now.t c.args.key.now c.args.option.now = ap (λ ks. get_or ks c.in-Some.met.place []) c.requires.keys ∙ after.choice in
    let keeps : KeepsRows g.C.Ring.IsValue g.C.Ring.ring c.args.stage.now.web.now c.args.stage.now.d c.args.stage.now.n c.args.stage.now.t c.in-Some.met.join.first.now c.in-Some.met.join.new.now (classes c.args.part.now.rows) (get_or c.args.parts.now c.in-Some.met.place c.index-parts-met.result) c.join_rows.new.family = subst (λ (z : ℤ). KeepsRows g.C.Ring.IsValue g.C.Ring.ring c.args.stage.now.web.now c.args.stage.now.d z c.args.stage.now.t c.in-Some.met.join.first.now c.in-Some.met.join.new.now (classes c.args.part.now.rows) (get_or c.args.parts.now c.in-Some.met.place c.index-parts-met.result) c.join_rows.new.family) n c.in-Ok.ensures.held in
    pair-grows g.C.Ring.IsValue g.C.Ring.ring c.args.stage.now.web.now c.args.stage.now.d c.args.stage.now.n c.args.stage.now.t c.args.key.now c.args.option.now (classes c.args.part.now.rows) c.args.keys.now c.args.parts.now c.in-Some.met.place (after_of c.args.stage.now.web.now c.args.stage.now.t c.args.key.now c.args.option.now) c.in-Some.met.join.first.now c.in-Some.met.join.new.now (get_or c.args.parts.now c.in-Some.met.place c.index-parts-met.result) c.join_rows.new.family listed chosen refl same first new after.within (keys-once c.args.stage.now.web.now c.args.stage.now.d (suc c.args.stage.now.t) c.args.keys.now c.requires.keys) keeps

pub returns-clause-wide : goal.returns-clause-wide
returns-clause-wide g c =
    let after : IsAfter c.args.stage.now.web.now c.args.stage.now.d c.args.stage.now.t c.args.key.now c.args.option.now c.in-Some.met.place = MatchOption-at_some _ _ c.in-Some.met c.in-Some.is c.in_ok-met.ensures.after in
    let first : c.in-Some.met.join.first.now ≡ c.args.key.now = MatchOption-at_some _ _ c.in-Some.met c.in-Some.is c.in_ok-met.ensures.first in
    let new : c.in-Some.met.join.new.now ≡ c.args.option.now = MatchOption-at_some _ _ c.in-Some.met c.in-Some.is c.in_ok-met.ensures.new in
    let n : (to_z w64 (of_z w64 c.args.stage.now.n)) ≡ c.args.stage.now.n = (let f = c.requires.stage.order in omega (arith, ints)) in
    let within : c.in-Some.met.place < length c.args.parts.now = (let h = after.place in let e = c.requires.one_each in let k = ap length c.requires.keys in omega arith) in
    let same : get_or c.args.parts.now c.in-Some.met.place (get_or c.args.parts.now c.in-Some.met.place c.index-parts-met.result) ≡ (get_or c.args.parts.now c.in-Some.met.place c.index-parts-met.result) = sym (get_or_default c.args.parts.now c.in-Some.met.place c.index-parts-met.result (get_or c.args.parts.now c.in-Some.met.place c.index-parts-met.result) within) in
    let listed : c.in-Some.met.place < length c.args.keys.now = (let h = after.place in let k = ap length c.requires.keys in omega arith) in
    let chosen : get_or c.args.keys.now c.in-Some.met.place [] ≡ after_of c.args.stage.now.web.now c.args.stage.now.t c.args.key.now c.args.option.now = ap (λ ks. get_or ks c.in-Some.met.place []) c.requires.keys ∙ after.choice in
    on-wide (IsCrowdedBy g.C.Ring.IsValue g.C.Ring.ring c.args.stage.now.web.now c.args.stage.now.d c.args.stage.now.n c.args.stage.now.t c.in-Some.met.join.first.now c.in-Some.met.join.new.now (classes c.args.part.now.rows) (get_or c.args.parts.now c.in-Some.met.place c.index-parts-met.result)) (CrowdedIn g.C.Ring.IsValue g.C.Ring.ring c.args.stage.now.web.now c.args.stage.now.d c.args.stage.now.n (suc c.args.stage.now.t) (pair_addends c.args.stage.now.web.now c.args.stage.now.d c.args.stage.now.n c.args.stage.now.t c.args.key.now c.args.option.now (classes c.args.part.now.rows)) c.args.keys.now c.args.parts.now) c.in-Err.fault
    (λ v crowded. pair-crowded g.C.Ring.IsValue g.C.Ring.ring c.args.stage.now.web.now c.args.stage.now.d c.args.stage.now.n c.args.stage.now.t c.args.key.now c.args.option.now (classes c.args.part.now.rows) c.args.keys.now c.args.parts.now c.in-Some.met.place (after_of c.args.stage.now.web.now c.args.stage.now.t c.args.key.now c.args.option.now) c.in-Some.met.join.first.now c.in-Some.met.join.new.now (get_or c.args.parts.now c.in-Some.met.place c.index-parts-met.result) (get_or c.args.parts.now c.in-Some.met.place c.index-parts-met.result) listed chosen refl same first new after.within v crowded)
    (subst (λ (z : ℤ). OnWide c.in-Err.fault (IsCrowdedBy g.C.Ring.IsValue g.C.Ring.ring c.args.stage.now.web.now c.args.stage.now.d z c.args.stage.now.t c.in-Some.met.join.first.now c.in-Some.met.join.new.now (classes c.args.part.now.rows) (get_or c.args.parts.now c.in-Some.met.place c.index-parts-met.result))) n c.in-Err.ensures.wide)
