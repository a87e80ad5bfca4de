use Rattle.std.proofs.Common.{◌≡◌, ◌≤◌, ◌+◌, ◌∷◌, [], ◌++◌, Err, ap, ◌∙◌, sym, subst}
use Rattle.std.proofs.lemmas.Result.{err_from_is_err_and}
use Rattle.tv_ring.specs.declared.fault.RingFault.TheVariants.{Wide}
use Rattle.tv_laws_counts.specs.Ways.{corner_ways}
use Rattle.tv_assigned_series.specs.Terms.{front_terms}
use Rattle.tv_assigned_series.specs.Empties.{empties}
use Rattle.tv_assigned_series.proofs.Fronts.{still-beyond}
use Rattle.tv_assigned_series.proofs.Gathered.{gathered, gathered-first, gathered-empty, gathered-next, gathered-within, gathered-all}
use Rattle.tv_assigned_series.proofs.Keeping.{read-place}
use Rattle.tv_assigned_series.proofs.product.product.Goals as goal

pub returns-in_err-product-clause-wide : goal.returns-in_err-product-clause-wide
returns-in_err-product-clause-wide g c =
    let p = err_from_is_err_and c.from_residual.result c.from_residual.ensures.1 in
    rw (p.1, p.2) (λ w.
    still-beyond g.C.Ring.ring (empties c.empty_count.result) c.args.legs.now c.args.k
    (λ i. subst (λ ls. corner_ways ls i ≤ corner_ways c.args.legs.now i) (sym (ap empties c.empty_count.ensures ∙ gathered-first c.args.legs.now)) (gathered-within c.args.legs.now 0 i))
    (c.in_err-product.ensures.wide (let f : c.in_err-product.field-0.0 ≡ Wide = cc w in ap Err f)))

pub loop-corner-init : goal.loop-corner-init
loop-corner-init g c = c.in_ok-product.ensures.value ∙ ap (λ ls. front_terms g.C.Ring.ring ls c.args.k) (ap empties c.empty_count.ensures ∙ gathered-first c.args.legs.now)

pub loop-corner-preserved-then-is_empty : goal.loop-corner-preserved-then-is_empty
loop-corner-preserved-then-is_empty g c =
    c.loop-corner.invariant ∙ ap (λ ls. front_terms g.C.Ring.ring ls c.args.k)
    (gathered-empty c.args.legs.now c.loop-corner.corner-index c.corner-item.result c.loop-corner-test.true c.corner-item.is c.if-is_empty.ensures)

pub with_corner-requires : goal.with_corner-requires
with_corner-requires g c = record {
  front = gathered c.args.legs.now c.loop-corner.corner-index;
  corner = c.corner-item.result;
  boxes = c.args.k;
  few = c.requires;
  product = c.loop-corner.invariant;
  series = read-place g.C.Ring.ring c.corner-item.result c.args.k _ c.in_ok-place.place c.at.result.now c.in_ok-place.ensures.value c.at.ensures;
}

pub returns-in_err-product-2-clause-wide : goal.returns-in_err-product-2-clause-wide
returns-in_err-product-2-clause-wide g c =
    let r = g.C.Ring.ring in let legs = c.args.legs.now in let t = c.loop-corner.corner-index in let corner = c.corner-item.result in
    let p = err_from_is_err_and c.from_residual-in_err-product-2.result c.from_residual-in_err-product-2.ensures.1 in
    let series = read-place r corner c.args.k _ c.in_ok-place.place c.at.result.now c.in_ok-place.ensures.value c.at.ensures in
    let next : gathered legs t ++ corner ∷ [] ≡ gathered legs (t + 1) = gathered-next legs t corner c.loop-corner-test.true c.corner-item.is c.if-is_empty.ensures in
    rw (p.1, p.2) (λ w.
    still-beyond r (gathered legs t ++ corner ∷ []) legs c.args.k
    (λ i. subst (λ ls. corner_ways ls i ≤ corner_ways legs i) (sym next) (gathered-within legs (t + 1) i))
    (c.in_err-product-2.ensures.wide (let f : c.in_err-product-2.field-0.0 ≡ Wide = cc w in ap Err f) (gathered legs t) corner c.args.k c.loop-corner.invariant series))

pub loop-corner-preserved : goal.loop-corner-preserved
loop-corner-preserved g c =
    let r = g.C.Ring.ring in let legs = c.args.legs.now in let t = c.loop-corner.corner-index in let corner = c.corner-item.result in
    let series = read-place r corner c.args.k _ c.in_ok-place.place c.at.result.now c.in_ok-place.ensures.value c.at.ensures in
    c.in_ok-product-2.ensures.value (gathered legs t) corner c.args.k c.loop-corner.invariant series
    ∙ ap (λ ls. front_terms r ls c.args.k) (gathered-next legs t corner c.loop-corner-test.true c.corner-item.is c.if-is_empty.ensures)

pub returns-clause-value : goal.returns-clause-value
returns-clause-value g c = c.loop-corner.invariant ∙ gathered-all g.C.Ring.ring c.args.legs.now c.loop-corner.corner-index c.args.k c.loop-corner-test.false
