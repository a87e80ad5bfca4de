use Rattle.std.proofs.Common.{◌≡◌, ◌+◌, ◌≤◌, ◌∷◌, [], ◌++◌, Err, ap, ◌∙◌, sym, subst, arith}
use Rattle.std.proofs.lemmas.Result.{err_from_is_err_and}
use Rattle.tv_ring.specs.declared.fault.RingFault.TheVariants.{Wide}
use Rattle.tv_cells.specs.Extras.{empty_legs}
use Rattle.tv_laws_counts.specs.Ways.{corner_ways}
use Rattle.tv_assigned_series.specs.Terms.{front_terms}
use Rattle.tv_assigned_series.specs.Empties.{empties}
use Rattle.tv_assigned_series.proofs.Fronts.{still-beyond}
use Rattle.tv_assigned_series.proofs.Gathered.{fewer-empties}
use Rattle.tv_assigned_series.proofs.Powers.{empties-next}
use Rattle.tv_assigned_series.proofs.empties.Powers.power.Goals as goal

pub returns-in_err-product-clause-wide : goal.returns-in_err-product-clause-wide
returns-in_err-product-clause-wide g c =
    let r = g.C.Ring.ring in let m = c.loop-place.place in
    let p = err_from_is_err_and c.from_residual-in_err-product.result c.from_residual-in_err-product.ensures.1 in
    rw (p.1, p.2) (λ w.
    still-beyond r (empties m ++ empty_legs ∷ []) (empties c.args.count) c.args.k
    (λ i. subst (λ ls. corner_ways ls i ≤ corner_ways (empties c.args.count) i) (sym (empties-next m)) (fewer-empties (m + 1) c.args.count i (omega (arith, c.loop-place-test.true))))
    (c.in_err-product.ensures.wide (let f : c.in_err-product.field-0.0 ≡ Wide = cc w in ap Err f) (empties m) empty_legs c.args.k c.loop-place.invariant c.requires.corner))

pub keep-requires : goal.keep-requires
keep-requires g c =
    let m = c.loop-place.place in
    (c.args.k, c.in_ok-copy.ensures.value ∙ (c.in_ok-product.ensures.value (empties m) empty_legs c.args.k c.loop-place.invariant c.requires.corner ∙ ap (λ ls. front_terms g.C.Ring.ring ls c.args.k) (empties-next m)))
