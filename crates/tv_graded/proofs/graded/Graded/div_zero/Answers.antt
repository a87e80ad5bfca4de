use Rattle.std.proofs.Common.{rules, ◌≡◌, ◌∙◌, ap, map, w64, SFits}
use Rattle.std.proofs.lemmas.Int.{to_z-of_z}
use Rattle.std.proofs.lemmas.Result.{err_from_is_err_and}
use Rattle.tv_spec_series.specs.Families.{divided_row}
use Rattle.tv_graded.proofs.Dividends.{divided_held, same_family, divided_wide}
use Rattle.tv_graded.proofs.graded.Graded.div_zero.Goals as goal

pub returns-in_err-rows-clause-wide : goal.returns-in_err-rows-clause-wide
returns-in_err-rows-clause-wide g c =
    let f = c.self.inside in let p = err_from_is_err_and c.from_residual.result c.from_residual.ensures.1 in
    let wide = rw c.deref.ensures.value at c.in_err-rows.ensures.wide in
    rw (p.1, p.2, ← c.self.view_is) (divided_wide c.args.zero.now (record { heights = f.heights.items; top = f.top; upto = f.upto; rows = f.rows.items }) c.in_err-rows.field-0.0 c.self.invariant.family wide)

pub invariant_of-result : goal.invariant_of-result
invariant_of-result g c =
    let f = c.self.inside in let r = g.C.Ring.ring in
    let fits : SFits w64 f.top = search rules in let fits_upto : SFits w64 f.upto = search rules in
    let heights : c.in_ok-to_vec.field-0.items ≡ f.heights.items = search rules in
    let rows : c.in_ok-rows.rows.items ≡ map (divided_row r c.args.zero.now) f.rows.items = c.in_ok-rows.ensures.value ∙ ap (map (divided_row r c.args.zero.now)) c.deref.ensures.value in
    let through = rw (← c.self.view_is) at c.requires.known in
    divided_held g.met.C.Ring.laws c.args.zero.now c.requires.unit c.known.ensures.value (record { heights = f.heights.items; top = f.top; upto = f.upto; rows = f.rows.items }) _ c.self.invariant through
    (same_family _ _ _ _ _ _ _ _ heights (to_z-of_z w64 f.top fits) (to_z-of_z w64 f.upto fits_upto) rows)
