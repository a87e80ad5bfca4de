use Rattle.std.proofs.Common.{rules, ◌≡◌, length, refl, w64, SFits, arith}
use Rattle.std.proofs.lemmas.Int.{to_z-of_z}
use Rattle.tv_spec_series.specs.Families.{cut_row}
use Rattle.tv_graded.proofs.Mapped.{written_back}
use Rattle.tv_graded.proofs.Dividends.{same_family}
use Rattle.tv_graded.proofs.CutFamilies.{cut_held}
use Rattle.tv_graded.proofs.graded.Graded.truncate.Goals as goal

pub invariant_of-self : goal.invariant_of-self
invariant_of-self g c =
    let f = c.self.inside in let n = c.args.upto in let fits : SFits w64 n = search rules in let up = to_z-of_z w64 n fits in
    let each = rw up at c.truncate_each.ensures.value in
    let count : f.rows.len ≡ length f.rows.items = let ok = f.rows.ok in omega arith in
    let rows = written_back (cut_row n) f.rows.len f.rows.items c.truncate_each.new.rows c.deref_mut.result.now count each c.deref_mut.ensures.value in
    let known = rw (← c.self.view_is) at c.requires.known in
    cut_held g.met.C.Ring.laws n c.requires.within (record { heights = f.heights.items; top = f.top; upto = f.upto; rows = f.rows.items }) _ known c.self.invariant
    (same_family _ _ _ _ _ _ _ _ refl refl up rows)
