use Rattle.std.proofs.Common.{◌≡◌, ℕ, ◌<◌, ◌≤◌, ◌+◌, pos, ◌+ℤ◌, Some, true, false, sym, ap, ◌∙◌, subst, arith}
use Rattle.std.specs.Prelude.{◌||◌, cond}
use Rattle.std.specs.Map.{lookup}
use Rattle.std.proofs.lemmas.Int.{to_z-of_z}
use Rattle.indexmap.specs.IndexMap.{insert_entry}
use Rattle.tv_cells.specs.Extras.{extent}
use Rattle.tv_spec_slices.specs.Slices.{Shape, at, same_shape, extras_of}
use Rattle.tv_spec_slices.specs.Paths.{full_of}
use Rattle.tv_laws_sums.specs.Sums.{charged}
use Rattle.tv_slices.specs.Tables.{known, HasRow}
use Rattle.tv_sums.specs.Plans.{plan_for, is_slice}
use Rattle.tv_sums.specs.Keys.{cut}
use Rattle.tv_slices.specs.Joined.{IsSum}
use Rattle.tv_sums.specs.Parts.{kept_in, ways_in, summed, IsEnd}
use Rattle.tv_sums.proofs.Told.{tells-empty, row-sum, charged-none}
use Rattle.tv_sums.proofs.Ends.{ending}
use Rattle.tv_sums.proofs.LastTable.{end-passed, never-slice, never-few, end-put, ending-tells}
use Rattle.tv_sums.proofs.slices.push_last.Goals as goal

pub returns-then-not-is_slice : goal.returns-then-not-is_slice
returns-then-not-is_slice g c = λ old slices done are at_t e high low is has end.
    let r = g.C.Ring.ring in let legs = c.args.legs.now in let plan = c.args.plan in let h = c.args.heights.now in
    let k = plan.k in let top = plan.top in let n = plan.n in let q = plan_for k old top n in
    let off : is_slice legs q (at h) ≡ false = sym (c.is_slice.ensures ∙ ap (λ p. is_slice legs p (at h)) e) ∙ c.if-not-is_slice.true in
    subst (λ p. IsEnd r legs old p slices (λ q. done q || same_shape q h) c.args.all.now.entries) (sym e)
    (end-passed r legs k old top n slices are high done h c.args.all.now.entries (never-slice r legs k old top n slices are high h off) (subst (λ p. IsEnd r legs old p slices done c.args.all.now.entries) e end))

pub returns-then-extras_of-from : goal.returns-then-extras_of-from
returns-then-extras_of-from g c = λ old slices done are at_t e high low is has end.
    let fits_t = c.ranges.t in
    let r = g.C.Ring.ring in let legs = c.args.legs.now in let plan = c.args.plan in let h = c.args.heights.now in
    let k = plan.k in let top = plan.top in let n = plan.n in
    let full = simp to_z-of_z at c.full_of.ensures.value in
    let extras = simp to_z-of_z at c.extras_of.ensures in
    let b_is : c.in_ok-b.b ≡ ending legs old n h = c.in_ok-b.ensures ∙ (ap (λ m. cut (at h) m n) full ∙ ap (λ t. cut (at h) (full_of legs t (extent legs)) n) at_t) in
    let count : c.extras_of.result ≡ extras_of legs (old +ℤ pos 1) (ending legs old n h) = extras ∙ (ap (λ t. extras_of legs t c.in_ok-b.b) at_t ∙ ap (extras_of legs (old +ℤ pos 1)) b_is) in
    let more : k < extras_of legs (old +ℤ pos 1) (ending legs old n h) = omega arith in
    subst (λ p. IsEnd r legs old p slices (λ q. done q || same_shape q h) c.args.all.now.entries) (sym e)
    (end-passed r legs k old top n slices are high done h c.args.all.now.entries (never-few r legs k old top n slices are high h more) (subst (λ p. IsEnd r legs old p slices done c.args.all.now.entries) e end))

pub returns : goal.returns
returns g c = λ old slices done are at_t e high low is has end.
    let fits_t = c.ranges.t in
    let r = g.C.Ring.ring in let legs = c.args.legs.now in let plan = c.args.plan in let h = c.args.heights.now in
    let k = plan.k in let top = plan.top in let n = plan.n in let q = plan_for k old top n in let u = old +ℤ pos 1 in
    let b = ending legs old n h in let rows = c.args.all.now.entries in let new = c.insert.new.self.entries in let sum = c.in_ok-sum.sum in
    let full = simp to_z-of_z at c.full_of.ensures.value in
    let extras = simp to_z-of_z at c.extras_of.ensures in
    let len = simp to_z-of_z at c.known.ensures.value in
    let b_is : c.in_ok-b.b ≡ b = c.in_ok-b.ensures ∙ (ap (λ m. cut (at h) m n) full ∙ ap (λ t. cut (at h) (full_of legs t (extent legs)) n) at_t) in
    let count : c.extras_of.result ≡ extras_of legs u b = extras ∙ (ap (λ t. extras_of legs t c.in_ok-b.b) at_t ∙ ap (extras_of legs u) b_is) in
    let few : extras_of legs u b ≤ k = omega arith in
    let len_is : c.known.result ≡ known legs k u b = len ∙ (ap (λ t. known legs k t c.in_ok-b.b) at_t ∙ ap (known legs k u) b_is) in
    let on : is_slice legs q (at h) ≡ true = sym (c.is_slice.ensures ∙ ap (λ p. is_slice legs p (at h)) e) ∙ c.if-not-is_slice.false in
    let F = summed legs k old slices b in
    let plain : (x y : ℕ) → x ≡ y → x ≡ 0 + y = λ x y same. omega arith in
    let tells = ending-tells r legs k old top n slices are high h is on few low c.args.row.now (subst (λ p. HasRow r (ways_in legs old p n slices h) (kept_in legs p n h) c.args.row.now) e has) in
    let is_sum = subst (λ m. IsSum r c.empty_row.result c.args.row.now 0 m sum) len_is c.in_ok-sum.ensures.value in
    let own : HasRow r F (known legs k u b) sum =
    row-sum g.met.C.Ring.laws (λ e. 0) F F (known legs k u b) (known legs k u b) (known legs k u b) 0 c.empty_row.result c.args.row.now sum
    (tells-empty r (known legs k u b) c.empty_row.result c.empty_row.ensures.counts c.empty_row.ensures.reached) tells (omega arith) (omega arith) is_sum (λ e l. plain (F e) (charged F 0 e) (sym (charged-none F e))) in
    subst (λ p. IsEnd r legs old p slices (λ q. done q || same_shape q h) new) (sym e)
    (end-put r legs k old top n slices are high h is on few done sum rows new
    (subst (λ s. (q : Shape) → lookup (same_shape q) new ≡ cond (same_shape s q) (Some sum) (lookup (same_shape q) rows)) b_is c.in_ok-insert.ensures.updates.0)
    (subst (λ s. new ≡ insert_entry same_shape rows s sum) b_is c.in_ok-insert.ensures.entries) own (subst (λ p. IsEnd r legs old p slices done rows) e end))
