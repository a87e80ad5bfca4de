use Rattle.std.proofs.Common.{◌≡◌, ℕ, ◌+◌, ◌-◌, ◌<◌, ◌^◌, suc, length, min, refl, sym, ap, subst, ◌∙◌, arith}
use Rattle.std.specs.Prelude.{MatchOption}
use Rattle.std.proofs.lemmas.Result.{IfOk-weaker}
use Rattle.tv_slices.specs.Tables.{HasRow}
use Rattle.tv_slices.specs.Joined.{IsSum}
use Rattle.tv_slices.proofs.Numbers.{length-numbers}
use Rattle.tv_spec_slices.specs.Slices.{at}
use Rattle.tv_sums.specs.Parts.{kept_in}
use Rattle.tv_sums.specs.Plans.{left}
use Rattle.tv_sums.proofs.Told.{tells-row, row-sum, charged-none}
use Rattle.tv_sums.proofs.heights.more.Goals as goal

all-told : (n m top x : ℕ) → n ≡ suc top - x → m ≡ n → top < 2 ^ 29 → min m (2 ^ 32 - 1) ≡ n
all-told n m top x kept same small = omega arith

pub returns-in-Some : goal.returns-in-Some
returns-in-Some g c =
    let r = g.C.Ring.ring in
    let k = kept_in c.args.legs.now c.args.plan c.args.i c.args.key.now in
    IfOk-weaker c.row_sum.result (λ s. IsSum r c.args.sum c.in-Some.row.now 0 c.costs_of.result s) _ (λ new is f h tells matched.
    let has : HasRow r h k c.in-Some.row.now = subst (λ o. MatchOption o ((e : ℕ) → e < k → h e ≡ 0) (HasRow r h k)) (sym c.in-Some.ensures.value) matched in
    let same : c.costs_of.result ≡ k = c.costs_of.ensures ∙ all-told k (length c.in-Some.row.now.counts.items) c.args.plan.k (left c.args.legs.now c.args.plan c.args.i (at c.args.key.now)) refl (ap length has.counts ∙ length-numbers r h k) c.requires.small.k in
    tells-row r (λ e. f e + h e) k new
    (row-sum g.met.C.Ring.laws f h (λ e. f e + h e) k k k 0 c.args.sum c.in-Some.row.now new tells (tells-row r h k c.in-Some.row.now has) (omega arith) (omega arith)
    (subst (λ n. IsSum r c.args.sum c.in-Some.row.now 0 n new) same is) (λ e l. ap (λ v. f e + v) (sym (charged-none h e))))) c.row_sum.ensures.value
