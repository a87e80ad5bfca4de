use Rattle.std.proofs.Common.{◌≡◌, ℕ, ◌+◌, ◌<◌, sym, ap, subst, arith}
use Rattle.std.specs.Prelude.{MatchOption}
use Rattle.std.specs.Option.{option_copied}
use Rattle.std.proofs.lemmas.Result.{IfOk-weaker}
use Rattle.tv_slices.specs.Tables.{HasRow}
use Rattle.tv_slices.specs.Joined.{IsSum}
use Rattle.tv_sums.proofs.Told.{tells-row, tells-empty, tells-fewer, row-sum, charged-none}
use Rattle.tv_sums.proofs.slices.with_row.Goals as goal

pub returns-in-Some : goal.returns-in-Some
returns-in-Some g c =
    let r = g.C.Ring.ring in let len = c.args.len in
    IfOk-weaker c.row_sum.result (λ s. IsSum r c.in-Some.before.now c.args.row.now 0 len s) _ (λ new is f h matched tells.
    let has : HasRow r f len c.in-Some.before.now = subst (λ o. MatchOption (option_copied o) ((e : ℕ) → e < len → f e ≡ 0) (HasRow r f len)) c.in-Some.is matched in
    row-sum g.met.C.Ring.laws f h (λ e. f e + h e) len len len 0 c.in-Some.before.now c.args.row.now new (tells-row r f len c.in-Some.before.now has) tells (omega arith) (omega arith) is (λ e l. ap (λ v. f e + v) (sym (charged-none h e)))) c.row_sum.ensures.value

pub returns-in-None : goal.returns-in-None
returns-in-None g c =
    let r = g.C.Ring.ring in let len = c.args.len in let empty = c.empty_row.result in
    IfOk-weaker c.row_sum-in-None.result (λ s. IsSum r empty c.args.row.now 0 len s) _ (λ new is f h matched tells.
    let none : (e : ℕ) → e < len → f e ≡ 0 = subst (λ o. MatchOption (option_copied o) ((e : ℕ) → e < len → f e ≡ 0) (HasRow r f len)) c.in-None.is matched in
    row-sum g.met.C.Ring.laws f h (λ e. f e + h e) len len len 0 empty c.args.row.now new
    (tells-fewer r (λ e. 0) f len len empty (omega arith) (λ e l. sym (none e l)) (tells-empty r len empty c.empty_row.ensures.counts c.empty_row.ensures.reached)) tells (omega arith) (omega arith) is (λ e l. ap (λ v. f e + v) (sym (charged-none h e)))) c.row_sum-in-None.ensures.value
