use Rattle.std.proofs.Common.{◌≡◌, ℤ, List, [], ◌∷◌, false, drop, refl, sym, ◌∙◌, ap, arith}
use Rattle.std.proofs.lemmas.List.{drop_all}
use Rattle.tv_spec_series.specs.Families.{entries_before}
use Rattle.tv_report_reader.proofs.checks.entries_before.Goals as goal

before-none : (u : List ℤ) → entries_before u [] ≡ false
before-none [] = refl
before-none (x ∷ u) = refl

pub returns-then-k-second : goal.returns-then-k-second
returns-then-k-second c =
    let front = drop c.loop-k.k c.args.first.now in
    let none = drop_all c.loop-k.k c.args.second.now (omega (arith, c.if-k-second.true)) in
    sym (before-none front) ∙ ap (entries_before front) (sym none) ∙ c.loop-k.invariant
