-- Where the first rows end, those that go on are behind them.
use Rattle.std.specs.Prelude.{◌≡◌, ℕ, ◌-◌, ◌≤◌, nat_lt, List, [], ◌∷◌, length, drop}
use Rattle.std.proofs.Common.{refl, sym, ap, ◌∙◌, arith}
use Rattle.std.proofs.lemmas.Bool.{lt-ltb}
use Rattle.std.proofs.lemmas.Bool.Decides.{nat_tests}
use Rattle.std.proofs.lemmas.List.{length-drop, drop_all}
use Rattle.tv_images.specs.Least.{rows_before}

none-before : (v : List ℕ) → rows_before [] v ≡ nat_lt 0 (length v)
none-before [] = refl
none-before (y ∷ v) = sym (lt-ltb 0 (length (y ∷ v)) (omega arith))

pub rows-ended : (u v : List ℕ) (i : ℕ) → length u ≤ i → i ≤ length u → i ≤ length v → rows_before (drop i u) (drop i v) ≡ nat_lt (length u) (length v)
rows-ended u v i far near within =
    ap (λ w. rows_before w (drop i v)) (drop_all i u far) ∙ (none-before (drop i v) ∙ (ap (nat_lt 0) (length-drop i v) ∙ longer (length u) (length v) far near))
  where
    longer : (m n : ℕ) → m ≤ i → i ≤ m → nat_lt 0 (n - i) ≡ nat_lt m n
    longer m n l h = grind (arith, nat_tests)
