-- The order of classes by equal and by different degrees.
use Rattle.std.proofs.Common.{◌≡◌, ℤ, Bool, true, false, List, refl, sym, ◌∙◌, ap, ◌||◌, int_lt, arith}
use Rattle.std.specs.Ordering.{int_eq}
use Rattle.std.proofs.lemmas.Int.{ints}
use Rattle.std.proofs.lemmas.Bool.Decides.{Decides-int_eq}
use Rattle.tv_spec_plane.specs.Web.{degree_of}
use Rattle.tv_laws_series.proofs.NormalForm.{bool_cases}
use Rattle.tv_spec_series.specs.Families.{entries_before, comes_before}
use Rattle.tv_spec_series.proofs.Order.{comes_before_is}

pub before_entries : (hs u v us vs : List ℤ) (d e : ℤ) (b : Bool) → d ≡ degree_of hs u → e ≡ degree_of hs v → d ≡ e → us ≡ u → vs ≡ v → b ≡ entries_before us vs → b ≡ comes_before hs u v
before_entries hs u v us vs d e b du ev same eu ew is =
    let k : degree_of hs u ≡ degree_of hs v = cc in
    is ∙ ap (λ w. entries_before w vs) eu ∙ ap (entries_before u) ew ∙ sym (comes_before_is hs u v ∙ rw (k, int_lt-same (degree_of hs v)) refl)
  where
    int_lt-same : (n : ℤ) → int_lt n n ≡ false
    int_lt-same n = grind (arith, ints)

pub before_degrees : (hs u v : List ℤ) (d e : ℤ) (b : Bool) → d ≡ degree_of hs u → e ≡ degree_of hs v → (d ≡ e → ⊥) → b ≡ int_lt d e → b ≡ comes_before hs u v
before_degrees hs u v d e b du ev apart is =
    let other : int_eq (degree_of hs u) (degree_of hs v) ≡ false = int_eq-other (degree_of hs u) (degree_of hs v) (λ k. apart (du ∙ k ∙ sym ev)) in
    is ∙ rw (du, ev) (sym (comes_before_is hs u v ∙ rw other (or_false (int_lt (degree_of hs u) (degree_of hs v)))))
  where
    int_eq-other : (m n : ℤ) → (m ≡ n → ⊥) → int_eq m n ≡ false
    int_eq-other m n apart = bool_cases (int_eq m n) (λ h. absurd (apart ((Decides-int_eq m n).0 h))) (λ h. h)

    or_false : (b : Bool) → (b || false) ≡ b
    or_false true = refl
    or_false false = refl
