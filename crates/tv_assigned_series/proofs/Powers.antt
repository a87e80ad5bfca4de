-- The products over corners without legs that are kept: one that is cut, and one that is put in.
use Rattle.std.proofs.Common.{◌≡◌, ℕ, suc, ◌+◌, ◌<◌, ◌≤◌, List, [], ◌∷◌, ◌++◌, length, take, set, get_or, sym, ◌∙◌, ap, subst, arith, length-append, inl, inr}
use Rattle.std.specs.Prelude.{pos, ◌+ℤ◌, ◌-ℤ◌, ◌≤ℤ◌}
use Rattle.std.specs.Int.{int_min}
use Rattle.std.proofs.lemmas.Int.{ints}
use Rattle.std.proofs.lemmas.Bool.{cases_eq, cases_lt}
use Rattle.std.proofs.lemmas.List.{replicate_more, length-set, get_or-set_same, get_or-set_other, get_or_append_left, get_or-append-add}
use Rattle.tv_ring.specs.Operations.{Operations}
use Rattle.tv_laws_series.specs.Terms.{Terms, listed, upto, above}
use Rattle.tv_laws_series.specs.Series.{series_cut}
use Rattle.tv_laws_series.proofs.Exponents.{above_adds}
use Rattle.tv_laws_series.proofs.Listed.{length-listed, listed-take}
use Rattle.tv_laws_series.proofs.SeriesFrom.{terms-same}
use Rattle.tv_cells.specs.declared.legs.Legs.{Legs}
use Rattle.tv_cells.specs.Extras.{empty_legs}
use Rattle.tv_assigned_series.specs.Terms.{front_times, front_terms}
use Rattle.tv_assigned_series.specs.Empties.{empties, IsPower, ArePowers}

pub empties-next : (m : ℕ) → empties m ++ empty_legs ∷ [] ≡ empties (m + 1)
empties-next m = replicate_more m empty_legs

module _ {A : Type 0} (r : Operations A) where
  upto-front : (legs : List Legs) (j : ℕ) → upto (front_terms r legs j) ≡ pos j
  upto-front legs j = ap (λ n. (pos 0 +ℤ pos n) -ℤ pos 1) (length-listed (front_times r legs) (suc j)) ∙ last j
    where
      last : (j : ℕ) → (pos 0 +ℤ pos (suc j)) -ℤ pos 1 ≡ pos j
      last j = omega (arith, ints)

  -- a product that is known farther, cut
  cut-front : (legs : List Legs) (j k : ℕ) → k ≤ j → series_cut (pos k) (front_terms r legs j) ≡ front_terms r legs k
  cut-front legs j k h =
      let count : above (pos 0) (pos k +ℤ pos 1) ≡ suc k = let adds = above_adds (pos 0) (pos k +ℤ pos 1) (omega (arith, ints)) in omega (arith, ints) in
      let low : int_min (pos 0) (pos k +ℤ pos 1) ≡ pos 0 = grind (arith, ints) in
      terms-same (int_min (pos 0) (pos k +ℤ pos 1)) (pos 0) (take (above (pos 0) (pos k +ℤ pos 1)) (listed (front_times r legs) (suc j))) (listed (front_times r legs) (suc k))
      low (ap (λ n. take n (listed (front_times r legs) (suc j))) count ∙ listed-take (front_times r legs) (suc j) (suc k) (omega arith))

  pub cut-power : (m k : ℕ) (s copy cut : Terms A) → IsPower r m s → pos k ≤ℤ upto s → copy ≡ s → cut ≡ series_cut (pos k) copy → cut ≡ front_terms r (empties m) k
  cut-power m k s copy cut power far ec et =
      let last : upto s ≡ pos power.0 = ap upto power.1 ∙ upto-front (empties m) power.0 in
      let within : k ≤ power.0 = let l : pos k ≤ℤ pos power.0 = rw last at far in omega (arith, ints) in
      et ∙ (ap (series_cut (pos k)) (ec ∙ power.1) ∙ cut-front (empties m) power.0 k within)

  -- a product that is put in
  pub powers-set : (ss new : List (Terms A)) (i : ℕ) (x : Terms A) → i < length ss → new ≡ set ss i x → IsPower r (i + 1) x → ArePowers r ss → ArePowers r new
  powers-set ss new i x h put power kept m s within at = elim (cases_eq m i) [
    | inl e ↦ subst (IsPower r (suc m)) (sym (at ∙ (ap (λ l. get_or l m s) put ∙ (ap (λ k. get_or (set ss i x) k s) e ∙ get_or-set_same ss i x s h)))) (subst (λ k. IsPower r k x) (let l : i + 1 ≡ suc m = omega (arith, e) in l) power)
    | inr ne ↦ kept m s (let a = ap length put in omega (arith, length-set ss i x, within, a)) (at ∙ (ap (λ l. get_or l m s) put ∙ get_or-set_other ss i m x s ne))
  ]

  pub powers-push : (ss new : List (Terms A)) (i : ℕ) (x : Terms A) → i ≡ length ss → new ≡ ss ++ x ∷ [] → IsPower r (i + 1) x → ArePowers r ss → ArePowers r new
  powers-push ss new i x last put power kept m s within at = elim (cases_lt m i) [
    | inl less ↦ kept m s (omega (arith, less, last)) (at ∙ (ap (λ l. get_or l m s) put ∙ get_or_append_left ss (x ∷ []) s m (omega (arith, less, last))))
    | inr not_less ↦
        let e : m ≡ length ss + 0 = let a = ap length put in omega (arith, not_less, last, within, a, length-append ss (x ∷ [])) in
        subst (IsPower r (suc m)) (sym (at ∙ (ap (λ l. get_or l m s) put ∙ (ap (λ k. get_or (ss ++ x ∷ []) k s) e ∙ get_or-append-add ss (x ∷ []) 0 s)))) (subst (λ k. IsPower r k x) (let l : i + 1 ≡ suc m = omega (arith, e, last) in l) power)
  ]
