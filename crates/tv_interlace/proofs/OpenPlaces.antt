-- What the open places of a neighbour can have: where fewer extras are left than the least, or more than the most, there is
-- none.
use Rattle.std.proofs.Common.{◌≡◌, ℕ, zero, suc, ◌+◌, ◌-◌, ◌<◌, ◌≤◌, ℤ, pos, ◌+ℤ◌, Bool, true, false, cond, ◌&&◌, nat_eq, List, [], ◌∷◌, ◌++◌, length, arith, refl, sym, ◌∙◌, ap, append-nil, length-append, inl, inr}
use Rattle.std.specs.Prelude.{◌⊎◌}
use Rattle.std.specs.List.{range_with_len}
use Rattle.std.proofs.lemmas.Bool.{cases_Bool, cases_lt}
use Rattle.std.proofs.lemmas.Bool.Decides.{nat_tests}
use Rattle.tv_lemmas.specs.Sums.{sum_of}
use Rattle.tv_cells.proofs.Diagonals.{numbers-next}
use Rattle.tv_cells.specs.declared.legs.Legs.{Legs}
use Rattle.tv_spec_slices.specs.Slices.{Shape, reach, base_at, interlaces}
use Rattle.tv_spec_slices.specs.Paths.{columns, shape}
use Rattle.tv_interlace.specs.declared.bounds.TheConstants.{WITHOUT_END}
use Rattle.tv_interlace.specs.Bounds.{floor, ceiling}
use Rattle.tv_interlace.specs.Columns.{behind, longer, one_more}
use Rattle.tv_interlace.specs.Rooms.{low, high, open_from}
use Rattle.tv_interlace.proofs.Bounded.{floor-past, ceiling-past}
use Rattle.tv_interlace.proofs.Beside.{behind-append, behind-none, longer-parts, all_empty, outside}

pub open-next : (f : ℕ → ℕ) (d n : ℕ) → d < n → open_from f d n ≡ f d + open_from f (suc d) n
open-next f d n l =
    let e : d + 1 ≡ suc d = omega arith in
    ap (sum_of f) (numbers-next d n l) ∙ ap (λ k. f d + sum_of f (range_with_len k (n - k))) e

pub open-past : (f : ℕ → ℕ) (d n : ℕ) → n ≤ d → open_from f d n ≡ 0
open-past f d n l = let z : n - d ≡ 0 = omega arith in rw z refl

pub open-after : (f : ℕ → ℕ) (d n : ℕ) → open_from f d n - f d ≡ open_from f (suc d) n
open-after f d n = elim (cases_lt d n) [
  | inl l ↦ let e = open-next f d n l in omega arith
  | inr m ↦ let e = open-past f d n m in let g = open-past f (suc d) n (omega arith) in omega arith
]

sum-none : (f : ℕ → ℕ) (n d : ℕ) → ((e : ℕ) → d ≤ e → f e ≡ 0) → sum_of f (range_with_len d n) ≡ 0
sum-none f zero d each = refl
sum-none f (suc n) d each = let here = each d (omega arith) in let rest = sum-none f n (d + 1) (λ e l. each e (omega arith)) in omega arith

ended-none : (legs : Legs) (t : ℤ) (a : Shape) (full : ℕ) (front : List ℕ) (d : ℕ) (b : Bool) → d ≡ full + length front → 0 < open_from (low legs t a) d (suc (reach a)) → behind t a full front (cond b ([] ∷ []) []) ≡ []
unfolding behind
ended-none legs t a full front d false at_d some = refl
ended-none legs t a full front d true at_d some = elim (cases_Bool (interlaces t a (shape full (front ++ [])))) [
  | inl on ↦
      let alone = ap (λ hs. interlaces t a (shape full hs)) (sym (append-nil front)) ∙ on in
      let none = sum-none (low legs t a) (suc (reach a) - d) d (λ e l. let z = floor-past t a (shape full front) e alone (omega arith) in omega arith) in
      absurd (omega arith)
  | inr off ↦ rw off refl
]

module _ (legs : Legs) (t : ℤ) (a : Shape) (full : ℕ) where
  columns-parts : (front : List ℕ) (d k top m : ℕ) → behind t a full front (columns legs (t +ℤ pos 1) d (suc k) top m) ≡
      behind t a full front (longer legs (t +ℤ pos 1) d k top m) ++ behind t a full front (cond (nat_eq (base_at legs (t +ℤ pos 1) d) 0 && nat_eq m 0) ([] ∷ []) [])
  unfolding columns longer
  columns-parts front d k top m = behind-append t a full front (longer legs (t +ℤ pos 1) d k top m) (cond (nat_eq (base_at legs (t +ℤ pos 1) d) 0 && nat_eq m 0) ([] ∷ []) [])

  columns-end : (front : List ℕ) (d top m : ℕ) → behind t a full front (columns legs (t +ℤ pos 1) d 0 top m) ≡ behind t a full front (cond (nat_eq m 0) ([] ∷ []) [])
  unfolding columns
  columns-end front d top m = refl

  not-ended : (front : List ℕ) (d m : ℕ) (p : Bool) → d ≡ full + length front → (m < open_from (low legs t a) d (suc (reach a))) ⊎ (open_from (high legs t a) d (suc (reach a)) < m) →
      behind t a full front (cond (p && nat_eq m 0) ([] ∷ []) []) ≡ []
  not-ended front d m p at_d (inl few) = ended-none legs t a full front d (p && nat_eq m 0) at_d (omega arith)
  not-ended front d m p at_d (inr many) = let off : (p && nat_eq m 0) ≡ false = grind (arith, nat_tests) in rw off (behind-none t a full front)

  pub none : (left : ℕ) (front : List ℕ) (d top m : ℕ) → d ≡ full + length front → top ≤ WITHOUT_END → (m < open_from (low legs t a) d (suc (reach a))) ⊎ (open_from (high legs t a) d (suc (reach a)) < m) →
      behind t a full front (columns legs (t +ℤ pos 1) d left top m) ≡ []
  none zero front d top m at_d w room = columns-end front d top m ∙ not-ended front d m true at_d room
  none (suc k) front d top m at_d w room =
      columns-parts front d k top m
      ∙ (ap (λ ss. behind t a full front (longer legs (t +ℤ pos 1) d k top m) ++ ss) (not-ended front d m (nat_eq (base_at legs (t +ℤ pos 1) d) 0) at_d room)
      ∙ (append-nil (behind t a full front (longer legs (t +ℤ pos 1) d k top m))
      ∙ (longer-parts legs t (t +ℤ pos 1) a full front d k top m
      ∙ all_empty (one_more legs t (t +ℤ pos 1) a full front d k top m) (suc m) (each (none k)))))
    where
      h_of : ℕ → ℕ
      h_of e = base_at legs (t +ℤ pos 1) d + e

      less : (e : ℕ) → e < suc m → 0 < h_of e → floor t a d ≤ h_of e → h_of e ≤ ceiling t a d → (m < open_from (low legs t a) d (suc (reach a))) ⊎ (open_from (high legs t a) d (suc (reach a)) < m) →
          (m - e < open_from (low legs t a) (suc d) (suc (reach a))) ⊎ (open_from (high legs t a) (suc d) (suc (reach a)) < m - e)
      less e l p f g (inl few) = elim (cases_lt d (suc (reach a))) [
        | inl before ↦ let s = open-next (low legs t a) d (suc (reach a)) before in inl (omega arith)
        | inr past ↦ let z = open-past (low legs t a) d (suc (reach a)) past in absurd (omega arith)
      ]
      less e l p f g (inr many) = elim (cases_lt d (suc (reach a))) [
        | inl before ↦ let s = open-next (high legs t a) d (suc (reach a)) before in inr (omega arith)
        | inr past ↦ let z = ceiling-past t a d (omega arith) in absurd (omega arith)
      ]

      each : ((front : List ℕ) (d top m : ℕ) → d ≡ full + length front → top ≤ WITHOUT_END → (m < open_from (low legs t a) d (suc (reach a))) ⊎ (open_from (high legs t a) d (suc (reach a)) < m) →
          behind t a full front (columns legs (t +ℤ pos 1) d k top m) ≡ []) → (e : ℕ) → e < suc m → one_more legs t (t +ℤ pos 1) a full front d k top m e ≡ []
      each rest e l = outside legs t (t +ℤ pos 1) a full front d k top m e (h_of e) at_d refl w (λ within.
          let long : length (front ++ h_of e ∷ []) ≡ length front + 1 = length-append front (h_of e ∷ []) in
          rest (front ++ h_of e ∷ []) (suc d) (h_of e) (m - e) (omega arith) (let l = within.1 in omega arith) (less e l within.0 within.2 within.3 room))
