-- The lists of heights at a diagonal: each that is as asked is listed once, and no other.
--
-- high b d top hs  == the heights hs from place d on fall from top, none is 0, and each is at least b there, also past the end
-- spent b d hs     == by how much all of them are higher than b
use Rattle.std.specs.Prelude.{◌≡◌, ℕ, zero, suc, ◌+◌, ◌-◌, ℤ, Bool, true, false, cond, ◌&&◌, nat_eq, nat_lt, nat_le, List, [], ◌∷◌, map, filter, length}
use Rattle.std.specs.List.{flat_map}
use Rattle.std.specs.Cmp.Lexicographic.{pointwise}
use Rattle.std.proofs.Common.{refl, sym, ap, ◌∙◌, arith, add-zero}
use Rattle.std.proofs.lemmas.Bool.Decides.{nat_tests}
use Rattle.tv_lemmas.specs.Sums.{sum_of}
use Rattle.tv_lemmas.proofs.Sums.{sum_of-append, sum_of-flat_map, sum_of-map}
use Rattle.tv_cells.specs.declared.legs.Legs.{Legs}
use Rattle.tv_cells.specs.Extras.{bit}
use Rattle.tv_spec_slices.specs.Slices.{base_at}
use Rattle.tv_spec_slices.specs.Paths.{down, columns}
use Rattle.tv_laws_slices.proofs.Sums.{sum_of-same, sum_of-zero, sum_of-filter, sum_of-down}

abbrev pub high : (ℕ → ℕ) → ℕ → ℕ → List ℕ → Bool
high b d top [] = nat_eq (b d) 0
high b d top (h ∷ hs) = (nat_lt 0 h && nat_le h top) && (nat_le (b d) h && high b (suc d) h hs)

abbrev pub spent : (ℕ → ℕ) → ℕ → List ℕ → ℕ
spent b d [] = 0
spent b d (h ∷ hs) = (h - b d) + spent b (suc d) hs

abbrev pub listed : List ℕ → List (List ℕ) → ℕ
listed hs lists = sum_of (λ ks. bit (pointwise nat_eq hs ks)) lists

end-empty : (c : Bool) → listed [] (cond c ([] ∷ []) []) ≡ bit c
end-empty true = omega arith
end-empty false = refl

end-more : (c : Bool) (h : ℕ) (hs : List ℕ) → listed (h ∷ hs) (cond c ([] ∷ []) []) ≡ 0
end-more true h hs = omega arith
end-more false h hs = refl

behind-empty : (c : ℕ) (lists : List (List ℕ)) → listed [] (map (λ ks. c ∷ ks) lists) ≡ 0
behind-empty c [] = refl
behind-empty c (ks ∷ lists) = let rest = behind-empty c lists in omega arith

behind-more : (h c : ℕ) (hs : List ℕ) (lists : List (List ℕ)) → listed (h ∷ hs) (map (λ ks. c ∷ ks) lists) ≡ cond (nat_eq h c) (listed hs lists) 0
behind-more h c hs lists = sum_of-map (λ ks. bit (pointwise nat_eq (h ∷ hs) ks)) (λ ks. c ∷ ks) lists ∙ by_test (nat_eq h c)
  where
    by_test : (q : Bool) → sum_of (λ ks. bit (q && pointwise nat_eq hs ks)) lists ≡ cond q (listed hs lists) 0
    by_test true = refl
    by_test false = sum_of-zero (λ (ks : List ℕ). 0) (λ ks. refl) lists

pub exchange : (p q : Bool) (v : ℕ) → cond p (cond q v 0) 0 ≡ cond q (cond p v 0) 0
exchange true true v = refl
exchange true false v = refl
exchange false true v = refl
exchange false false v = refl

-- what is asked of the first height, together with what is asked of the others
first_height : (b h m top l n s : ℕ) (g : Bool) →
    cond (nat_le b h && nat_le h (b + m)) (cond (nat_lt 0 h && nat_le h top) (bit (g && (nat_le l n && nat_eq s (m - (h - b))))) 0) 0
    ≡ bit (((nat_lt 0 h && nat_le h top) && (nat_le b h && g)) && (nat_le (suc l) (suc n) && nat_eq ((h - b) + s) m))
first_height b h m top l n s g = grind (arith, nat_tests)

next_place : (d n : ℕ) → suc d + n ≡ d + suc n
next_place d n = omega arith

-- asked b d n top m hs == so they are, there are at most n, and the sum is m
abbrev pub asked : (ℕ → ℕ) → ℕ → ℕ → ℕ → ℕ → List ℕ → Bool
asked b d n top m hs = high b d top hs && (nat_le (length hs) n && nat_eq (spent b d hs) m)

last_empty : (b : ℕ) (n m : ℕ) → b ≡ 0 → bit (nat_eq m 0) ≡ bit (nat_eq b 0 && (nat_le 0 n && nat_eq 0 m))
last_empty b n m e = grind (arith, nat_tests)

none_more : (p q : Bool) (l : ℕ) → 0 ≡ bit (p && (nat_le (suc l) 0 && q))
none_more p q l = grind (arith, nat_tests)

empty_here : (b : ℕ) (n m : ℕ) → bit (nat_eq b 0 && nat_eq m 0) ≡ bit (nat_eq b 0 && (nat_le 0 n && nat_eq 0 m))
empty_here b n m = grind (arith, nat_tests)

-- a height of at least b, at most m above it, in front of what is listed from it
module _ (b m top : ℕ) (tails : ℕ → ℕ → List (List ℕ)) where
  abbrev piece : ℕ → List (List ℕ)
  piece e = map (λ ks. (b + e) ∷ ks) (tails (b + e) (m - e))

  abbrev fits : ℕ → Bool
  fits e = nat_lt 0 (b + e) && nat_le (b + e) top

  no_height : listed [] (flat_map piece (filter fits (down m))) ≡ 0
  no_height =
      sum_of-flat_map (λ ks. bit (pointwise nat_eq [] ks)) piece (filter fits (down m))
      ∙ sum_of-zero (λ e. listed [] (piece e)) (λ e. behind-empty (b + e) (tails (b + e) (m - e))) (filter fits (down m))

  module _ (h n : ℕ) (hs : List ℕ) (base : ℕ → ℕ) (d : ℕ) where
    abbrev rest : ℕ → ℕ → ℕ
    rest c k = bit (asked base d n c k hs)

    at_height : (g : ℕ) → g ≡ h → cond (nat_lt 0 g && nat_le g top) (rest g (m - (h - b))) 0 ≡ cond (nat_lt 0 h && nat_le h top) (rest h (m - (h - b))) 0
    at_height g same = rw same refl

    chosen : (c r : Bool) → nat_le b h ≡ c → cond (c && r) (cond (fits (h - b)) (rest (b + (h - b)) (m - (h - b))) 0) 0 ≡ cond (c && r) (cond (nat_lt 0 h && nat_le h top) (rest h (m - (h - b))) 0) 0
    chosen false r l = refl
    chosen true r l = ap (λ v. cond r v 0) (at_height (b + (h - b)) (grind (arith, nat_tests)))

    one : ((c k : ℕ) → listed hs (tails c k) ≡ rest c k) → (e : ℕ) → cond (fits e) (listed (h ∷ hs) (piece e)) 0 ≡ cond (nat_eq h (b + e)) (cond (fits e) (rest (b + e) (m - e)) 0) 0
    one each e =
        ap (λ v. cond (fits e) v 0) (behind-more h (b + e) hs (tails (b + e) (m - e)))
        ∙ (ap (λ v. cond (fits e) (cond (nat_eq h (b + e)) v 0) 0) (each (b + e) (m - e))
        ∙ exchange (fits e) (nat_eq h (b + e)) (rest (b + e) (m - e)))

    some_height : ((c k : ℕ) → listed hs (tails c k) ≡ rest c k) → listed (h ∷ hs) (flat_map piece (filter fits (down m))) ≡ bit (((nat_lt 0 h && nat_le h top) && (nat_le b h && high base d h hs)) && (nat_le (suc (length hs)) (suc n) && nat_eq ((h - b) + spent base d hs) m))
    some_height each =
        sum_of-flat_map (λ ks. bit (pointwise nat_eq (h ∷ hs) ks)) piece (filter fits (down m))
        ∙ (sum_of-filter (λ e. listed (h ∷ hs) (piece e)) fits (down m)
        ∙ (sum_of-same (λ e. cond (fits e) (listed (h ∷ hs) (piece e)) 0) (λ e. cond (nat_eq h (b + e)) (cond (fits e) (rest (b + e) (m - e)) 0) 0) (one each) (down m)
        ∙ (sum_of-down b h m (λ e. cond (fits e) (rest (b + e) (m - e)) 0)
        ∙ (chosen (nat_le b h) (nat_le h (b + m)) refl
        ∙ first_height b h m top (length hs) n (spent base d hs) (high base d h hs)))))

none_plus : (k : ℕ) → 0 + k ≡ k
none_plus k = omega arith

pub listed-once : (legs : Legs) (t : ℤ) (d n top m : ℕ) (hs : List ℕ) → base_at legs t (d + n) ≡ 0 → listed hs (columns legs t d n top m) ≡ bit (asked (base_at legs t) d n top m hs)
unfolding columns
listed-once legs t d zero top m [] e =
    let here : d + 0 ≡ d = omega arith in
    end-empty (nat_eq m 0) ∙ last_empty (base_at legs t d) 0 m (ap (base_at legs t) (sym here) ∙ e)
listed-once legs t d zero top m (h ∷ hs) e =
    end-more (nat_eq m 0) h hs ∙ none_more (high (base_at legs t) d top (h ∷ hs)) (nat_eq (spent (base_at legs t) d (h ∷ hs)) m) (length hs)
listed-once legs t d (suc n) top m [] e =
    let b = base_at legs t d in
    let tails = columns legs t (suc d) n in
    sum_of-append (λ ks. bit (pointwise nat_eq [] ks)) (flat_map (piece b m top tails) (filter (fits b m top tails) (down m))) (cond (nat_eq b 0 && nat_eq m 0) ([] ∷ []) [])
    ∙ (ap (λ s. s + listed [] (cond (nat_eq b 0 && nat_eq m 0) ([] ∷ []) [])) (no_height b m top tails)
    ∙ (none_plus (listed [] (cond (nat_eq b 0 && nat_eq m 0) ([] ∷ []) []))
    ∙ (end-empty (nat_eq b 0 && nat_eq m 0) ∙ empty_here b (suc n) m)))
listed-once legs t d (suc n) top m (h ∷ hs) e =
    let b = base_at legs t d in
    let tails = columns legs t (suc d) n in
    let front = flat_map (piece b m top tails) (filter (fits b m top tails) (down m)) in
    sum_of-append (λ ks. bit (pointwise nat_eq (h ∷ hs) ks)) front (cond (nat_eq b 0 && nat_eq m 0) ([] ∷ []) [])
    ∙ (ap (λ s. listed (h ∷ hs) front + s) (end-more (nat_eq b 0 && nat_eq m 0) h hs)
    ∙ (add-zero (listed (h ∷ hs) front)
    ∙ some_height b m top tails h n hs (base_at legs t) (suc d) (λ c k. listed-once legs t (suc d) n c k hs (ap (base_at legs t) (next_place d n) ∙ e))))
