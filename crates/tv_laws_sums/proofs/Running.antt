-- The ways up to a height that a place gets are the running sums of those up to the heights it had.
--
-- sum_of-other   sums that differ at one place; sum_of-each, at none
-- sum_of-swap    a sum of sums, the other way round
-- spent-put, spent-next  what is spent before and after a place is replaced
use Rattle.std.specs.Prelude.{◌≡◌, ℕ, zero, suc, ◌+◌, ◌-◌, ◌<◌, ◌≤◌, ◌⊎◌, ℤ, pos, ◌+ℤ◌, Bool, true, false, cond, nat_lt, nat_le, List, [], ◌∷◌, length}
use Rattle.std.proofs.Common.{refl, sym, ap, ◌∙◌, arith, inl, inr}
use Rattle.std.proofs.lemmas.Bool.{cases_eq, cases_lt, lt-leb, le-leb, le-ltb}
use Rattle.tv_lemmas.specs.Sums.{sum_of}
use Rattle.tv_cells.specs.declared.legs.Legs.{Legs}
use Rattle.tv_cells.specs.Cells.{below}
use Rattle.tv_spec_slices.specs.Slices.{Shape, at, over}
use Rattle.tv_spec_slices.specs.Paths.{ways_at}
use Rattle.tv_laws_slices.proofs.Sums.{sum_of-same, sum_of-zero}
use Rattle.tv_laws_slices.proofs.Steps.{sum_of-last, sum_of-add, at-past}
use Rattle.tv_laws_slices.proofs.Pushed.{sum_of-all}
use Rattle.tv_laws_slices.proofs.Listed.{exchange}
use Rattle.tv_laws_sums.specs.Mixed.{grows, value, place, is_new, mixed, put}
use Rattle.tv_laws_sums.specs.Sums.{charged, spent, through}
use Rattle.tv_laws_sums.specs.Laws.{IsLow, met, RunningSums, NoneOutside}
use Rattle.tv_laws_sums.proofs.Replaced.{place-inside, new-here, old-here, new-else, put-here, put-else, one-slice, one-outside}

pub sum_of-each : (f g : ℕ → ℕ) (n : ℕ) → ((d : ℕ) → d < n → f d ≡ g d) → sum_of f (below n) ≡ sum_of g (below n)
sum_of-each f g zero same = refl
sum_of-each f g (suc n) same =
    let rest = sum_of-each f g n (λ d l. same d (omega arith)) in let here = same n (omega arith) in
    sum_of-last f n ∙ ((omega arith) ∙ sym (sum_of-last g n))

pub sum_of-other : (f g : ℕ → ℕ) (n p : ℕ) → p < n → ((d : ℕ) → d < n → (d ≡ p → ⊥) → f d ≡ g d) → sum_of f (below n) + g p ≡ sum_of g (below n) + f p
sum_of-other f g zero p l same = absurd (omega arith)
sum_of-other f g (suc n) p l same = ap (λ s. s + g p) (sum_of-last f n) ∙ (elim (cases_eq p n) [
  | inl e ↦
      let rest = sum_of-each f g n (λ d m. same d (omega arith) (λ h. omega arith)) in
      let here : f p ≡ f n = ap f e in let there : g p ≡ g n = ap g e in omega arith
  | inr ne ↦
      let rest = sum_of-other f g n p (omega (arith, ne)) (λ d m h. same d (omega arith) h) in
      let here = same n (omega arith) (λ h. ne (sym h)) in omega arith
] ∙ ap (λ s. s + f p) (sym (sum_of-last g n)))

pub sum_of-swap : {A B : Type 0} (f : A → B → ℕ) (xs : List A) (ys : List B) → sum_of (λ x. sum_of (f x) ys) xs ≡ sum_of (λ y. sum_of (λ x. f x y) xs) ys
sum_of-swap f [] ys = sym (sum_of-zero (λ y. 0) (λ y. refl) ys)
sum_of-swap f (x ∷ xs) ys = ap (λ s. sum_of (f x) ys + s) (sum_of-swap f xs ys) ∙ sum_of-add (f x) (λ y. sum_of (λ x. f x y) xs) ys

pub sum_of-cond : {A : Type 0} (q : Bool) (f : A → ℕ) (xs : List A) → sum_of (λ x. cond q (f x) 0) xs ≡ cond q (sum_of f xs) 0
sum_of-cond true f xs = refl
sum_of-cond false f xs = sum_of-zero (λ x. 0) (λ x. refl) xs

-- ---- what is spent

pub charged-more : (f : ℕ → ℕ) (s x c : ℕ) → charged f (s + x) c ≡ cond (nat_le x c) (charged f s (c - x)) 0
charged-more f s x c = by (cases_lt c x)
  where
    by : (c < x) ⊎ (x ≤ c) → cond (nat_le (s + x) c) (f (c - (s + x))) 0 ≡ cond (nat_le x c) (cond (nat_le s (c - x)) (f ((c - x) - s)) 0) 0
    by (inl less) = let off = lt-leb (s + x) c (omega arith) in let no = lt-leb x c less in rw (off, no) refl
    by (inr more) = let on = le-leb x c more in rw on (within (cases_lt (c - x) s))
      where
        within : ((c - x) < s) ⊎ (s ≤ c - x) → cond (nat_le (s + x) c) (f (c - (s + x))) 0 ≡ cond (nat_le s (c - x)) (f ((c - x) - s)) 0
        within (inl less) = let off = lt-leb (s + x) c (omega arith) in let no = lt-leb s (c - x) less in rw (off, no) refl
        within (inr enough) =
            let all = le-leb (s + x) c (omega arith) in let yes = le-leb s (c - x) enough in
            let e : c - (s + x) ≡ (c - x) - s = omega arith in rw (all, yes) (ap f e)

pub spent-put : (legs : Legs) (t : ℤ) (n i x : ℕ) (h : ℕ → ℕ) → i < n → spent legs t n i (put h (place (grows t) n i) x) ≡ spent legs t n i h
spent-put legs t n i x h l = sum_of-each _ _ n (λ d m. elim (cases_eq d p) [
  | inl e ↦ let old : is_new (grows t) n i d ≡ false = ap (is_new (grows t) n i) e ∙ old-here (grows t) n i l in rw old refl
  | inr ne ↦ ap (λ y. cond (is_new (grows t) n i d) (over legs (t +ℤ pos 1) y d) 0) (put-else h p x d ne)
])
  where
    p : ℕ
    p = place (grows t) n i

pub spent-next : (legs : Legs) (t : ℤ) (n i y : ℕ) (h : ℕ → ℕ) → i < n → spent legs t n (suc i) (put h (place (grows t) n i) y) ≡ spent legs t n i h + over legs (t +ℤ pos 1) y (place (grows t) n i)
spent-next legs t n i y h l =
    let after : ℕ → ℕ = λ d. cond (is_new (grows t) n (suc i) d) (over legs (t +ℤ pos 1) (put h (place (grows t) n i) y d) d) 0 in
    let now : ℕ → ℕ = λ d. cond (is_new (grows t) n i d) (over legs (t +ℤ pos 1) (h d) d) 0 in
    sums (sum_of after (below n)) (sum_of now (below n)) (now p) (after p) _ (sum_of-other after now n p (place-inside (grows t) n i l) (λ d m ne.
    ap (λ q. cond q (over legs (t +ℤ pos 1) (put h p y d) d) 0) (new-else (grows t) n i d l m ne) ∙ ap (λ v. cond (is_new (grows t) n i d) (over legs (t +ℤ pos 1) v d) 0) (put-else h p y d ne)))
    (ap (λ q. cond q (over legs (t +ℤ pos 1) (h p) p) 0) (old-here (grows t) n i l))
    (ap (λ q. cond q (over legs (t +ℤ pos 1) (put h p y p) p) 0) (new-here (grows t) n i l) ∙ ap (λ v. over legs (t +ℤ pos 1) v p) (put-here h p y))
  where
    p : ℕ
    p = place (grows t) n i

    sums : (a b u v w : ℕ) → a + u ≡ b + v → u ≡ 0 → v ≡ w → a ≡ b + w
    sums a b u v w e f g = omega arith

-- ---- the laws

pub value-short : (top n : ℕ) (a : Shape) → IsLow top n a → value top a n ≡ 0
value-short top n a is = let off = le-ltb n a.full (front a is.short) in rw off (at-past a n is.short)
  where
    front : (a : Shape) → a.full + length a.heights ≤ n → a.full ≤ n
    front a l = omega arith

pub value-low : (top n : ℕ) (a : Shape) → IsLow top n a → (d : ℕ) → value top a d ≤ top
value-low top n a is d = by (nat_lt d a.full) (is.low d)
  where
    by : (q : Bool) → at a d < top → cond q top (at a d) ≤ top
    by true l = omega arith
    by false l = omega arith

pub running-sums : RunningSums
unfolding through
running-sums legs k t top n i slices h j c are l none few =
    let g = grows t in let p = place g n i in let y = met t top n i h j in let x = over legs (t +ℤ pos 1) y p in
    let give : Shape → ℕ → ℕ → ℕ = λ a m e. cond (mixed g top n i (value top a) (put h p (met t top n i h m))) (charged (ways_at legs k t a) (spent legs t n i (put h p (met t top n i h m))) e) 0 in
    sum_of-all (IsLow top n) (λ a. cond (mixed g top n (suc i) (value top a) (put h p y)) (charged (ways_at legs k t a) (spent legs t n (suc i) (put h p y)) c) 0)
    (λ a. sum_of (λ m. cond (nat_le x c) (give a m (c - x)) 0) (below (suc j))) (λ a low.
    one-slice g top n i j (charged (ways_at legs k t a) (spent legs t n (suc i) (put h p y)) c) (value top a) h l none (value-short top n a low) (value-low top n a low 0) few
    ∙ sum_of-same (λ m. cond (mixed g top n i (value top a) (put h p (met t top n i h m))) (charged (ways_at legs k t a) (spent legs t n (suc i) (put h p y)) c) 0) (λ m. cond (nat_le x c) (give a m (c - x)) 0)
    (λ m. ap (λ v. cond (mixed g top n i (value top a) (put h p (met t top n i h m))) v 0)
    (ap (λ s. charged (ways_at legs k t a) s c) (spent-next legs t n i y h l ∙ ap (λ s. s + x) (sym (spent-put legs t n i (met t top n i h m) h l)))
    ∙ charged-more (ways_at legs k t a) (spent legs t n i (put h p (met t top n i h m))) x c)
    ∙ exchange (mixed g top n i (value top a) (put h p (met t top n i h m))) (nat_le x c) (charged (ways_at legs k t a) (spent legs t n i (put h p (met t top n i h m))) (c - x))) (below (suc j)))
    slices are
    ∙ (sum_of-swap (λ a m. cond (nat_le x c) (give a m (c - x)) 0) slices (below (suc j))
    ∙ (sum_of-same (λ m. sum_of (λ a. cond (nat_le x c) (give a m (c - x)) 0) slices) (λ m. cond (nat_le x c) (sum_of (λ a. give a m (c - x)) slices) 0) (λ m. sum_of-cond (nat_le x c) (λ a. give a m (c - x)) slices) (below (suc j))
    ∙ sum_of-cond (nat_le x c) (λ m. sum_of (λ a. give a m (c - x)) slices) (below (suc j))))

pub none-outside : NoneOutside
unfolding through
none-outside legs k t top n i slices h y c are l none out =
    sum_of-all (IsLow top n) (λ a. cond (mixed (grows t) top n (suc i) (value top a) (put h (place (grows t) n i) y)) (charged (ways_at legs k t a) (spent legs t n (suc i) (put h (place (grows t) n i) y)) c) 0) (λ a. 0)
    (λ a low. one-outside (grows t) top n i y (charged (ways_at legs k t a) (spent legs t n (suc i) (put h (place (grows t) n i) y)) c) (value top a) h l none (value-short top n a low) (value-low top n a low 0) out) slices are
    ∙ sum_of-zero (λ a. 0) (λ a. refl) slices
