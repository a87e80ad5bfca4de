-- Assignments that have the empty diagram off some edges; edges that are met, pending and new.
use Rattle.std.specs.Prelude.{◌≡◌, ℕ, suc, ◌<◌, Bool, true, false, cond, not, ◌&&◌, ◌||◌, nat_eq, nat_lt, List, [], ◌∷◌, length}
use Rattle.std.proofs.Common.{refl, sym, ap, ◌∙◌, arith}
use Rattle.std.proofs.lemmas.Bool.{and_parts}
use Rattle.std.proofs.lemmas.Bool.Decides.{nat_tests}
use Rattle.tv_spec_plane.specs.declared.records.CompactEdge.{CompactEdge}
use Rattle.tv_spec_boxes.specs.Assignments.{Rows, Assignment}
use Rattle.tv_spec_partial.specs.Partial.{is_met, is_pending, is_empty, rests_on, chosen}
use Rattle.tv_laws_frontier.specs.Frontier.{only}
use Rattle.tv_laws_frontier.specs.Steps.{is_new, picked, put}
use Rattle.tv_laws_frontier.proofs.Corners.{touches}
use Rattle.tv_laws_frontier.proofs.PartialSums.{empty-rows}
use Rattle.tv_laws_frontier.proofs.Placed.{Stays, put-skip}
use Rattle.tv_lemmas.proofs.Tests.{not-off}

-- ---- edges

pub new-met : (t : ℕ) (e : CompactEdge) → is_new t e ≡ true → is_met (suc t) e ≡ true
new-met t e h = (and_parts (is_met (suc t) e) (not (is_met t e)) h).0

not-true : (b : Bool) → not b ≡ true → b ≡ false
not-true true h = cc
not-true false h = refl

pub new-unmet : (t : ℕ) (e : CompactEdge) → is_new t e ≡ true → is_met t e ≡ false
new-unmet t e h = not-true (is_met t e) (and_parts (is_met (suc t) e) (not (is_met t e)) h).1

pub met-apart : (t : ℕ) (e : CompactEdge) → is_met t e ≡ true → is_new t e ≡ false
met-apart t e h = by_test (is_new t e) refl
  where
    by_test : (b : Bool) → is_new t e ≡ b → b ≡ false
    by_test true on = absurd (let no : true ≡ false = sym h ∙ new-unmet t e on in cc)
    by_test false off = refl

pending-one : (b c : Bool) → cond b (not c) c ≡ true → (b || c) ≡ true
pending-one true c h = refl
pending-one false c h = h

pub pending-met : (t : ℕ) (e : CompactEdge) → is_pending t e ≡ true → is_met t e ≡ true
pending-met t e h = pending-one (nat_lt e.corner_c t) (nat_lt e.corner_d t) h

pub pending-apart : (t : ℕ) (e : CompactEdge) → is_pending t e ≡ true → is_new t e ≡ false
pending-apart t e h = met-apart t e (pending-met t e h)

-- an edge at corner t was pending, or is new
corner-near : (c d t : ℕ) (x y z u : Bool) → nat_lt c t ≡ x → nat_lt d t ≡ y → nat_lt c (suc t) ≡ z → nat_lt d (suc t) ≡ u → (nat_eq c t || nat_eq d t) ≡ true → (cond x (not y) y || ((z || u) && not (x || y))) ≡ true
corner-near c d t true true z u p q r s h = absurd (let none : ⊥ = grind (arith, nat_tests) in none)
corner-near c d t true false z u p q r s h = refl
corner-near c d t false true z u p q r s h = refl
corner-near c d t false false true u p q r s h = refl
corner-near c d t false false false true p q r s h = refl
corner-near c d t false false false false p q r s h = absurd (let none : ⊥ = grind (arith, nat_tests) in none)

pub touching-near : (t : ℕ) (e : CompactEdge) → touches t e ≡ true → (is_pending t e || is_new t e) ≡ true
touching-near t e h = corner-near e.corner_c e.corner_d t (nat_lt e.corner_c t) (nat_lt e.corner_d t) (nat_lt e.corner_c (suc t)) (nat_lt e.corner_d (suc t)) refl refl refl refl h

-- an edge that is pending after corner t was pending before, or is new
after-near : (c d t : ℕ) (x y z u : Bool) → nat_lt c t ≡ x → nat_lt d t ≡ y → nat_lt c (suc t) ≡ z → nat_lt d (suc t) ≡ u → cond z (not u) u ≡ true → (cond x (not y) y || ((z || u) && not (x || y))) ≡ true
after-near c d t true true true true p q r s h = cc
after-near c d t true true true false p q r s h = absurd (let none : ⊥ = grind (arith, nat_tests) in none)
after-near c d t true true false u p q r s h = absurd (let none : ⊥ = grind (arith, nat_tests) in none)
after-near c d t true false z u p q r s h = refl
after-near c d t false true z u p q r s h = refl
after-near c d t false false true u p q r s h = refl
after-near c d t false false false true p q r s h = refl
after-near c d t false false false false p q r s h = cc

pub pending-near : (t : ℕ) (e : CompactEdge) → is_pending (suc t) e ≡ true → (is_pending t e || is_new t e) ≡ true
pending-near t e h = after-near e.corner_c e.corner_d t (nat_lt e.corner_c t) (nat_lt e.corner_d t) (nat_lt e.corner_c (suc t)) (nat_lt e.corner_d (suc t)) refl refl refl refl h

pub touching-met : (t s : ℕ) (e : CompactEdge) → s < t → touches s e ≡ true → is_met t e ≡ true
touching-met t s e l h = grind (arith, nat_tests)

pub met-before : (t s : ℕ) (e : CompactEdge) → s < suc t → is_met s e ≡ true → is_met t e ≡ true
met-before t s e l h = grind (arith, nat_tests)

neither : (t : ℕ) (e : CompactEdge) → is_new t e ≡ false → is_met t e ≡ false → is_met (suc t) e ≡ false
neither t e h k = by_test (is_met (suc t) e) (is_met t e) h k
  where
    by_test : (b c : Bool) → (b && not c) ≡ false → c ≡ false → b ≡ false
    by_test true true p q = cc
    by_test true false p q = p
    by_test false c p q = refl

pub chosen-is : (t : ℕ) (es : List CompactEdge) (a : Assignment) → chosen t es a ≡ picked (is_pending t) es a
chosen-is t [] a = refl
chosen-is t (e ∷ es) [] = refl
chosen-is t (e ∷ es) (d ∷ a) = ap (λ k. cond (is_pending t e) (d ∷ k) k) (chosen-is t es a)

-- ---- assignments

unpicked : (b : Bool) (d : Rows) → (b || is_empty d) ≡ true → b ≡ false → d ≡ []
unpicked true d h off = cc
unpicked false d h off = empty-rows d h

pub rests-stays : (t : ℕ) (es : List CompactEdge) (a : Assignment) → rests_on t es a ≡ true → Stays (is_met t) es a
rests-stays t [] a h = tt
rests-stays t (e ∷ es) [] h = tt
rests-stays t (e ∷ es) (d ∷ a) h =
    let parts = and_parts (is_met t e || is_empty d) (rests_on t es a) h in
    (unpicked (is_met t e) d parts.0, rests-stays t es a parts.1)

empty-there : (b : Bool) (d : Rows) → (b ≡ false → d ≡ []) → (b || is_empty d) ≡ true
empty-there true d h = refl
empty-there false d h = let e : d ≡ [] = h refl in rw e (let yes : nat_eq 0 0 ≡ true = grind (arith, nat_tests) in yes)

pub stays-rests : (t : ℕ) (es : List CompactEdge) (a : Assignment) → Stays (is_met t) es a → rests_on t es a ≡ true
stays-rests t [] a h = refl
stays-rests t (e ∷ es) [] h = refl
stays-rests t (e ∷ es) (d ∷ a) h = let here = empty-there (is_met t e) d h.0 in rw here (stays-rests t es a h.1)

pub stays-more : (p q : CompactEdge → Bool) → ((e : CompactEdge) → q e ≡ false → p e ≡ false) → (es : List CompactEdge) (a : Assignment) → Stays p es a → Stays q es a
stays-more p q also [] a h = tt
stays-more p q also (e ∷ es) [] h = tt
stays-more p q also (e ∷ es) (d ∷ a) h = ((λ off. h.0 (also e off)), stays-more p q also es a h.1)

pub only-stays : (p : CompactEdge → Bool) (es : List CompactEdge) (a : Assignment) → Stays p es (only p es a)
only-stays p [] a = tt
only-stays p (e ∷ es) [] = tt
only-stays p (e ∷ es) (d ∷ a) = ((λ off. rw off refl), only-stays p es a)

module _ (p m n : CompactEdge → Bool) (also : (e : CompactEdge) → p e ≡ true → n e ≡ true) (still : (e : CompactEdge) → m e ≡ true → n e ≡ true) (none : (e : CompactEdge) → p e ≡ false → m e ≡ false → n e ≡ false) where
  later-off : (e : CompactEdge) → n e ≡ false → m e ≡ false
  later-off e off = by_test (m e) refl
    where
      by_test : (b : Bool) → m e ≡ b → b ≡ false
      by_test true on = absurd (let no : true ≡ false = sym (still e on) ∙ off in cc)
      by_test false is = refl

  put-stays-head : (e : CompactEdge) (es : List CompactEdge) (x : Rows) (g : List Rows) (d : Rows) (b : Assignment) (c : Bool) → p e ≡ c → (m e ≡ false → d ≡ []) → ((h : List Rows) → Stays n es (put p es h b)) → Stays n (e ∷ es) (put p (e ∷ es) (x ∷ g) (d ∷ b))
  put-stays-head e es x g d b true is bare rest = rw is ((λ off. absurd (let no : true ≡ false = sym (also e is) ∙ off in cc)), rest g)
  put-stays-head e es x g d b false is bare rest = rw is ((λ off. bare (later-off e off)), rest (x ∷ g))

  pub put-stays : (es : List CompactEdge) (g : List Rows) (b : Assignment) → Stays m es b → Stays n es (put p es g b)
  put-stays [] g b bare = tt
  put-stays (e ∷ es) [] [] bare = tt
  put-stays (e ∷ es) (x ∷ g) [] bare = tt
  put-stays (e ∷ es) [] (d ∷ b) bare = stays-more m n later-off (e ∷ es) (d ∷ b) bare
  put-stays (e ∷ es) (x ∷ g) (d ∷ b) bare = put-stays-head e es x g d b (p e) refl bare.0 (λ h. put-stays es h b bare.1)

  kept-head : (d : Rows) (c : Bool) → (c ≡ false → d ≡ []) → cond c d [] ≡ d
  kept-head d true bare = refl
  kept-head d false bare = sym (bare refl)

  split-head : (e : CompactEdge) (es : List CompactEdge) (d : Rows) (a : Assignment) (c : Bool) → p e ≡ c → (n e ≡ false → d ≡ []) → put p es (picked p es a) (only m es a) ≡ a → put p (e ∷ es) (picked p (e ∷ es) (d ∷ a)) (only m (e ∷ es) (d ∷ a)) ≡ d ∷ a
  split-head e es d a true is bare rest = rw (is, is) (ap (λ b. d ∷ b) rest)
  split-head e es d a false is bare rest =
      ap (λ c. put p (e ∷ es) (cond c (d ∷ picked p es a) (picked p es a)) (only m (e ∷ es) (d ∷ a))) is
      ∙ (put-skip p e es (picked p es a) (cond (m e) d []) (only m es a) is
      ∙ (ap (λ x. x ∷ put p es (picked p es a) (only m es a)) (kept-head d (m e) (λ off. bare (none e is off))) ∙ ap (λ b. d ∷ b) rest))

  -- an assignment is what is picked from it, put on the rest of it
  pub split-again : (es : List CompactEdge) (a : Assignment) → length a ≡ length es → Stays n es a → put p es (picked p es a) (only m es a) ≡ a
  split-again [] [] long bare = refl
  split-again [] (d ∷ a) long bare = absurd (omega arith)
  split-again (e ∷ es) [] long bare = absurd (omega arith)
  split-again (e ∷ es) (d ∷ a) long bare = split-head e es d a (p e) refl bare.0 (split-again es a (omega arith) bare.1)

pub met-still : (t : ℕ) (e : CompactEdge) → is_met t e ≡ true → is_met (suc t) e ≡ true
met-still t e h = met-before (suc t) t e (let l : t < suc (suc t) = grind arith in l) h

pub put-rests : (t : ℕ) (es : List CompactEdge) (g : List Rows) (b : Assignment) → rests_on t es b ≡ true → rests_on (suc t) es (put (is_new t) es g b) ≡ true
put-rests t es g b h = stays-rests (suc t) es (put (is_new t) es g b) (put-stays (is_new t) (is_met t) (is_met (suc t)) (new-met t) (met-still t) (neither t) es g b (rests-stays t es b h))

pub split-rests : (t : ℕ) (es : List CompactEdge) (a : Assignment) → length a ≡ length es → rests_on (suc t) es a ≡ true → put (is_new t) es (picked (is_new t) es a) (only (is_met t) es a) ≡ a
split-rests t es a long h = split-again (is_new t) (is_met t) (is_met (suc t)) (new-met t) (met-still t) (neither t) es a long (rests-stays (suc t) es a h)

pub only-rests : (t : ℕ) (es : List CompactEdge) (a : Assignment) → rests_on t es (only (is_met t) es a) ≡ true
only-rests t es a = stays-rests t es (only (is_met t) es a) (only-stays (is_met t) es a)

-- what rests has nothing on the new edges
pub rests-bare : (t : ℕ) (es : List CompactEdge) (b : Assignment) → rests_on t es b ≡ true → Stays (λ e. not (is_new t e)) es b
rests-bare t es b h = stays-more (is_met t) (λ e. not (is_new t e)) (λ e off. new-unmet t e (not-off (is_new t e) off)) es b (rests-stays t es b h)
