-- What is read of one class: with each genus, from the first one down, the product agrees with the family one exponent further,
-- and stays the same at all earlier places.
--
-- IsPast hs v g j     == the integer j comes before the class v, or is of that class and of a genus above g
-- IsSooner hs v g u n == u comes before the class v, or is that class and n is below 1 - g
-- IsStep D f v g is more == `more` is `is` after the genus g of v: integers of lesser genera may still come, the product agrees at
--                        1 - g, and is the same at the sooner places
-- IsDown D f v g is more == `more` is `is` after the genera from g to 0 of v
use Rattle.std.proofs.Common.{◌≡◌, ◌⊎◌, inl, inr, ℕ, zero, suc, ◌<◌, ◌≤◌, ℤ, pos, ◌-ℤ◌, ◌<ℤ◌, List, ◌∷◌, refl, ◌∙◌, arith}
use Rattle.std.proofs.lemmas.Int.{ints}
use Rattle.std.proofs.lemmas.Bool.{cases_lt}
use Rattle.std.proofs.lemmas.Bool.Decides.{Decides-int_eq}
use Rattle.std.specs.List.{AllByRecursion}
use Rattle.std.specs.Ordering.{int_eq}
use Rattle.tv_lemmas.proofs.Members.{all-onto}
use Rattle.tv_laws_series.proofs.NormalForm.{bool_cases}
use Rattle.tv_spec_boxes.specs.Classes.{IsBefore}
use Rattle.tv_spec_series.specs.Families.{Family}
use Rattle.tv_spec_katz.specs.Katz.{Integer, katz}
use Rattle.tv_spec_katz.specs.Integers.{Agrees, new_integer, read_genus, read_down}
use Rattle.tv_spec_katz.specs.Relations.{AreOrdered}
use Rattle.tv_laws_katz.proofs.FurtherInteger.{new_integer as added_value, unchanged}
use Rattle.tv_laws_integers.specs.Closed.{IsClassTo}
use Rattle.tv_laws_integers.proofs.Later.{positives}

abbrev pub IsPast : List ℤ → List ℤ → ℕ → Integer → Type 0
IsPast hs v g j = IsBefore hs j.class v ⊎ ((v ≡ j.class) × (g < j.genus))

abbrev pub IsSooner : List ℤ → List ℤ → ℕ → List ℤ → ℤ → Type 0
IsSooner hs v g u n = IsBefore hs u v ⊎ ((u ≡ v) × (n <ℤ (pos 1 -ℤ pos g)))

pub past_below : (hs v : List ℤ) (g k : ℕ) → k ≤ g → (is : List Integer) → AllByRecursion (IsPast hs v g) is
    → AllByRecursion (IsPast hs v k) is
past_below hs v g k h is all = all-onto (IsPast hs v g) (IsPast hs v k) one is all
  where
    one : (j : Integer) → IsPast hs v g j → IsPast hs v k j
    one j (inl a) = inl a
    one j (inr a) = let more = a.1 in inr (a.0, omega arith)

pub sooner_below : (hs v : List ℤ) (g : ℕ) (u : List ℤ) (n : ℤ) → IsSooner hs v (suc g) u n → IsSooner hs v g u n
sooner_below hs v g u n (inl a) = inl a
sooner_below hs v g u n (inr a) = let less = a.1 in inr (a.0, omega (arith, ints))

pub record IsStep (D : ℕ) (f : Family ℤ) (v : List ℤ) (g : ℕ) (is more : List Integer) : Type 0 where
  pub ordered : AreOrdered D f.heights more
  pub past : (k : ℕ) → k < g → AllByRecursion (IsPast f.heights v k) more
  pub agrees : Agrees f more v (pos 1 -ℤ pos g)
  pub same : (u : List ℤ) (n : ℤ) → IsSooner f.heights v g u n → katz f.heights more u n ≡ katz f.heights is u n

pub record IsDown (D : ℕ) (f : Family ℤ) (v : List ℤ) (g : ℕ) (is more : List Integer) : Type 0 where
  pub ordered : AreOrdered D f.heights more
  pub agrees : (k : ℕ) → k ≤ g → Agrees f more v (pos 1 -ℤ pos k)
  pub same : (u : List ℤ) (n : ℤ) → IsSooner f.heights v g u n → katz f.heights more u n ≡ katz f.heights is u n

module _ (D : ℕ) (f : Family ℤ) where
  -- the integer 0 is left out
  step_none : (v : List ℤ) (g : ℕ) (is : List Integer) → AreOrdered D f.heights is → AllByRecursion (IsPast f.heights v g) is
      → new_integer f v g is ≡ pos 0 → IsStep D f v g is is
  step_none v g is order past none = record {
    ordered = order;
    past = λ k h. past_below f.heights v g k (omega arith) is past;
    agrees = omega (arith, ints);
    same = λ u n h. refl;
  }

  step_some : (v : List ℤ) (g : ℕ) (is : List Integer) → IsClassTo D f.heights v → AreOrdered D f.heights is
      → AllByRecursion (IsPast f.heights v g) is → (new_integer f v g is ≡ pos 0 → ⊥)
      → IsStep D f v g is (record { class = v; genus = g; value = new_integer f v g is } ∷ is)
  step_some v g is class order past some =
      let i : Integer = record { class = v; genus = g; value = new_integer f v g is } in
      let ordered : AreOrdered D f.heights (i ∷ is) =
      (record { positive = class.positive; within = class.within; value = some }, (past, order)) in
      let up = positives D f.heights (i ∷ is) ordered in
      record {
        ordered = ordered;
        past = λ k h. (inr (refl, h), past_below f.heights v g k (omega arith) is past);
        agrees = let sum = added_value f.heights i is up in omega (arith, ints);
        same = λ u n h. unchanged f.heights i is u n up h;
      }

  pub step : (v : List ℤ) (g : ℕ) (is : List Integer) → IsClassTo D f.heights v → AreOrdered D f.heights is
      → AllByRecursion (IsPast f.heights v g) is → IsStep D f v g is (read_genus f v g is)
  step v g is class order past = bool_cases (int_eq (new_integer f v g is) (pos 0))
      (λ b. rw b (step_none v g is order past ((Decides-int_eq (new_integer f v g is) (pos 0)).0 b)))
      (λ b. rw b (step_some v g is class order past (λ e. let t = (Decides-int_eq (new_integer f v g is) (pos 0)).1 e in cc)))

  pub down : (v : List ℤ) (g : ℕ) (is : List Integer) → IsClassTo D f.heights v → AreOrdered D f.heights is
      → AllByRecursion (IsPast f.heights v g) is → IsDown D f v g is (read_down f v g is)
  down v zero is class order past =
      let s = step v zero is class order past in
      record { ordered = s.ordered; agrees = λ k h. let z : k ≡ 0 = omega arith in rw z s.agrees; same = s.same }
  down v (suc g) is class order past =
      let s = step v (suc g) is class order past in
      let d = down v g (read_genus f v (suc g) is) class s.ordered (s.past g (omega arith)) in
      record {
        ordered = d.ordered;
        agrees = λ k h. elim (cases_lt g k) as (λ _. Agrees f (read_down f v g (read_genus f v (suc g) is)) v (pos 1 -ℤ pos k)) [
          | inl first ↦ let z : k ≡ suc g = omega arith in
              rw z (d.same v (pos 1 -ℤ pos (suc g)) (inr (refl, omega (arith, ints))) ∙ s.agrees)
          | inr later ↦ d.agrees k (omega arith)
        ];
        same = λ u n h. d.same u n (sooner_below f.heights v g u n h) ∙ s.same u n h;
      }
