-- How a loop reads: one genus after another from any bound on, and one class after another. Where each series begins at
-- - c * degree or above, the bound is c * degree + 1.
--
-- IsReadTo D f v top left is more == `more` is `is` after the genera of v from `top` down to `left`: integers of lesser genera may
--                           still come, the product agrees at 1 - k for each of these genera k, and is the same at sooner places
-- read_none, read_next, read_whole  before the first genus, after one more, and after all
-- begun_none, begun_next    before the first class, and after one more
-- begun_within              the integers so far are within the slope of the series
-- through_next              where the product agrees through N, it still does so after one more class
use Rattle.std.proofs.Common.{◌≡◌, inl, inr, Contains, ℕ, suc, ◌<◌, ◌≤◌, ℤ, pos, ◌+ℤ◌, ◌-ℤ◌, ◌*ℤ◌, ◌≤ℤ◌, ◌<ℤ◌, List, [], ◌∷◌, ◌++◌, refl, sym, ◌∙◌, arith}
use Rattle.std.proofs.lemmas.Int.{ints}
use Rattle.std.proofs.lemmas.Bool.{cases_lt}
use Rattle.std.proofs.lemmas.List.Elements.{Contains-append_left, Contains-append_right}
use Rattle.std.specs.List.{AllByRecursion}
use Rattle.tv_lemmas.proofs.Members.{all-onto, all-both, all-contains, all-append, contains-head}
use Rattle.tv_lemmas.specs.Naturals.{as_natural}
use Rattle.tv_spec_plane.specs.Web.{degree_of}
use Rattle.tv_spec_boxes.specs.Classes.{IsBefore}
use Rattle.tv_spec_series.specs.Families.{Family}
use Rattle.tv_spec_katz.specs.Katz.{Integer, katz}
use Rattle.tv_spec_katz.specs.Integers.{Agrees, read_genus}
use Rattle.tv_spec_katz.specs.Relations.{AreOrdered}
use Rattle.tv_laws_katz.specs.Weights.{IsWithinSlope}
use Rattle.tv_laws_katz.proofs.LargerBound.{vanishes_by_slope}
use Rattle.tv_laws_integers.specs.Closed.{IsClassTo, IsListed}
use Rattle.tv_laws_integers.specs.Reading.{BeginsAbove, AgreesThrough, IsBegun}
use Rattle.tv_laws_integers.proofs.Genera.{IsPast, IsSooner, step}
use Rattle.tv_laws_integers.proofs.Classes.{IsReadOf, read_genus_of, one-less}
use Rattle.tv_laws_integers.proofs.Slopes.{OwnAgrees, within_by}

pub record IsReadTo (D : ℕ) (f : Family ℤ) (v : List ℤ) (top left : ℕ) (is more : List Integer) : Type 0 where
  pub ordered : AreOrdered D f.heights more
  pub past : (k : ℕ) → k < left → AllByRecursion (IsPast f.heights v k) more
  pub agrees : (k : ℕ) → left ≤ k → k ≤ top → Agrees f more v (pos 1 -ℤ pos k)
  pub same : (u : List ℤ) (n : ℤ) → IsSooner f.heights v top u n → katz f.heights more u n ≡ katz f.heights is u n
  pub listed : (vs : List (List ℤ)) → Contains vs v → AllByRecursion (IsListed vs) is → AllByRecursion (IsListed vs) more

sooner_than : (hs v : List ℤ) (g top : ℕ) (u : List ℤ) (n : ℤ) → g ≤ top → IsSooner hs v top u n → IsSooner hs v g u n
sooner_than hs v g top u n h (inl a) = inl a
sooner_than hs v g top u n h (inr a) = let less = a.1 in inr (a.0, omega (arith, ints))

module _ (D : ℕ) (f : Family ℤ) (v : List ℤ) (class : IsClassTo D f.heights v) (is : List Integer) where
  pub read_none : (top : ℕ) → AreOrdered D f.heights is → AllByRecursion (λ i. IsBefore f.heights i.class v) is
      → IsReadTo D f v top (suc top) is is
  read_none top order before = record {
    ordered = order;
    past = λ k h. all-onto (λ i. IsBefore f.heights i.class v) (IsPast f.heights v k) (λ i b. inl b) is before;
    agrees = λ k least most. absurd (omega arith);
    same = λ u n h. refl;
    listed = λ vs there all. all;
  }

  pub read_next : (top g : ℕ) (more : List Integer) → g ≤ top → IsReadTo D f v top (suc g) is more
      → IsReadTo D f v top g is (read_genus f v g more)
  read_next top g more within so =
      let s = step D f v g more class so.ordered (so.past g (omega arith)) in
      record {
        ordered = s.ordered;
        past = s.past;
        agrees = λ k least most. elim (cases_lt g k) as (λ _. Agrees f (read_genus f v g more) v (pos 1 -ℤ pos k)) [
          | inl higher ↦ s.same v (pos 1 -ℤ pos k) (inr (refl, omega (arith, ints))) ∙ so.agrees k (omega arith) most
          | inr here ↦ let e : k ≡ g = omega arith in rw e s.agrees
        ];
        same = λ u n h. s.same u n (sooner_than f.heights v g top u n within h) ∙ so.same u n h;
        listed = λ vs there all. read_genus_of f (Contains vs) v g more there (so.listed vs there all);
      }

  pub read_whole : (c top : ℕ) (more : List Integer) → BeginsAbove D f c → AllByRecursion (IsWithinSlope f.heights c) is
      → ((pos c *ℤ degree_of f.heights v) +ℤ pos 1) ≤ℤ pos top → IsReadTo D f v top 0 is more → IsReadOf D f v is more
  read_whole c top more begins within bound whole = record {
    ordered = whole.ordered;
    agrees = λ n h. elim (cases_lt top (as_natural (pos 1 -ℤ n))) as (λ _. Agrees f more v n) [
      | inl low ↦
          let far : n <ℤ (pos 1 -ℤ pos top) = let e = one-less n h in omega (arith, ints) in
          let below : (n +ℤ (pos c *ℤ degree_of f.heights v)) <ℤ pos 0 = omega (arith, ints) in
          whole.same v n (inr (refl, far)) ∙ (vanishes_by_slope f.heights c is v n within below ∙ sym (begins v n class below))
      | inr near ↦ rw (one-less n h) at (whole.agrees (as_natural (pos 1 -ℤ n)) (omega arith) near)
    ];
    same = λ u n b. whole.same u n (inl b);
  }

-- ---- classes

pub begun_none : (D : ℕ) (f : Family ℤ) → IsBegun D f [] []
begun_none D f = record { ordered = tt; listed = tt; agrees = tt }

pub begun_within : (D : ℕ) (f : Family ℤ) (c : ℕ) (read : List (List ℤ)) (is : List Integer) → BeginsAbove D f c
    → IsBegun D f read is → AllByRecursion (IsWithinSlope f.heights c) is
begun_within D f c read is begins begun = within_by D f c begins is begun.ordered
    (all-onto (IsListed read) (OwnAgrees f is)
    (λ i there. all-contains (AgreesThrough (pos 1) f is) read i.class begun.agrees there (pos 1 -ℤ pos i.genus)
    (omega (arith, ints))) is begun.listed)

pub through_next : (D : ℕ) (N : ℤ) (f : Family ℤ) (v : List ℤ) (front : List (List ℤ)) (is more : List Integer)
    → AllByRecursion (λ u. IsBefore f.heights u v) front → IsReadOf D f v is more → AllByRecursion (AgreesThrough N f is) front
    → AllByRecursion (AgreesThrough N f more) front
through_next D N f v front is more before of all = all-both (λ u. IsBefore f.heights u v) (AgreesThrough N f is)
    (AgreesThrough N f more) (λ u b through n h. of.same u n b ∙ through n h) front before all

pub begun_next : (D : ℕ) (f : Family ℤ) (v : List ℤ) (front : List (List ℤ)) (is more : List Integer)
    → AllByRecursion (λ u. IsBefore f.heights u v) front → IsBegun D f front is → IsReadOf D f v is more
    → ((vs : List (List ℤ)) → Contains vs v → AllByRecursion (IsListed vs) is → AllByRecursion (IsListed vs) more)
    → IsBegun D f (front ++ (v ∷ [])) more
begun_next D f v front is more before begun of listed = record {
  ordered = of.ordered;
  listed = listed (front ++ (v ∷ [])) (Contains-append_right front (v ∷ []) v (contains-head v v [] refl))
      (all-onto (IsListed front) (IsListed (front ++ (v ∷ []))) (λ i there. Contains-append_left front (v ∷ []) i.class there)
      is begun.listed);
  agrees = all-append (AgreesThrough (pos 1) f more) front (v ∷ [])
      (through_next D (pos 1) f v front is more before of begun.agrees) (of.agrees, tt);
}
