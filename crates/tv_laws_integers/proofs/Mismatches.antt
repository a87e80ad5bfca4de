-- Where product and family differ first: it is seen as soon as the classes up to that one are read, and there is one such place at
-- most.
use Rattle.std.proofs.Common.{◌≡◌, ◌⊎◌, inl, inr, Contains, ℕ, ℤ, pos, ◌≤ℤ◌, List, ◌++◌, sym, ◌∙◌, arith}
use Rattle.std.proofs.lemmas.Int.{ints, by_lt_z}
use Rattle.std.proofs.lemmas.List.Elements.{Contains-append_left, Contains-append_cases}
use Rattle.std.specs.List.{AllByRecursion}
use Rattle.tv_lemmas.proofs.Members.{all-contains}
use Rattle.tv_spec_boxes.specs.Classes.{IsBefore}
use Rattle.tv_spec_series.specs.Families.{Family}
use Rattle.tv_spec_series.proofs.Order.{before_strict, before_trans, before_apart}
use Rattle.tv_spec_katz.specs.Katz.{Integer}
use Rattle.tv_spec_katz.specs.Integers.{Agrees, Differs, IsCompared, IsMismatch, read_classes}
use Rattle.tv_spec_katz.specs.Relations.{AreIntegers, IsNormalized, HasMismatch}
use Rattle.tv_laws_integers.specs.Closed.{IsClassTo, IsClosedList}
use Rattle.tv_laws_integers.specs.Reading.{AgreesThrough, IsBegun, IsSeen}
use Rattle.tv_laws_integers.proofs.Elsewhere.{agrees_elsewhere}
use Rattle.tv_laws_integers.proofs.Existence.{only, before_back, listed_or_not, kept, all_listed, extends}

pub normal_through : (M N : ℤ) (f : Family ℤ) → M ≤ℤ N → IsNormalized N f → IsNormalized M f
normal_through M N f h normal =
    record { unit = normal.unit; none = λ n k other. normal.none n (omega (arith, ints)) other; others = normal.others }

-- ---- one place at most

abbrev pub IsFirst : List ℤ → List ℤ → ℤ → List ℤ → ℤ → Type 0
IsFirst hs v n u m = IsBefore hs v u ⊎ ((u ≡ v) × (n ≤ℤ m))

one_first : (hs v u : List ℤ) (n m : ℤ) → IsFirst hs v n u m → IsFirst hs u m v n → (v ≡ u) × (n ≡ m)
one_first hs v u n m (inl a) (inl b) = absurd (before_strict hs v (before_trans hs v u v a b))
one_first hs v u n m (inl a) (inr b) = absurd (before_apart hs v u a b.0)
one_first hs v u n m (inr a) (inl b) = absurd (before_apart hs u v b a.0)
one_first hs v u n m (inr a) (inr b) = let less = a.1 in let more = b.1 in (b.0, omega (arith, ints))

pub same_mismatch : (D : ℕ) (N : ℤ) (f : Family ℤ) (is : List Integer) (v u : List ℤ) (n m : ℤ) → IsMismatch D N f is v n
    → IsMismatch D N f is u m → (v ≡ u) × (n ≡ m)
same_mismatch D N f is v u n m first second = one_first f.heights v u n m (first.first u m second.compared second.differs)
    (second.first v n first.compared first.differs)

-- a mismatch of the integers is one of each list that they are
pub mismatch_of : (D : ℕ) (N : ℤ) (f : Family ℤ) (is : List Integer) (v : List ℤ) (n : ℤ) → AreIntegers D f is
    → HasMismatch D N f v n → IsMismatch D N f is v n
mismatch_of D N f is v n are has = rw (only D f is has.integers are has.are) has.mismatch

pub only_mismatch : (D : ℕ) (N : ℤ) (f : Family ℤ) (v u : List ℤ) (n m : ℤ) → HasMismatch D N f v n → HasMismatch D N f u m
    → (v ≡ u) × (n ≡ m)
only_mismatch D N f v u n m first second = same_mismatch D N f first.integers v u n m first.mismatch
    (mismatch_of D N f first.integers u m first.are second)

-- and none of a family that agrees with the product over its integers through N
pub none_where_agreed : (D : ℕ) (N : ℤ) (f : Family ℤ) (is : List Integer) → AreIntegers D f is
    → ((v : List ℤ) (n : ℤ) → IsCompared D N f v n → Agrees f is v n) → (v : List ℤ) (n : ℤ) → HasMismatch D N f v n → ⊥
none_where_agreed D N f is are all v n has =
    let mismatch = mismatch_of D N f is v n are has in
    mismatch.differs (all v n mismatch.compared)

-- ---- it is seen when its class is read

module _ (D : ℕ) (N : ℤ) (f : Family ℤ) (read back : List (List ℤ)) (closed : IsClosedList D f (read ++ back))
    (is : List Integer) (begun : IsBegun D f read is) (v : List ℤ) (n : ℤ) (seen : IsSeen N f read is v n) where
  first_read : (u : List ℤ) (m : ℤ) → m ≤ℤ N → Differs f (read_classes f is back) u m → Contains read u
      → (u ≡ v) ⊎ AgreesThrough N f is u → IsFirst f.heights v n u m
  first_read u m h other there (inl same) = by_lt_z m n
      (λ less. absurd (other (kept D f read back closed is begun u there m ∙ rw same (seen.before m less))))
      (λ least. inr (same, least))
  first_read u m h other there (inr through) = absurd (other (kept D f read back closed is begun u there m ∙ through m h))

  first_listed : (u : List ℤ) (m : ℤ) → m ≤ℤ N → Differs f (read_classes f is back) u m → Contains read u ⊎ Contains back u
      → IsFirst f.heights v n u m
  first_listed u m h other (inl there) = first_read u m h other there (seen.others u there)
  first_listed u m h other (inr there) = inl
      (all-contains (IsBefore f.heights v) back u
      (all-contains (λ w. AllByRecursion (IsBefore f.heights w) back) read v (before_back f.heights read back closed.rises)
      seen.there) there)

  first : IsNormalized N f → (u : List ℤ) (m : ℤ) → IsCompared D N f u m → Differs f (read_classes f is back) u m
      → IsFirst f.heights v n u m
  first normal u m compared other = elim (listed_or_not (read ++ back) u) as (λ _. IsFirst f.heights v n u m) [
    | inl there ↦ first_listed u m compared.exponent other (Contains-append_cases read back u there)
    | inr none ↦ absurd (other (agrees_elsewhere D f (read ++ back) closed N (read_classes f is back) u m normal
        (all_listed D f read back closed is begun) compared none))
  ]

  pub mismatch_at : pos 1 ≤ℤ N → IsNormalized N f → HasMismatch D N f v n
  mismatch_at up normal =
      let are = extends D f read back closed is begun (normal_through (pos 1) N f up normal) in
      let class : IsClassTo D f.heights v = all-contains (IsClassTo D f.heights) (read ++ back) v closed.each
      (Contains-append_left read back v seen.there) in
      record {
        integers = read_classes f is back;
        are = are;
        mismatch = record {
          compared = record { entries = class.positive.entries; degree = class.within; exponent = seen.within };
          differs = λ e. seen.differs (sym (kept D f read back closed is begun v seen.there n) ∙ e);
          first = first normal;
        };
      }
