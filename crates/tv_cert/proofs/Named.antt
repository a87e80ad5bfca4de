-- The classes that a report names, and the closed list of them.
--
-- numbered-small, numbered-placed  the classes of the integers have small entries, and a place in the family
-- named-small       so have all that are named
-- named-closed, named-listed  a closed list of these is one of the family, and has the classes of the integers
-- named-next        one class more of the integers
use Rattle.std.specs.Prelude.{◌≡◌, Contains, ℕ, ◌+◌, ◌*◌, ◌<◌, ◌≤◌, ℤ, pos, negsuc, ◌*ℤ◌, ◌≤ℤ◌, unsigned_abs, List, [], ◌∷◌, length, map, take, slice_index_or}
use Rattle.std.specs.List.{AllByRecursion}
use Rattle.std.proofs.Common.{ap, arith, inl, inr}
use Rattle.std.proofs.lemmas.Int.{ints}
use Rattle.tv_lemmas.specs.Naturals.{as_natural}
use Rattle.tv_lemmas.proofs.Naturals.{as_natural-is}
use Rattle.tv_lemmas.proofs.Members.{all-onto, all-both, all-contains, all-members, all-map}
use Rattle.tv_ring.specs.Whole.{wholes, IsAny}
use Rattle.tv_spec_plane.specs.Web.{degree_of}
use Rattle.tv_spec_series.specs.Families.{Family, classes, HasPlace, IsFamily}
use Rattle.tv_spec_katz.specs.Katz.{Integer}
use Rattle.tv_spec_katz.specs.Relations.{IsPositiveClass}
use Rattle.tv_laws_integers.specs.Closed.{IsClassTo, IsClosedList, IsListed}
use Rattle.tv_laws_integers.proofs.Sorted.{all_sorted}
use Rattle.tv_integers.specs.Kept.{Kept, AreKept}
use Rattle.tv_candidates.specs.Closing.{AddsClasses, HasSmallEntries}
use Rattle.tv_candidates.proofs.Adding.{added_none, added_more}
use Rattle.tv_gv.specs.Extracted.{degree_to}
use Rattle.tv_cert.specs.Verified.{IsCheckable}
use Rattle.tv_cert.proofs.Genera.{numbered, class-positive, listed-class, take-next}

all-numbered : (P : List ℤ → Type 0) (k : Kept) → AllByRecursion (λ (i : Integer). P i.class) k.integers →
    AllByRecursion P (numbered k)
all-numbered P k all =
    all_sorted k.heights P (map (λ (i : Integer). i.class) k.integers)
    (all-map (λ (i : Integer). P i.class) P (λ i. i.class) (λ i h. h) k.integers all)

module _ (f : Family ℤ) (k : Kept) (checkable : IsCheckable f k) (kept : AreKept k.heights k.integers) where
  abbrev hs : List ℤ
  hs = f.heights

  positive : AllByRecursion (λ (i : Integer). IsPositiveClass hs i.class) k.integers
  positive = rw checkable.heights at (class-positive k.heights k.integers kept)

  pub numbered-small : AllByRecursion (HasSmallEntries hs) (numbered k)
  numbered-small = all-numbered (HasSmallEntries hs) k checkable.entries

  pub numbered-placed : AllByRecursion (HasPlace hs f.top) (numbered k)
  numbered-placed =
      all-numbered (HasPlace hs f.top) k (all-both (λ (i : Integer). degree_of hs i.class ≤ℤ f.top)
      (λ (i : Integer). IsPositiveClass hs i.class) (λ (i : Integer). HasPlace hs f.top i.class)
      (λ i within class. let up = class.degree in
      record { entries = class.entries; positive = omega (arith, ints); within = within }) k.integers checkable.within positive)

  pub numbered-class : AllByRecursion (IsClassTo (degree_to f) hs) (numbered k)
  numbered-class =
      let least = checkable.extractable.least_degree in
      let top_is = as_natural-is f.top least in
      all-numbered (IsClassTo (degree_to f) hs) k (all-both (λ (i : Integer). degree_of hs i.class ≤ℤ f.top)
      (λ (i : Integer). IsPositiveClass hs i.class) (λ (i : Integer). IsClassTo (degree_to f) hs i.class)
      (λ i within class. record { positive = class; within = omega (arith, ints) }) k.integers checkable.within positive)

  module _ (family : IsFamily IsAny wholes f) (g : Family ℤ) (adds : AddsClasses (numbered k) f g) where
    pub named-small : AllByRecursion (HasSmallEntries g.heights) (classes g.rows)
    named-small = rw adds.heights (all-onto (Contains (classes g.rows)) (HasSmallEntries hs)
        (λ u there. elim ((adds.members u).0 there) as (λ _. HasSmallEntries hs u) [
          | inl new ↦ all-contains (HasSmallEntries hs) (numbered k) u numbered-small new
          | inr old ↦ all-contains (HasSmallEntries hs) (classes f.rows) u checkable.extractable.entries old
        ]) (classes g.rows) (all-members (classes g.rows)))

    module _ (vs : List (List ℤ)) (closed : IsClosedList (as_natural g.top) g vs) where
      top-same : as_natural g.top ≡ degree_to f
      top-same = ap as_natural adds.top

      same-top : IsClosedList (degree_to f) g vs
      same-top = rw top-same at closed

      pub named-closed : IsClosedList (degree_to f) f vs
      named-closed = record {
        each = rw adds.heights at same-top.each;
        rises = rw adds.heights at same-top.rises;
        sums = rw adds.heights at same-top.sums;
        whole = λ v there class. same-top.whole v ((adds.members v).1 (inr there)) (rw adds.heights class);
      }

      pub named-listed : AllByRecursion (IsListed vs) k.integers
      named-listed = all-onto (Contains k.integers) (IsListed vs) (λ i there.
          let among = listed-class k i there in
          let class = all-contains (IsClassTo (degree_to f) hs) (numbered k) i.class numbered-class among in
          same-top.whole i.class ((adds.members i.class).1 (inl among)) (rw adds.heights class)) k.integers (all-members k.integers)

pub named-none : (f : Family ℤ) (vs : List (List ℤ)) → AddsClasses (take 0 vs) f f
named-none f vs = added_none f

pub named-next : (vs : List (List ℤ)) (n : ℕ) (v : List ℤ) (f g h : Family ℤ) → n < length vs → v ≡ slice_index_or vs n [] →
    AddsClasses (take n vs) f g → AddsClasses (v ∷ []) g h → AddsClasses (take (n + 1) vs) f h
named-next vs n v f g h within e first second =
    rw (take-next vs n [] within) (rw e at (added_more (take n vs) v f g h first second))
