-- The earliest segment of a list with a fact, one member further.
use Rattle.std.specs.Prelude.{◌≡◌, ℕ, ◌+◌, ◌<◌, ◌≤◌, ◌⊎◌, Bool, true, false, cond, List, [], ◌∷◌, ◌++◌, length, take, Option, Some, None, MatchOption}
use Rattle.std.proofs.Common.{subst, sym, refl, inl, inr, get_or}
use Rattle.std.proofs.lemmas.List.{take_more, take_all}
use Rattle.tv_spec_plane.specs.Plane.{Segment}
use Rattle.tv_laws_tiling.specs.Members.{Among}
use Rattle.tv_hull.specs.Pairs.{IsFirstPair}
use Rattle.tv_triangulation.specs.Segments.{precedes, earlier}
use Rattle.tv_triangulation.specs.Checks.{NoPair}
use Rattle.tv_triangulation.proofs.SegmentTests.{IsBefore, precedes-true, precedes-false, before-same, before-through}

pub record IsEarliestOne (Q : Segment → Type 0) (xs : List Segment) (f : Segment) : Type 0 where
  pub among : Among f xs
  pub holds : Q f
  pub before : (s : Segment) → Among s xs → Q s → IsBefore f s

abbrev pub IsEarliest : (Segment → Type 0) → List Segment → Option Segment → Type 0
IsEarliest Q xs None = (s : Segment) → Among s xs → Q s → ⊥
IsEarliest Q xs (Some f) = IsEarliestOne Q xs f

among-split : (s : Segment) (xs : List Segment) (y : Segment) → Among s (xs ++ y ∷ []) → Among s xs ⊎ (s ≡ y)
among-split s [] y (inl same) = inr same
among-split s [] y (inr none) = absurd none
among-split s (z ∷ xs) y (inl same) = inl (inl same)
among-split s (z ∷ xs) y (inr among) = elim (among-split s xs y among) [ inl first ↦ inl (inr first) | inr last ↦ inr last ]

among-last : (xs : List Segment) (y : Segment) → Among y (xs ++ y ∷ [])
among-last [] y = inl refl
among-last (z ∷ xs) y = inr (among-last xs y)

among-front : (s : Segment) (xs : List Segment) (y : Segment) → Among s xs → Among s (xs ++ y ∷ [])
among-front s [] y none = absurd none
among-front s (z ∷ xs) y (inl same) = inl same
among-front s (z ∷ xs) y (inr among) = inr (among-front s xs y among)

module _ (Q : Segment → Type 0) (xs : List Segment) (s : Segment) where
  pub earliest-skips : (first : Option Segment) → IsEarliest Q xs first → (Q s → ⊥) → IsEarliest Q (xs ++ s ∷ []) first
  earliest-skips None none without = λ r among holds. elim (among-split r xs s among) [
    | inl front ↦ none r front holds
    | inr last ↦ without (subst Q last holds)
  ]
  earliest-skips (Some f) first without = record {
    among = among-front f xs s first.among;
    holds = first.holds;
    before = λ r among holds. elim (among-split r xs s among) [
      | inl front ↦ first.before r front holds
      | inr last ↦ absurd (without (subst Q last holds))
    ];
  }

  earlier_stays : (f : Segment) → IsEarliestOne Q xs f → IsBefore f s → IsEarliestOne Q (xs ++ s ∷ []) f
  earlier_stays f first before = record {
    among = among-front f xs s first.among;
    holds = first.holds;
    before = λ r among holds. elim (among-split r xs s among) [
      | inl front ↦ first.before r front holds
      | inr last ↦ subst (IsBefore f) (sym last) before
    ];
  }

  earlier_changes : (f : Segment) → IsEarliestOne Q xs f → Q s → IsBefore s f → IsEarliestOne Q (xs ++ s ∷ []) s
  earlier_changes f first here before = record {
    among = among-last xs s;
    holds = here;
    before = λ r among holds. elim (among-split r xs s among) [
      | inl front ↦ before-through s f r before (first.before r front holds)
      | inr last ↦ subst (IsBefore s) (sym last) (before-same s)
    ];
  }

  earlier_one : (f : Segment) (b : Bool) → precedes f s ≡ b → IsEarliestOne Q xs f → Q s → IsEarliestOne Q (xs ++ s ∷ []) (cond b f s)
  earlier_one f true e first here = earlier_stays f first (precedes-true f s e)
  earlier_one f false e first here = earlier_changes f first here (precedes-false f s e)

  pub earliest-takes : (first : Option Segment) → IsEarliest Q xs first → Q s → IsEarliest Q (xs ++ s ∷ []) (earlier first s)
  earliest-takes None none here = record {
    among = among-last xs s;
    holds = here;
    before = λ r among holds. elim (among-split r xs s among) [
      | inl front ↦ absurd (none r front holds)
      | inr last ↦ subst (IsBefore s) (sym last) (before-same s)
    ];
  }
  earliest-takes (Some f) first here = earlier_one f (precedes f s) refl first here

-- as a first pair of numbers
pub earliest-pair : (Q : Segment → Type 0) (P : ℕ → ℕ → Type 0) (xs : List Segment) → ((a b : ℕ) → Among (a, b) xs → Q (a, b) → P a b) → ((a b : ℕ) → P a b → Among (a, b) xs × Q (a, b)) → (first : Option Segment) → IsEarliest Q xs first → MatchOption first (NoPair P) (λ p. IsFirstPair P p.0 p.1)
earliest-pair Q P xs to from None none = λ a b holds. none (a, b) (from a b holds).0 (from a b holds).1
earliest-pair Q P xs to from (Some f) first = record {
  second = record { holds = to f.0 f.1 first.among first.holds; least = λ k holds. let parts = from f.0 k holds in (first.before (f.0, k) parts.0 parts.1).1 refl };
  first = λ k l holds. let parts = from k l holds in (first.before (k, l) parts.0 parts.1).0;
}

-- one place of a list further
pub earliest-more-skips : (Q : Segment → Type 0) (xs : List Segment) (i : ℕ) (first : Option Segment) → i < length xs → IsEarliest Q (take i xs) first → (Q (get_or xs i (0, 0)) → ⊥) → IsEarliest Q (take (i + 1) xs) first
earliest-more-skips Q xs i first h earliest without = subst (λ (ys : List Segment). IsEarliest Q ys first) (sym (take_more xs i (0, 0) h)) (earliest-skips Q (take i xs) (get_or xs i (0, 0)) first earliest without)

pub earliest-more-takes : (Q : Segment → Type 0) (xs : List Segment) (i : ℕ) (first : Option Segment) → i < length xs → IsEarliest Q (take i xs) first → Q (get_or xs i (0, 0)) → IsEarliest Q (take (i + 1) xs) (earlier first (get_or xs i (0, 0)))
earliest-more-takes Q xs i first h earliest here = subst (λ (ys : List Segment). IsEarliest Q ys (earlier first (get_or xs i (0, 0)))) (sym (take_more xs i (0, 0) h)) (earliest-takes Q (take i xs) (get_or xs i (0, 0)) first earliest here)

pub earliest-all : (Q : Segment → Type 0) (xs : List Segment) (i : ℕ) (first : Option Segment) → length xs ≤ i → IsEarliest Q (take i xs) first → IsEarliest Q xs first
earliest-all Q xs i first h earliest = subst (λ (ys : List Segment). IsEarliest Q ys first) (take_all i xs h) earliest
