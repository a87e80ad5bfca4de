-- The edges that a corner names are in their lists.
--
-- placed          a test that a member passes has a place in the list
-- contains-below  the numbers below n; contains-pairs, the pairs below n
-- contains-filter_map  what an option gives of a member
use Rattle.std.proofs.Common.{◌≡◌, ℕ, zero, suc, ◌+◌, ◌-◌, ◌<◌, ◌≤◌, List, [], ◌∷◌, map, length, Bool, true, false, ◌⊎◌, inl, inr, sym, ap, ◌∙◌, subst, arith}
use Rattle.std.specs.Prelude.{Option, Some, None}
use Rattle.std.specs.List.{Contains, filter_map, flat_map, cons_option, range_with_len, position_or_len}
use Rattle.std.proofs.lemmas.List.Elements.{Contains-append_left, Contains-append_right}
use Rattle.std.proofs.lemmas.List.Sums.{fails_before_first}
use Rattle.tv_lemmas.proofs.Members.{contains-head, contains-later}
use Rattle.tv_spec_plane.specs.Web.{below, pairs}

-- ---- members of lists
at_most : (k n : ℕ) → (k < n) ⊎ (n ≤ k)
at_most k n = grind arith

pub placed : {A : Type 0} (p : A → Bool) (xs : List A) (x : A) → Contains xs x → p x ≡ true → position_or_len p xs < length xs
placed p xs x (k, h, e) on = elim (at_most k (position_or_len p xs)) [
  | inl before ↦ absurd (let off : p x ≡ false = rw e at (fails_before_first p xs k x before) in cc)
  | inr behind ↦ omega arith
]

contains-range : (k n a : ℕ) → k ≤ a → a < k + n → Contains (range_with_len k n) a
contains-range k zero a l h = absurd (omega arith)
contains-range k (suc n) a l h = elim (at_most k a) [
  | inl more ↦ contains-later a k (range_with_len (k + 1) n) (contains-range (k + 1) n a (omega arith) (omega arith))
  | inr same ↦ contains-head a k (range_with_len (k + 1) n) (omega arith)
]

pub contains-below : (n a : ℕ) → a < n → Contains (below n) a
contains-below n a h = contains-range 0 n a (omega arith) (omega arith)

contains-map : {A B : Type 0} (f : A → B) (xs : List A) (x : A) → Contains xs x → Contains (map f xs) (f x)
contains-map f [] x (k, h, e) = absurd (omega arith)
contains-map f (y ∷ xs) x (zero, h, e) = contains-head (f x) (f y) (map f xs) (ap f e)
contains-map f (y ∷ xs) x (suc k, h, e) = contains-later (f x) (f y) (map f xs) (contains-map f xs x (k, omega arith, e))

contains-flat_map : {A B : Type 0} (f : A → List B) (xs : List A) (x : A) (z : B) → Contains xs x → Contains (f x) z → Contains (flat_map f xs) z
contains-flat_map f [] x z (k, h, e) among = absurd (omega arith)
contains-flat_map f (y ∷ xs) x z (zero, h, e) among = Contains-append_left (f y) (flat_map f xs) z (subst (λ u. Contains (f u) z) (sym e) among)
contains-flat_map f (y ∷ xs) x z (suc k, h, e) among = Contains-append_right (f y) (flat_map f xs) z (contains-flat_map f xs x z (k, omega arith, e) among)

cons-first : {A : Type 0} (o : Option A) (x : A) (xs : List A) → o ≡ Some x → Contains (cons_option o xs) x
cons-first None x xs e = absurd (cc)
cons-first (Some y) x xs e = contains-head x y xs (cc)

cons-later : {A : Type 0} (o : Option A) (x : A) (xs : List A) → Contains xs x → Contains (cons_option o xs) x
cons-later None x xs among = among
cons-later (Some y) x xs among = contains-later x y xs among

pub contains-filter_map : {A B : Type 0} (f : A → Option B) (xs : List A) (x : A) (z : B) → Contains xs x → f x ≡ Some z → Contains (filter_map f xs) z
contains-filter_map f [] x z (k, h, e) gives = absurd (omega arith)
contains-filter_map f (y ∷ xs) x z (zero, h, e) gives = cons-first (f y) z (filter_map f xs) (ap f e ∙ gives)
contains-filter_map f (y ∷ xs) x z (suc k, h, e) gives = cons-later (f y) z (filter_map f xs) (contains-filter_map f xs x z (k, omega arith, e) gives)

pub contains-pairs : (n a b : ℕ) → a < b → b < n → Contains (pairs n) (a, b)
contains-pairs n a b l h = contains-flat_map (λ c. map (λ d. (c, d)) (range_with_len (suc c) (n - suc c))) (below n) a (a, b) (contains-below n a (omega arith)) (contains-map (λ d. (a, d)) (range_with_len (suc a) (n - suc a)) b (contains-range (suc a) (n - suc a) b (omega arith) (omega arith)))
