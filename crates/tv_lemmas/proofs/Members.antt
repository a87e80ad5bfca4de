-- What is true of each member of a list, said by recursion on it, and members themselves.
--
-- all-append      true of two lists together, from each
-- all-front       true of the first of two lists together; all-back, of the second
-- all-map         true of the values of a function
-- all-flat_map    true of joined pieces, from each piece; all-pieces, true of each piece
-- all-filter      true of what passes a test, which also tells that it passes
-- all-onto        true by what it implies; all-both, by what two facts imply together
-- all-any         true of any list, where it is true of everything
-- all-at          true at a place of the list; all-everywhere, also past the end, where the default has it
-- all-contains    true of one member
-- all-members     each member is one
-- all-found       true of all that a search by an equality finds
-- contains-head   the first is a member; contains-later, a member of the rest is one
-- contains-cases  a member is the first or one of the rest
-- contains-filter a member that passes a test stays in the filtered list
-- contains-map    its value is a member of the values; contains-flat_map, a member of its piece one of the joined pieces
-- contains-range  a number from k on is a member of the n numbers from k on, where it is below k + n
use Rattle.std.specs.Prelude.{◌≡◌, ◌⊎◌, Contains, ℕ, zero, suc, ◌+◌, ◌<◌, ◌≤◌, Bool, true, false, cond, ◌||◌, List, [], ◌∷◌, ◌++◌, map, filter, length, slice_index_or}
use Rattle.std.specs.List.{flat_map, AllByRecursion, list_any, range_with_len}
use Rattle.std.proofs.Common.{refl, ap, arith, inl, inr}
use Rattle.std.proofs.lemmas.Bool.{cases_eq}
use Rattle.std.proofs.lemmas.List.Elements.{All-from_recursion, recursion_from_All, All-contains, All-contains_itself, Contains-append_left, Contains-append_right}

pub all-append : {A : Type 0} (P : A → Type 0) (xs ys : List A) → AllByRecursion P xs → AllByRecursion P ys → AllByRecursion P (xs ++ ys)
all-append P [] ys all more = more
all-append P (x ∷ xs) ys all more = (all.0, all-append P xs ys all.1 more)

pub all-front : {A : Type 0} (P : A → Type 0) (xs ys : List A) → AllByRecursion P (xs ++ ys) → AllByRecursion P xs
all-front P [] ys all = tt
all-front P (x ∷ xs) ys all = (all.0, all-front P xs ys all.1)

pub all-back : {A : Type 0} (P : A → Type 0) (xs ys : List A) → AllByRecursion P (xs ++ ys) → AllByRecursion P ys
all-back P [] ys all = all
all-back P (x ∷ xs) ys all = all-back P xs ys all.1

pub all-map : {A B : Type 0} (Q : A → Type 0) (P : B → Type 0) (f : A → B) → ((x : A) → Q x → P (f x)) → (xs : List A) → AllByRecursion Q xs → AllByRecursion P (map f xs)
all-map Q P f here [] all = tt
all-map Q P f here (x ∷ xs) all = (here x all.0, all-map Q P f here xs all.1)

pub all-flat_map : {A B : Type 0} (Q : A → Type 0) (P : B → Type 0) (f : A → List B) → ((x : A) → Q x → AllByRecursion P (f x)) → (xs : List A) → AllByRecursion Q xs → AllByRecursion P (flat_map f xs)
all-flat_map Q P f here [] all = tt
all-flat_map Q P f here (x ∷ xs) all = all-append P (f x) (flat_map f xs) (here x all.0) (all-flat_map Q P f here xs all.1)

pub all-pieces : {A B : Type 0} (P : B → Type 0) (f : A → List B) (xs : List A) → AllByRecursion P (flat_map f xs) → AllByRecursion (λ x. AllByRecursion P (f x)) xs
all-pieces P f [] all = tt
all-pieces P f (x ∷ xs) all = (all-front P (f x) (flat_map f xs) all, all-pieces P f xs (all-back P (f x) (flat_map f xs) all))

filter-step : {A : Type 0} (P : A → Type 0) (p : A → Bool) (x : A) (xs : List A) (b : Bool) → p x ≡ b → (p x ≡ true → P x) → AllByRecursion P (filter p xs) → AllByRecursion P (cond b (x ∷ filter p xs) (filter p xs))
filter-step P p x xs true e here rest = (here e, rest)
filter-step P p x xs false e here rest = rest

pub all-filter : {A : Type 0} (Q P : A → Type 0) (p : A → Bool) → ((x : A) → Q x → p x ≡ true → P x) → (xs : List A) → AllByRecursion Q xs → AllByRecursion P (filter p xs)
all-filter Q P p here [] all = tt
all-filter Q P p here (x ∷ xs) all = filter-step P p x xs (p x) refl (here x all.0) (all-filter Q P p here xs all.1)

pub all-onto : {A : Type 0} (Q P : A → Type 0) → ((x : A) → Q x → P x) → (xs : List A) → AllByRecursion Q xs → AllByRecursion P xs
all-onto Q P here [] all = tt
all-onto Q P here (x ∷ xs) all = (here x all.0, all-onto Q P here xs all.1)

pub all-both : {A : Type 0} (Q R P : A → Type 0) → ((x : A) → Q x → R x → P x) → (xs : List A) → AllByRecursion Q xs → AllByRecursion R xs → AllByRecursion P xs
all-both Q R P here [] all also = tt
all-both Q R P here (x ∷ xs) all also = (here x all.0 also.0, all-both Q R P here xs all.1 also.1)

pub all-any : {A : Type 0} (P : A → Type 0) → ((x : A) → P x) → (xs : List A) → AllByRecursion P xs
all-any P here [] = tt
all-any P here (x ∷ xs) = (here x, all-any P here xs)

pub all-at : {A : Type 0} (P : A → Type 0) (xs : List A) (d : A) → AllByRecursion P xs → (i : ℕ) → i < length xs → P (slice_index_or xs i d)
all-at P [] d all i h = absurd (omega arith)
all-at P (x ∷ xs) d all zero h = all.0
all-at P (x ∷ xs) d all (suc i) h = all-at P xs d all.1 i (omega arith)

pub all-everywhere : {A : Type 0} (P : A → Type 0) (xs : List A) (d : A) → P d → AllByRecursion P xs → (i : ℕ) → P (slice_index_or xs i d)
all-everywhere P [] d none all i = none
all-everywhere P (x ∷ xs) d none all zero = all.0
all-everywhere P (x ∷ xs) d none all (suc i) = all-everywhere P xs d none all.1 i

pub all-contains : {A : Type 0} (P : A → Type 0) (xs : List A) (x : A) → AllByRecursion P xs → Contains xs x → P x
all-contains P xs x all among = All-contains P xs x (All-from_recursion P xs all) among

pub all-members : {A : Type 0} (xs : List A) → AllByRecursion (Contains xs) xs
all-members xs = recursion_from_All (Contains xs) xs (All-contains_itself xs)

pub all-found : {A : Type 0} (P : A → Type 0) (same : A → A → Bool) → ((x : A) → same x x ≡ true) → (xs : List A) → ((x : A) → list_any (same x) xs ≡ true → P x) → AllByRecursion P xs
all-found P same own [] found = tt
all-found P same own (x ∷ xs) found = (found x (ap (λ b. b || list_any (same x) xs) (own x)), all-found P same own xs (λ y among. found y (later (same y x) (list_any (same y) xs) among)))
  where
    later : (a b : Bool) → b ≡ true → (a || b) ≡ true
    later true b e = refl
    later false b e = e

pub contains-head : {A : Type 0} (x y : A) (xs : List A) → y ≡ x → Contains (y ∷ xs) x
contains-head x y xs e = (0, omega arith, e)

pub contains-later : {A : Type 0} (x y : A) (xs : List A) → Contains xs x → Contains (y ∷ xs) x
contains-later x y xs (k, h, e) = (suc k, omega arith, e)

pub contains-cases : {A : Type 0} (x y : A) (xs : List A) → Contains (y ∷ xs) x → (y ≡ x) ⊎ Contains xs x
contains-cases x y xs (zero, h, e) = inl e
contains-cases x y xs (suc k, h, e) = inr (k, omega arith, e)

filter-head : {A : Type 0} (p : A → Bool) (x : A) (xs : List A) (b : Bool) → p x ≡ b → p x ≡ true → Contains (cond b (x ∷ filter p xs) (filter p xs)) x
filter-head p x xs true e on = (0, omega arith, refl)
filter-head p x xs false e on = absurd (cc)

filter-later : {A : Type 0} (p : A → Bool) (x y : A) (xs : List A) (b : Bool) → Contains (filter p xs) y → Contains (cond b (x ∷ filter p xs) (filter p xs)) y
filter-later p x y xs true among = contains-later y x (filter p xs) among
filter-later p x y xs false among = among

filter-keeps : {A : Type 0} (p : A → Bool) (xs : List A) → AllByRecursion (λ x. p x ≡ true → Contains (filter p xs) x) xs
filter-keeps p [] = tt
filter-keeps p (x ∷ xs) = (filter-head p x xs (p x) refl, all-onto (λ y. p y ≡ true → Contains (filter p xs) y) (λ y. p y ≡ true → Contains (filter p (x ∷ xs)) y) (λ y kept on. filter-later p x y xs (p x) (kept on)) xs (filter-keeps p xs))

pub contains-filter : {A : Type 0} (p : A → Bool) (x : A) (xs : List A) → Contains xs x → p x ≡ true → Contains (filter p xs) x
contains-filter p x xs among on = all-contains (λ y. p y ≡ true → Contains (filter p xs) y) xs x (filter-keeps p xs) among on

values-kept : {A B : Type 0} (f : A → B) (xs : List A) → AllByRecursion (λ x. Contains (map f xs) (f x)) xs
values-kept f [] = tt
values-kept f (x ∷ xs) = (contains-head (f x) (f x) (map f xs) refl, all-onto (λ y. Contains (map f xs) (f y)) (λ y. Contains (f x ∷ map f xs) (f y)) (λ y among. contains-later (f y) (f x) (map f xs) among) xs (values-kept f xs))

pub contains-map : {A B : Type 0} (f : A → B) (x : A) (xs : List A) → Contains xs x → Contains (map f xs) (f x)
contains-map f x xs among = all-contains (λ y. Contains (map f xs) (f y)) xs x (values-kept f xs) among

pieces-kept : {A B : Type 0} (f : A → List B) (y : B) (xs : List A) → AllByRecursion (λ x. Contains (f x) y → Contains (flat_map f xs) y) xs
pieces-kept f y [] = tt
pieces-kept f y (x ∷ xs) =
    (Contains-append_left (f x) (flat_map f xs) y, all-onto (λ z. Contains (f z) y → Contains (flat_map f xs) y) (λ z. Contains (f z) y → Contains (f x ++ flat_map f xs) y) (λ z kept among. Contains-append_right (f x) (flat_map f xs) y (kept among)) xs (pieces-kept f y xs))

pub contains-flat_map : {A B : Type 0} (f : A → List B) (x : A) (y : B) (xs : List A) → Contains xs x → Contains (f x) y → Contains (flat_map f xs) y
contains-flat_map f x y xs among = all-contains (λ z. Contains (f z) y → Contains (flat_map f xs) y) xs x (pieces-kept f y xs) among

pub contains-range : (k n i : ℕ) → k ≤ i → i < k + n → Contains (range_with_len k n) i
contains-range k zero i h l = absurd (omega arith)
contains-range k (suc n) i h l = elim (cases_eq k i) [
  | inl e ↦ contains-head i k (range_with_len (k + 1) n) e
  | inr ne ↦ contains-later i k (range_with_len (k + 1) n) (contains-range (k + 1) n i (omega (arith, ne)) (omega arith))
]
