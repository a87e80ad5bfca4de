-- Lists made by map, filter and flat_map.
--
-- map-same            equal values make equal lists
-- flat_map-same       equal pieces make equal lists; flat_map-same_on, where they are equal on the members
-- flat_map-flat_map   pieces of pieces are joined piece by piece
-- flat_map-none       joined pieces are empty where each is; flat_map-last, over a range the last where all others are empty
-- flat_map-filter     pieces after a filter are empty where the test fails
-- filter-map          a filter of values is a filter before them
-- filter-flat_map     a filter of joined pieces filters each piece
-- filter-same_on      tests that agree on the members pass the same
-- filter-none         nothing passes a test that always fails; filter-none_on, one that fails on the members
-- filter-weaker       a filter after a weaker one is that filter alone
-- list_any-map        a value passes where a member passes the test of its value
-- list_any-flat_map   a member of joined pieces passes where one of a piece does
-- length-flat_map-le  joined pieces of length at most m are at most m times as many
-- length-pairs        as many pairs as the product of the two lengths
-- pointwise-own       a list agrees with itself, place by place
use Rattle.std.specs.Prelude.{◌≡◌, ℕ, zero, suc, ◌+◌, ◌*◌, ◌<◌, ◌≤◌, Bool, true, false, cond, ◌||◌, List, [], ◌∷◌, ◌++◌, map, filter, length}
use Rattle.std.specs.List.{flat_map, AllByRecursion, list_any, range_with_len}
use Rattle.std.proofs.Common.{refl, sym, ap, ◌∙◌, arith, length-append, append-nil, add-zero}
use Rattle.std.proofs.lemmas.List.{length-map}
use Rattle.std.proofs.lemmas.List.Concat.{flat_map-append}
use Rattle.std.proofs.lemmas.List.Elements.{filter-append}
use Rattle.std.proofs.lemmas.List.Folds.{list_any-append}
use Rattle.std.proofs.lemmas.Bool.{and_from}
use Rattle.std.specs.Cmp.Lexicographic.{pointwise}

pub map-same : {A B : Type 0} (f g : A → B) → ((x : A) → f x ≡ g x) → (xs : List A) → map f xs ≡ map g xs
map-same f g same [] = refl
map-same f g same (x ∷ xs) = ap (λ y. y ∷ map f xs) (same x) ∙ ap (λ ys. g x ∷ ys) (map-same f g same xs)

pub flat_map-same : {A B : Type 0} (f g : A → List B) → ((x : A) → f x ≡ g x) → (xs : List A) → flat_map f xs ≡ flat_map g xs
flat_map-same f g same [] = refl
flat_map-same f g same (x ∷ xs) = ap (λ ys. ys ++ flat_map f xs) (same x) ∙ ap (λ ys. g x ++ ys) (flat_map-same f g same xs)

pub flat_map-same_on : {A B : Type 0} (P : A → Type 0) (f g : A → List B) → ((x : A) → P x → f x ≡ g x) → (xs : List A) → AllByRecursion P xs → flat_map f xs ≡ flat_map g xs
flat_map-same_on P f g same [] all = refl
flat_map-same_on P f g same (x ∷ xs) all = ap (λ ys. ys ++ flat_map f xs) (same x all.0) ∙ ap (λ ys. g x ++ ys) (flat_map-same_on P f g same xs all.1)

pub flat_map-flat_map : {A B C : Type 0} (f : B → List C) (g : A → List B) (xs : List A) → flat_map f (flat_map g xs) ≡ flat_map (λ x. flat_map f (g x)) xs
flat_map-flat_map f g [] = refl
flat_map-flat_map f g (x ∷ xs) = flat_map-append f (g x) (flat_map g xs) ∙ ap (λ ys. flat_map f (g x) ++ ys) (flat_map-flat_map f g xs)

pub flat_map-none : {A B : Type 0} (xs : List A) → flat_map {A = B} (λ (x : A). []) xs ≡ []
flat_map-none [] = refl
flat_map-none (x ∷ xs) = flat_map-none xs

pub flat_map-last : {B : Type 0} (F : ℕ → List B) (k n : ℕ) → ((j : ℕ) → j < k + n → F j ≡ []) → flat_map F (range_with_len k (suc n)) ≡ F (k + n)
flat_map-last F k zero none = append-nil (F k) ∙ ap F (sym (add-zero k))
flat_map-last F k (suc n) none = ap (λ ys. ys ++ flat_map F (range_with_len (k + 1) (suc n))) (none k (omega arith)) ∙ flat_map-last F (k + 1) n (λ j h. none j (omega arith)) ∙ ap F (omega arith)

cond-append : {B : Type 0} (b : Bool) (ys zs : List B) → cond b (ys ++ zs) zs ≡ cond b ys [] ++ zs
cond-append true ys zs = refl
cond-append false ys zs = refl

cond-flat_map : {A B : Type 0} (f : A → List B) (b : Bool) (x : A) (xs : List A) → flat_map f (cond b (x ∷ xs) xs) ≡ cond b (f x ++ flat_map f xs) (flat_map f xs)
cond-flat_map f true x xs = refl
cond-flat_map f false x xs = refl

pub flat_map-filter : {A B : Type 0} (p : A → Bool) (f : A → List B) (xs : List A) → flat_map f (filter p xs) ≡ flat_map (λ x. cond (p x) (f x) []) xs
flat_map-filter p f [] = refl
flat_map-filter p f (x ∷ xs) = cond-flat_map f (p x) x (filter p xs) ∙ (cond-append (p x) (f x) (flat_map f (filter p xs)) ∙ ap (λ ys. cond (p x) (f x) [] ++ ys) (flat_map-filter p f xs))

filter-map_at : {A B : Type 0} (f : A → B) (b : Bool) (x : A) (xs : List A) → cond b (f x ∷ map f xs) (map f xs) ≡ map f (cond b (x ∷ xs) xs)
filter-map_at f true x xs = refl
filter-map_at f false x xs = refl

pub filter-map : {A B : Type 0} (p : B → Bool) (q : A → Bool) (f : A → B) → ((x : A) → p (f x) ≡ q x) → (xs : List A) → filter p (map f xs) ≡ map f (filter q xs)
filter-map p q f same [] = refl
filter-map p q f same (x ∷ xs) = ap (λ b. cond b (f x ∷ filter p (map f xs)) (filter p (map f xs))) (same x) ∙ (ap (λ ys. cond (q x) (f x ∷ ys) ys) (filter-map p q f same xs) ∙ filter-map_at f (q x) x (filter q xs))

pub filter-flat_map : {A B : Type 0} (p : B → Bool) (f : A → List B) (xs : List A) → filter p (flat_map f xs) ≡ flat_map (λ x. filter p (f x)) xs
filter-flat_map p f [] = refl
filter-flat_map p f (x ∷ xs) = filter-append p (f x) (flat_map f xs) ∙ ap (λ ys. filter p (f x) ++ ys) (filter-flat_map p f xs)

pub filter-same_on : {A : Type 0} (P : A → Type 0) (p q : A → Bool) → ((x : A) → P x → p x ≡ q x) → (xs : List A) → AllByRecursion P xs → filter p xs ≡ filter q xs
filter-same_on P p q same [] all = refl
filter-same_on P p q same (x ∷ xs) all = ap (λ ys. cond (p x) (x ∷ ys) ys) (filter-same_on P p q same xs all.1) ∙ ap (λ b. cond b (x ∷ filter q xs) (filter q xs)) (same x all.0)

pub filter-none : {A : Type 0} (p : A → Bool) → ((x : A) → p x ≡ false) → (xs : List A) → filter p xs ≡ []
filter-none p none [] = refl
filter-none p none (x ∷ xs) = ap (λ b. cond b (x ∷ filter p xs) (filter p xs)) (none x) ∙ filter-none p none xs

pub filter-none_on : {A : Type 0} (P : A → Type 0) (p : A → Bool) → ((x : A) → P x → p x ≡ false) → (xs : List A) → AllByRecursion P xs → filter p xs ≡ []
filter-none_on P p none [] all = refl
filter-none_on P p none (x ∷ xs) all = ap (λ b. cond b (x ∷ filter p xs) (filter p xs)) (none x all.0) ∙ filter-none_on P p none xs all.1

filter-weaker_at : {A : Type 0} (p q : A → Bool) (x : A) (xs : List A) (a b : Bool) → p x ≡ a → q x ≡ b → (p x ≡ true → q x ≡ true) → filter p (cond b (x ∷ xs) xs) ≡ cond a (x ∷ filter p xs) (filter p xs)
filter-weaker_at p q x xs a true e f weak = ap (λ c. cond c (x ∷ filter p xs) (filter p xs)) e
filter-weaker_at p q x xs false false e f weak = refl
filter-weaker_at p q x xs true false e f weak = absurd (let g = weak e in cc)

pub filter-weaker : {A : Type 0} (p q : A → Bool) → ((x : A) → p x ≡ true → q x ≡ true) → (xs : List A) → filter p (filter q xs) ≡ filter p xs
filter-weaker p q weak [] = refl
filter-weaker p q weak (x ∷ xs) = filter-weaker_at p q x (filter q xs) (p x) (q x) refl refl (weak x) ∙ ap (λ ys. cond (p x) (x ∷ ys) ys) (filter-weaker p q weak xs)

pub list_any-map : {A B : Type 0} (p : B → Bool) (f : A → B) (xs : List A) → list_any p (map f xs) ≡ list_any (λ x. p (f x)) xs
list_any-map p f [] = refl
list_any-map p f (x ∷ xs) = ap (λ b. p (f x) || b) (list_any-map p f xs)

pub list_any-flat_map : {A B : Type 0} (p : B → Bool) (f : A → List B) (xs : List A) → list_any p (flat_map f xs) ≡ list_any (λ x. list_any p (f x)) xs
list_any-flat_map p f [] = refl
list_any-flat_map p f (x ∷ xs) = list_any-append p (f x) (flat_map f xs) ∙ ap (λ b. list_any p (f x) || b) (list_any-flat_map p f xs)

pub length-flat_map-le : {A B : Type 0} (f : A → List B) (m : ℕ) → ((x : A) → length (f x) ≤ m) → (xs : List A) → length (flat_map f xs) ≤ length xs * m
length-flat_map-le f m few [] = omega arith
length-flat_map-le f m few (x ∷ xs) = omega (arith, length-append (f x) (flat_map f xs), few x, length-flat_map-le f m few xs)

pub length-pairs : {A B C : Type 0} (f : A → B → C) (ys : List B) (xs : List A) → length (flat_map (λ x. map (f x) ys) xs) ≡ length xs * length ys
length-pairs f ys [] = omega arith
length-pairs f ys (x ∷ xs) = length-append (map (f x) ys) (flat_map (λ z. map (f z) ys) xs) ∙ (let front = length-map ys (f x) in let rest = length-pairs f ys xs in omega arith)

pub pointwise-own : {A : Type 0} (same : A → A → Bool) → ((x : A) → same x x ≡ true) → (xs : List A) → pointwise same xs xs ≡ true
pointwise-own same own [] = refl
pointwise-own same own (x ∷ xs) = and_from (same x x) (pointwise same xs xs) (own x) (pointwise-own same own xs)
