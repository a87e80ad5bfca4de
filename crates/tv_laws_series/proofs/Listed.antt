-- The list of the first terms of a sequence.
use Rattle.std.proofs.Common.{◌≡◌, ℕ, ◌+◌, ◌-◌, ◌<◌, ◌≤◌, List, [], ◌∷◌, ◌++◌, length, take, drop, get_or, refl, sym, ◌∙◌, ap, arith, inl, inr}
use Rattle.std.proofs.lemmas.List.{get_or_read, get_or_past, get_or-take, get_or-drop, get_or_append_left, length-take, length-drop, length-append}
use Rattle.std.proofs.lemmas.Bool.{cases_lt}
use Rattle.std.proofs.lemmas.List.FromFn.{length-map-range_with_len, get_or-map-range_with_len, map-range_with_len_more, take-map-range_with_len, fill_by_all}
use Rattle.tv_ring.specs.Operations.{Operations, RingLaws}
use Rattle.tv_ring.specs.Sums.{AreValues, at}
use Rattle.tv_laws_series.specs.Terms.{listed}

pub length-listed : {A : Type 0} (f : ℕ → A) (n : ℕ) → length (listed f n) ≡ n
unfolding listed
length-listed f n = length-map-range_with_len f 0 n

pub listed-none : {A : Type 0} (f : ℕ → A) → listed f 0 ≡ []
unfolding listed
listed-none f = refl

-- one term more
pub listed-more : {A : Type 0} (f : ℕ → A) (n : ℕ) → listed f (n + 1) ≡ listed f n ++ f n ∷ []
unfolding listed
listed-more f n = map-range_with_len_more f 0 n n (omega arith)

pub listed-take : {A : Type 0} (f : ℕ → A) (n k : ℕ) → k ≤ n → take k (listed f n) ≡ listed f k
unfolding listed
listed-take f n k h = take-map-range_with_len f 0 n k h

pub at-listed : {A : Type 0} (r : Operations A) (f : ℕ → A) (n k : ℕ) → k < n → at r (listed f n) k ≡ f k
unfolding at listed
at-listed r f n k h = get_or-map-range_with_len f 0 n k k r.nought h (omega arith)

pub at_past : {A : Type 0} (r : Operations A) (xs : List A) (k : ℕ) → length xs ≤ k → at r xs k ≡ r.nought
unfolding at
at_past r xs k h = get_or_past xs k r.nought h

pub at-take : {A : Type 0} (r : Operations A) (xs : List A) (n k : ℕ) → k < n → at r (take n xs) k ≡ at r xs k
unfolding at
at-take r xs n k h = get_or-take n xs k r.nought h

-- what a read of an element gives
pub at_read : {A : Type 0} (r : Operations A) (xs : List A) (i : ℕ) (x : A) → x ≡ get_or xs i x → i < length xs → x ≡ at r xs i
unfolding at
at_read r xs i x read within = get_or_read xs i x within read r.nought

-- a list whose terms are those of a sequence
pub listed_all : {A : Type 0} (r : Operations A) (f : ℕ → A) (xs : List A) (n : ℕ) → length xs ≡ n → ((k : ℕ) → k < n → at r xs k ≡ f k) → xs ≡ listed f n
unfolding at listed
listed_all r f xs n e each = fill_by_all f xs n r.nought e each

-- two lists of one length with the same terms
pub same_listed : {A : Type 0} (r : Operations A) (xs ys : List A) → length xs ≡ length ys → ((k : ℕ) → k < length ys → at r xs k ≡ at r ys k) → xs ≡ ys
same_listed r xs ys e each = listed_all r (at r ys) xs (length ys) e each ∙ sym (listed_all r (at r ys) ys (length ys) refl (λ k _. refl))

-- past the end there is nought, which is a value
pub values_all : {A : Type 0} {IsValue : A → Type 0} {r : Operations A} (laws : RingLaws IsValue r) (xs : List A) → ((k : ℕ) → k < length xs → IsValue (at r xs k)) → AreValues IsValue (at r xs)
values_all {IsValue} {r} laws xs each k = elim (cases_lt k (length xs)) as (λ _. IsValue (at r xs k)) [
  | inl h ↦ each k h
  | inr h ↦ rw (at_past r xs k h) laws.value_nought
]

-- one more element is a value
pub values_more : {A : Type 0} {IsValue : A → Type 0} {r : Operations A} (laws : RingLaws IsValue r) (xs : List A) (i : ℕ) (x : A) → x ≡ get_or xs i x → i < length xs → ((k : ℕ) → k < i → IsValue (at r xs k)) → IsValue x → (k : ℕ) → k < i + 1 → IsValue (at r xs k)
values_more {IsValue} {r} laws xs i x read within below v k h = elim (cases_lt k i) as (λ _. IsValue (at r xs k)) [
  | inl less ↦ below k less
  | inr not_less ↦ let e : k ≡ i = omega arith in rw (e, ← at_read r xs i x read within) v
]

-- the same, where the place is told by another number
pub read_at : {A : Type 0} (r : Operations A) (xs : List A) (i k : ℕ) (x : A) → x ≡ get_or xs i x → i ≡ k → k < length xs → x ≡ at r xs k
read_at r xs i k x read e within = let inside : i < length xs = omega arith in at_read r xs i x read inside ∙ ap (at r xs) e

-- a list to which the next term is pushed
pub listed_push : {A : Type 0} (f : ℕ → A) (n : ℕ) (old new : List A) (x : A) → old ≡ listed f n → new ≡ old ++ x ∷ [] → x ≡ f n → new ≡ listed f (n + 1)
listed_push f n old new x before pushed e = pushed ∙ rw (before, e) (sym (listed-more f n))

-- what is left between front and end
pub length-between : {A : Type 0} (xs ys zs us : List A) (front end : ℕ) → end ≤ length xs → ys ≡ take end xs → zs ≡ drop front ys ++ take front ys → us ≡ take (end - front) zs → length us ≡ end - front
length-between xs ys zs us front end h ey ez eu =
    let a = ap length ey in let b = ap length ez in let c = ap length eu in
    omega (arith, length-take end xs, length-append (drop front ys) (take front ys), length-drop front ys, length-take front ys, length-take (end - front) zs, a, b, c)

pub at-between : {A : Type 0} (r : Operations A) (xs ys zs us : List A) (front end i : ℕ) → end ≤ length xs → ys ≡ take end xs → zs ≡ drop front ys ++ take front ys → us ≡ take (end - front) zs → i < end - front → at r us i ≡ at r xs (front + i)
unfolding at
at-between r xs ys zs us front end i h ey ez eu within =
    let d = r.nought in let a = ap length ey in
    let inside : i < length (drop front ys) = omega (arith, length-take end xs, length-drop front ys, a) in
    ap (λ (l : List _). get_or l i d) eu ∙ get_or-take (end - front) zs i d within ∙ ap (λ (l : List _). get_or l i d) ez
    ∙ get_or_append_left (drop front ys) (take front ys) d i inside ∙ get_or-drop front ys i d ∙ ap (λ (l : List _). get_or l (front + i) d) ey ∙ get_or-take end xs (front + i) d (omega arith)
