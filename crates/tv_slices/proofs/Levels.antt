-- From one diagonal to the next: what is pushed from all slices of a table makes the ways up to each slice above.
use Rattle.std.proofs.Common.{◌≡◌, ℕ, zero, suc, ◌+◌, ◌-◌, ◌*◌, ◌<◌, ◌≤◌, ℤ, pos, neg_ℤ, ◌+ℤ◌, ◌≤ℤ◌, ◌<ℤ◌, Bool, true, false, List, [], ◌∷◌, length, take, get_or, Option, Some, None, refl, sym, ◌∙◌, ap, subst, arith, inl, inr}
use Rattle.std.specs.Prelude.{cond, ◌⊎◌, ◌&&◌, nat_le, nat_lt, filter, is_some, MatchOption, slice_get}
use Rattle.std.specs.List.{AllByRecursion, IsDistinct}
use Rattle.std.specs.Map.{lookup, keys_of}
use Rattle.std.proofs.lemmas.Bool.{cases_Bool, cases_lt, lt-leb, le-leb, lt-ltb}
use Rattle.std.proofs.lemmas.Int.{ints}
use Rattle.tv_lemmas.specs.Sums.{sum_of}
use Rattle.tv_lemmas.proofs.Sums.{sum_of-append, sum_of-one}
use Rattle.tv_ring.specs.Operations.{Operations, limit}
use Rattle.tv_cells.specs.declared.legs.Legs.{Legs}
use Rattle.tv_cells.specs.Extras.{extent, count, AreDiagrams}
use Rattle.tv_spec_slices.specs.Slices.{Shape, fits, interlaces, extras_of, completion, same_shape}
use Rattle.tv_spec_slices.specs.Paths.{fitting, ways_at}
use Rattle.tv_laws_slices.specs.Laws.{often}
use Rattle.tv_laws_slices.proofs.Sums.{sum_of-same, sum_of-zero, sum_of-filter}
use Rattle.tv_laws_slices.proofs.Once.{once-all}
use Rattle.tv_laws_slices.proofs.Steps.{completion-step, sum_of-add}
use Rattle.tv_laws_slices.proofs.Pushed.{same-shape, own-shape, single, sum_of-all, fitting-fits, ways-next}
use Rattle.tv_laws_slices.proofs.Climb.{entries-are-bounded}
use Rattle.tv_laws_slices.proofs.Counted.{paths-are-counted}
use Rattle.tv_slices.specs.declared.row.Row.{Row}
use Rattle.tv_slices.specs.Tables.{known, ways_to, HasRow, IsTable, given, pushed, with_slice, IsTooMany}
use Rattle.tv_slices.proofs.Numbers.{more-wide}
use Rattle.tv_slices.proofs.Put.{table-same, row-same}
use Rattle.tv_slices.proofs.Neighbours.{take-next, take-whole, sum-take}

turned : (a b : Shape) → same_shape a b ≡ same_shape b a
turned a b = elim (cases_Bool (same_shape a b)) [
  | inl on ↦ on ∙ sym (subst (λ x. same_shape x a ≡ true) (same-shape a b on) (own-shape a))
  | inr off ↦ elim (cases_Bool (same_shape b a)) [
    | inl on ↦ let back : same_shape a b ≡ true = subst (λ x. same_shape x b ≡ true) (same-shape b a on) (own-shape b) in absurd (cc)
    | inr none ↦ off ∙ sym none
  ]
]

-- what comes to s from a, where all its neighbours are pushed
unfoldable pub share : Legs → ℕ → ℤ → Shape → Shape → ℕ → ℕ
share legs k t s a c =
    cond (fits legs (t +ℤ pos 1) s) (cond (interlaces t a s) (cond (nat_le (extras_of legs (t +ℤ pos 1) s) c) (ways_at legs k t a (c - extras_of legs (t +ℤ pos 1) s)) 0) 0) 0

joined : (p q r : Bool) (w : ℕ) → cond p (cond (q && r) w 0) 0 ≡ cond q (cond p (cond r w 0) 0) 0
joined true true r w = refl
joined true false r w = refl
joined false true r w = refl
joined false false r w = refl

split : (p q : Bool) (w : ℕ) → cond (p && q) w 0 ≡ cond p (cond q w 0) 0
split true q w = refl
split false q w = refl

pushed-is : (legs : Legs) (k : ℕ) (t : ℤ) (m : ℕ) (a s : Shape) (c : ℕ) → AreDiagrams legs →
    pushed legs k t m a s c ≡ cond (fits legs (t +ℤ pos 1) s) (cond (nat_le (extras_of legs (t +ℤ pos 1) s) m) (cond (interlaces t a s) (cond (nat_le (extras_of legs (t +ℤ pos 1) s) c) (ways_at legs k t a (c - extras_of legs (t +ℤ pos 1) s)) 0) 0) 0) 0
unfolding pushed
pushed-is legs k t m a s c are =
    let u = t +ℤ pos 1 in
    let value : Shape → ℕ = λ b. cond (interlaces t a b) (cond (nat_le (extras_of legs u b) c) (ways_at legs k t a (c - extras_of legs u b)) 0) 0 in
    sum_of-filter (λ b. given (ways_at legs k t a) b (extras_of legs u b) s c) (interlaces t a) (fitting legs u m)
    ∙ (sum_of-same (λ b. cond (interlaces t a b) (given (ways_at legs k t a) b (extras_of legs u b) s c) 0) (λ b. cond (same_shape s b) (value b) 0)
    (λ b. joined (interlaces t a b) (same_shape b s) (nat_le (extras_of legs u b) c) (ways_at legs k t a (c - extras_of legs u b)) ∙ ap (λ q. cond q (value b) 0) (turned b s)) (fitting legs u m)
    ∙ (single s value (fitting legs u m) (fits legs u s && nat_le (extras_of legs u s) m) (once-all legs u m s are)
    ∙ split (fits legs u s) (nat_le (extras_of legs u s) m) (value s)))

-- the slices with more extras than are left give nothing
pub pushed-share : {A : Type 0} (r : Operations A) (legs : Legs) (k : ℕ) (t : ℤ) (a s : Shape) (row : Row A) (c : ℕ) → AreDiagrams legs → HasRow r (ways_at legs k t a) (known legs k t a) row → c < known legs k (t +ℤ pos 1) s →
    pushed legs k t (k - row.least) a s c ≡ share legs k t s a c
unfolding share
pushed-share r legs k t a s row c are has l = pushed-is legs k t (k - row.least) a s c are ∙ by_fit (fits legs (t +ℤ pos 1) s) refl
  where
    u : ℤ
    u = t +ℤ pos 1

    x : ℕ
    x = extras_of legs u s

    by_low : nat_le x (k - row.least) ≡ false → fits legs u s ≡ true → interlaces t a s ≡ true → x ≤ c → ways_at legs k t a (c - x) ≡ 0
    by_low off f i more =
        has.least (c - x) (kept (completion legs t a) (completion legs u s) x (completion-step legs t a s are f i) l more) (lower x (cases_lt (k - row.least) x) off (completion legs u s) l more)
      where
        kept : (p q x : ℕ) → p ≤ x + q → c < suc k - q → x ≤ c → c - x < suc k - p
        kept p q x g m h = omega arith

        lower : (x : ℕ) → ((k - row.least) < x) ⊎ (x ≤ k - row.least) → nat_le x (k - row.least) ≡ false → (q : ℕ) → c < suc k - q → x ≤ c → c - x < row.least
        lower x (inl less) off q m h = omega arith
        lower x (inr most) off q m h = let on = le-leb x (k - row.least) most in absurd (cc)

    by_more : nat_le x (k - row.least) ≡ false → fits legs u s ≡ true → interlaces t a s ≡ true → 0 ≡ cond (nat_le x c) (ways_at legs k t a (c - x)) 0
    by_more off f i = elim (cases_lt c x) [
      | inl less ↦ rw (lt-leb x c less) refl
      | inr more ↦ rw (le-leb x c more) (sym (by_low off f i more))
    ]

    by_beside : (i : Bool) → interlaces t a s ≡ i → nat_le x (k - row.least) ≡ false → fits legs u s ≡ true → 0 ≡ cond i (cond (nat_le x c) (ways_at legs k t a (c - x)) 0) 0
    by_beside true ei off f = by_more off f ei
    by_beside false ei off f = refl

    by_few : (q : Bool) → nat_le x (k - row.least) ≡ q → fits legs u s ≡ true → cond q (cond (interlaces t a s) (cond (nat_le x c) (ways_at legs k t a (c - x)) 0) 0) 0 ≡ cond (interlaces t a s) (cond (nat_le x c) (ways_at legs k t a (c - x)) 0) 0
    by_few true e f = refl
    by_few false e f = by_beside (interlaces t a s) refl e f

    by_fit : (p : Bool) → fits legs u s ≡ p → cond p (cond (nat_le x (k - row.least)) (cond (interlaces t a s) (cond (nat_le x c) (ways_at legs k t a (c - x)) 0) 0) 0) 0 ≡ cond p (cond (interlaces t a s) (cond (nat_le x c) (ways_at legs k t a (c - x)) 0) 0) 0
    by_fit true e = by_few (nat_le x (k - row.least)) refl e
    by_fit false e = refl

-- ---- all slices of a table

-- what comes to s from those of the rows
unfoldable pub shares : {V : Type 0} → Legs → ℕ → ℤ → List (Shape × V) → Shape → ℕ → ℕ
shares legs k t rows s c = sum_of (λ e. share legs k t s e.0 c) rows

-- each of a list, with the keys taken apart
same-sum : {V : Type 0} (F : Shape → ℕ) (xs : List Shape) (rows : List (Shape × V)) → AllByRecursion (λ e. often e.0 xs ≡ 1) rows → IsDistinct same_shape (keys_of rows) →
    sum_of F xs ≡ sum_of (λ e. F e.0) rows + sum_of (λ a. cond (is_some (lookup (same_shape a) rows)) 0 (F a)) xs
unfolding IsDistinct
same-sum F xs [] all distinct = omega arith
same-sum {V} F xs (e ∷ rows) all distinct =
    let rest = same-sum F xs rows all.1 distinct.1 in
    let parts = sum_of-same (λ a. cond (is_some (lookup (same_shape a) rows)) 0 (F a)) (λ a. cond (same_shape e.0 a) (F a) 0 + cond (is_some (lookup (same_shape a) (e ∷ rows))) 0 (F a)) (λ a. part a (same_shape a e.0) refl) xs
    ∙ sym (sum_of-add (λ a. cond (same_shape e.0 a) (F a) 0) (λ a. cond (is_some (lookup (same_shape a) (e ∷ rows))) 0 (F a)) xs) in
    let here = single e.0 F xs true all.0 in
    sums (sum_of F xs) (F e.0) (sum_of (λ e. F e.0) rows) _ _ _ rest parts here
  where
    sums : (w f m n p q : ℕ) → w ≡ m + n → n ≡ p + q → p ≡ f → w ≡ (f + m) + q
    sums w f m n p q a b d = omega arith

    absent : (a : Shape) (es : List (Shape × V)) → AllByRecursion (λ y. same_shape a y ≡ false) (keys_of es) → lookup (same_shape a) es ≡ None
    absent a [] none = refl
    absent a (f ∷ es) none = rw none.0 (absent a es none.1)

    part : (a : Shape) (q : Bool) → same_shape a e.0 ≡ q → cond (is_some (lookup (same_shape a) rows)) 0 (F a) ≡ cond (same_shape e.0 a) (F a) 0 + cond (is_some (cond (same_shape a e.0) (Some e.1) (lookup (same_shape a) rows))) 0 (F a)
    part a true on =
        let one : a ≡ e.0 = same-shape a e.0 on in
        let none : lookup (same_shape a) rows ≡ None = subst (λ b. lookup (same_shape b) rows ≡ None) (sym one) (absent e.0 rows distinct.0) in
        rw (on, none, sym (turned a e.0) ∙ on) (nought (F a))
      where
        nought : (v : ℕ) → v ≡ v + 0
        nought v = omega arith
    part a false off = rw (off, sym (turned a e.0) ∙ off) (omega arith)

pub got : {X : Type 0} (xs : List X) (i : ℕ) (x : X) → slice_get xs i ≡ Some x → (i < length xs) × (x ≡ get_or xs i x)
got [] i x e = absurd (let f : None ≡ Some x = e in cc)
got (y ∷ xs) zero x e = (omega arith, (let f : Some y ≡ Some x = e in cc))
got (y ∷ xs) (suc i) x e = let rest = got xs i x e in (omega (arith, rest.0), rest.1)

only_if : {X : Type 0} (q : Bool) (p : X → Bool) (v : X → ℕ) (xs : List X) → sum_of (λ a. cond (p a) (cond q (v a) 0) 0) xs ≡ cond q (sum_of v (filter p xs)) 0
only_if true p v xs = sym (sum_of-filter v p xs)
only_if false p v xs = sum_of-zero (λ a. cond (p a) 0 0) (λ a. none (p a)) xs
  where
    none : (s : Bool) → cond {A = ℕ} s 0 0 ≡ 0
    none true = refl
    none false = refl

module _ {A : Type 0} (r : Operations A) (legs : Legs) (k : ℕ) (t : ℤ) (are : AreDiagrams legs) (es : List (Shape × Row A)) where
  one_more : (i : ℕ) (a : Shape) (row : Row A) (s : Shape) (c : ℕ) → slice_get es i ≡ Some (a, row) → HasRow r (ways_at legs k t a) (known legs k t a) row → c < known legs k (t +ℤ pos 1) s →
      with_slice legs k t (k - row.least) a (shares legs k t (take i es)) s c ≡ shares legs k t (take (i + 1) es) s c
  unfolding with_slice shares
  one_more i a row s c e has l =
      let at = got es i (a, row) e in
      let split : sum_of (λ e. share legs k t s e.0 c) (take (i + 1) es) ≡ sum_of (λ e. share legs k t s e.0 c) (take i es) + share legs k t s a c =
      ap (sum_of (λ e. share legs k t s e.0 c)) (take-next es i (a, row) at.0 at.1) ∙ (sum_of-append {A = Shape × Row A} (λ e. share legs k t s e.0 c) (take i es) ((a, row) ∷ []) ∙ ap (λ v. sum_of (λ e. share legs k t s e.0 c) (take i es) + v) (sum_of-one {A = Shape × Row A} (λ e. share legs k t s e.0 c) (a, row))) in
      ap (λ v. sum_of (λ e. share legs k t s e.0 c) (take i es) + v) (pushed-share r legs k t a s row c are has l) ∙ sym split

  pub shares-start : (rows : List (Shape × Row A)) → rows ≡ [] → IsTable r legs k (t +ℤ pos 1) (shares legs k t (take 0 es)) rows
  unfolding shares
  shares-start rows e = subst (IsTable r legs k (t +ℤ pos 1) (λ s c. 0)) (sym e) (record { each = λ s c l. refl; suits = tt })

  pub shares-next : (i : ℕ) (a : Shape) (row : Row A) (rows : List (Shape × Row A)) → slice_get es i ≡ Some (a, row) → HasRow r (ways_at legs k t a) (known legs k t a) row →
      IsTable r legs k (t +ℤ pos 1) (with_slice legs k t (k - row.least) a (shares legs k t (take i es))) rows → IsTable r legs k (t +ℤ pos 1) (shares legs k t (take (i + 1) es)) rows
  shares-next i a row rows e has table =
      table-same r legs k (t +ℤ pos 1) (with_slice legs k t (k - row.least) a (shares legs k t (take i es))) (shares legs k t (take (i + 1) es)) rows (λ s c l. one_more i a row s c e has l) table

  module _ (table : IsTable r legs k t (ways_to legs k t) es) where
    pub row-of : (a : Shape) (row : Row A) → lookup (same_shape a) es ≡ Some row → fits legs t a ≡ true → HasRow r (ways_at legs k t a) (known legs k t a) row
    row-of a row e f =
        let has : HasRow r (ways_to legs k t a) (known legs k t a) row = subst (λ o. MatchOption o ((c : ℕ) → c < known legs k t a → ways_to legs k t a c ≡ 0) (HasRow r (ways_to legs k t a) (known legs k t a))) e (table.each a) in
        row-same r (ways_to legs k t a) (ways_at legs k t a) (known legs k t a) row (λ c l. ap (λ q. cond q (ways_at legs k t a c) 0) f) has

    pub suits-of : (i : ℕ) (a : Shape) (row : Row A) → slice_get es i ≡ Some (a, row) → fits legs t a ≡ true
    suits-of i a row e = by es i e table.suits
      where
        by : (es : List (Shape × Row A)) (i : ℕ) → slice_get es i ≡ Some (a, row) → AllByRecursion (λ e. (fits legs t e.0 ≡ true) × (extras_of legs t e.0 ≤ k)) es → fits legs t a ≡ true
        by [] i e all = absurd (let f : None ≡ Some (a, row) = e in cc)
        by (f ∷ es) zero e all = let one : f ≡ (a, row) = let g : Some f ≡ Some (a, row) = e in cc in subst (λ x. fits legs t x.0 ≡ true) one all.0.0
        by (f ∷ es) (suc i) e all = by es i e all.1

    once-listed : AllByRecursion (λ e. often e.0 (fitting legs t k) ≡ 1) es
    once-listed = by es table.suits
      where
        by : (es : List (Shape × Row A)) → AllByRecursion (λ e. (fits legs t e.0 ≡ true) × (extras_of legs t e.0 ≤ k)) es → AllByRecursion (λ e. often e.0 (fitting legs t k) ≡ 1) es
        by [] all = tt
        by (e ∷ es) all = (once-all legs t k e.0 are ∙ rw (all.0.0, le-leb (extras_of legs t e.0) k all.0.1) refl, by es all.1)

    -- a slice without a row has no share in what is kept
    none-share : (s a : Shape) (c : ℕ) → c < known legs k (t +ℤ pos 1) s → fits legs t a ≡ true → lookup (same_shape a) es ≡ None → share legs k t s a c ≡ 0
    unfolding share
    none-share s a c l fa e = by_fit (fits legs (t +ℤ pos 1) s) refl
      where
        u : ℤ
        u = t +ℤ pos 1

        x : ℕ
        x = extras_of legs u s

        none : (c : ℕ) → c < known legs k t a → ways_at legs k t a c ≡ 0
        none c m = sym (ap (λ q. cond q (ways_at legs k t a c) 0) fa) ∙ subst (λ o. MatchOption o ((c : ℕ) → c < known legs k t a → ways_to legs k t a c ≡ 0) (HasRow r (ways_to legs k t a) (known legs k t a))) e (table.each a) c m

        kept : (p q x : ℕ) → p ≤ x + q → c < suc k - q → x ≤ c → c - x < suc k - p
        kept p q x g m h = omega arith

        by_cost : fits legs u s ≡ true → interlaces t a s ≡ true → cond (nat_le x c) (ways_at legs k t a (c - x)) 0 ≡ 0
        by_cost f i = elim (cases_lt c x) [
          | inl less ↦ rw (lt-leb x c less) refl
          | inr more ↦ rw (le-leb x c more) (none (c - x) (kept (completion legs t a) (completion legs u s) x (completion-step legs t a s are f i) l more))
        ]

        by_beside : (i : Bool) → interlaces t a s ≡ i → fits legs u s ≡ true → cond i (cond (nat_le x c) (ways_at legs k t a (c - x)) 0) 0 ≡ 0
        by_beside true ei f = by_cost f ei
        by_beside false ei f = refl

        by_fit : (p : Bool) → fits legs u s ≡ p → cond p (cond (interlaces t a s) (cond (nat_le x c) (ways_at legs k t a (c - x)) 0) 0) 0 ≡ 0
        by_fit true e = by_beside (interlaces t a s) refl e
        by_fit false e = refl

    -- all that fit have the ways one diagonal above as their shares
    ways-shared : (s : Shape) (c : ℕ) → neg_ℤ (pos (k + extent legs)) ≤ℤ t → sum_of (λ a. share legs k t s a c) (fitting legs t k) ≡ ways_to legs k (t +ℤ pos 1) s c
    unfolding share
    ways-shared s c low = by_fit (fits legs (t +ℤ pos 1) s)
      where
        u : ℤ
        u = t +ℤ pos 1

        x : ℕ
        x = extras_of legs u s

        by_fit : (p : Bool) → sum_of (λ a. cond p (cond (interlaces t a s) (cond (nat_le x c) (ways_at legs k t a (c - x)) 0) 0) 0) (fitting legs t k) ≡ cond p (ways_at legs k u s c) 0
        by_fit true = only_if (nat_le x c) (λ a. interlaces t a s) (λ a. ways_at legs k t a (c - x)) (fitting legs t k) ∙ ways-next legs k t s c low
        by_fit false = sum_of-zero (λ (a : Shape). 0) (λ a. refl) (fitting legs t k)

    pub shares-all : (s : Shape) (c : ℕ) → IsDistinct same_shape (keys_of es) → neg_ℤ (pos (k + extent legs)) ≤ℤ t → c < known legs k (t +ℤ pos 1) s → shares legs k t es s c ≡ ways_to legs k (t +ℤ pos 1) s c
    unfolding shares
    shares-all s c distinct low l =
        let F : Shape → ℕ = λ a. share legs k t s a c in
        let sums = same-sum F (fitting legs t k) es once-listed distinct in
        let none = sum_of-all (λ a. fits legs t a ≡ true) (λ a. cond (is_some (lookup (same_shape a) es)) 0 (F a)) (λ a. 0) (λ a f. by_row a f (lookup (same_shape a) es) refl) (fitting legs t k) (fitting-fits legs t k are) ∙ sum_of-zero (λ (a : Shape). 0) (λ a. refl) (fitting legs t k) in
        rest _ _ _ sums none ∙ ways-shared s c low
      where
        rest : (w m n : ℕ) → w ≡ m + n → n ≡ 0 → m ≡ w
        rest w m n e f = omega arith

        by_row : (a : Shape) → fits legs t a ≡ true → (o : Option (Row A)) → lookup (same_shape a) es ≡ o → cond (is_some o) 0 (share legs k t s a c) ≡ 0
        by_row a f None e = none-share s a c l f e
        by_row a f (Some row) e = refl

    pub next-table : (rows : List (Shape × Row A)) (i : ℕ) → length es ≤ i → IsDistinct same_shape (keys_of es) → neg_ℤ (pos (k + extent legs)) ≤ℤ t →
        IsTable r legs k (t +ℤ pos 1) (shares legs k t (take i es)) rows → IsTable r legs k (t +ℤ pos 1) (ways_to legs k (t +ℤ pos 1)) rows
    next-table rows i far distinct low done =
        table-same r legs k (t +ℤ pos 1) (shares legs k t (take i es)) (ways_to legs k (t +ℤ pos 1)) rows (λ s c l. ap (λ cs. shares legs k t cs s c) (take-whole es i far) ∙ shares-all s c distinct low l) done

    -- what is too great on the way is so in a number of sets of extras
    pub next-wide : (i : ℕ) (a : Shape) (row : Row A) → slice_get es i ≡ Some (a, row) → HasRow r (ways_at legs k t a) (known legs k t a) row → IsDistinct same_shape (keys_of es) →
        neg_ℤ (pos (k + extent legs)) ≤ℤ t → t <ℤ pos (k + extent legs) → IsTooMany r legs k (t +ℤ pos 1) (with_slice legs k t (k - row.least) a (shares legs k t (take i es))) →
        (n : ℕ) × (n ≤ k) × (limit < count legs n * r.size r.unit)
    unfolding shares
    next-wide i a row e has distinct low high wide =
        let u = t +ℤ pos 1 in let s = wide.slice in let c = wide.cost in
        let all = shares-all s c distinct low wide.kept ∙ ap (λ q. cond q (ways_at legs k u s c) 0) wide.suits in
        let part : shares legs k t (take (i + 1) es) s c ≤ ways_at legs k u s c = subst (λ v. shares legs k t (take (i + 1) es) s c ≤ v) all (sum-take {X = Shape × Row A} (λ e. share legs k t s e.0 c) es (i + 1)) in
        let grown = more-wide (shares legs k t (take (i + 1) es) s c) (ways_at legs k u s c) (r.size r.unit) part (subst (λ v. limit < v * r.size r.unit) (one_more i a row s c e has wide.kept) wide.beyond) in
        let within = inside (completion legs u s) c wide.kept in
        let entry = entry_of (ways_at legs k u s c) (c + completion legs u s) wide.suits within grown in
        let most = entries-are-bounded legs k u s c are (up_low (k + extent legs) low) (up_high (k + extent legs) high) entry in
        (c + completion legs u s, within, more-wide (ways_at legs k u s c) (count legs (c + completion legs u s)) (r.size r.unit) (subst (λ v. ways_at legs k u s c ≤ v) (paths-are-counted legs k (c + completion legs u s) are within) most) grown)
      where
        inside : (p c : ℕ) → c < suc k - p → c + p ≤ k
        inside p c l = omega arith

        up_low : (n : ℕ) → neg_ℤ (pos n) ≤ℤ t → neg_ℤ (pos n) ≤ℤ (t +ℤ pos 1)
        up_low n l = omega (arith, ints)

        up_high : (n : ℕ) → t <ℤ pos n → (t +ℤ pos 1) ≤ℤ pos n
        up_high n l = omega (arith, ints)

        some : (w : ℕ) → limit < w * r.size r.unit → 0 < w
        some zero l = let none : 0 * r.size r.unit ≡ 0 = omega arith in absurd (omega arith)
        some (suc w) l = omega arith

        entry_of : (w p : ℕ) → fits legs (t +ℤ pos 1) wide.slice ≡ true → p ≤ k → limit < w * r.size r.unit → (fits legs (t +ℤ pos 1) wide.slice && (nat_le p k && nat_lt 0 w)) ≡ true
        entry_of w p f l m = rw (f, le-leb p k l, lt-ltb 0 w (some w m)) refl
