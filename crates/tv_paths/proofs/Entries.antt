-- The entries of a diagonal are what the rows of its table tell.
use Rattle.std.proofs.Common.{◌≡◌, ℕ, zero, suc, ◌+◌, ◌-◌, ◌<◌, ◌≤◌, ℤ, Bool, true, false, cond, ◌&&◌, ◌||◌, nat_lt, nat_le, List, [], ◌∷◌, ◌++◌, map, length, take, get_or, Option, Some, None, arith, refl, sym, ◌∙◌, ap, subst, append_assoc, append-nil}
use Rattle.std.specs.Prelude.{filter, slice_get, MatchOption}
use Rattle.std.specs.List.{flat_map, range_with_len}
use Rattle.std.specs.Map.{lookup, keys_of}
use Rattle.std.proofs.lemmas.Bool.{le-leb, lt-leb}
use Rattle.std.proofs.lemmas.List.Concat.{flat_map-append}
use Rattle.tv_lemmas.proofs.Lists.{flat_map-filter, flat_map-same, flat_map-none}
use Rattle.tv_ring.specs.Operations.{Operations}
use Rattle.tv_ring.specs.Sums.{at, times}
use Rattle.tv_cells.specs.declared.legs.Legs.{Legs}
use Rattle.tv_cells.specs.Cells.{below}
use Rattle.tv_spec_slices.specs.Slices.{Shape, fits, completion, same_shape}
use Rattle.tv_spec_slices.specs.Paths.{fitting, ways_at, is_entry}
use Rattle.tv_slices.specs.declared.row.Row.{Row}
use Rattle.tv_slices.specs.Rows.{is_reached}
use Rattle.tv_slices.specs.Tables.{known, ways_to, HasRow, IsTable}
use Rattle.tv_slices.proofs.Numbers.{numbers-at, marks-at}
use Rattle.tv_slices.proofs.Neighbours.{take-next, take-whole}
use Rattle.tv_paths.specs.declared.counts.PathCount.{PathCount}
use Rattle.tv_paths.specs.Among.{is_among}
use Rattle.tv_paths.specs.Counts.{path_count, path_counts, row_count, row_counts, found_counts}

-- ---- costs one after another

next-cost : {A : Type 0} (F : ℕ → List A) (a n : ℕ) → flat_map F (range_with_len a (suc n)) ≡ flat_map F (range_with_len a n) ++ F (a + n)
next-cost F a zero = let z : a ≡ a + 0 = omega arith in append-nil (F a) ∙ ap F z
next-cost F a (suc n) =
    let s : (a + 1) + n ≡ a + suc n = omega arith in
    ap (λ ss. F a ++ ss) (next-cost F (a + 1) n) ∙ (sym (append_assoc (F a) (flat_map F (range_with_len (a + 1) n)) (F ((a + 1) + n))) ∙ ap (λ i. (F a ++ flat_map F (range_with_len (a + 1) n)) ++ F i) s)

below-next : {A : Type 0} (F : ℕ → List A) (n : ℕ) → flat_map F (below (suc n)) ≡ flat_map F (below n) ++ F n
below-next F n = let z : 0 + n ≡ n = omega arith in next-cost F 0 n ∙ ap (λ i. flat_map F (below n) ++ F i) z

pub costs-same : {A : Type 0} (F G : ℕ → List A) (a n : ℕ) → ((c : ℕ) → c < a + n → F c ≡ G c) → flat_map F (range_with_len a n) ≡ flat_map G (range_with_len a n)
costs-same F G a zero same = refl
costs-same F G a (suc n) same = ap (λ xs. xs ++ flat_map F (range_with_len (a + 1) n)) (same a (omega arith)) ∙ ap (λ ss. G a ++ ss) (costs-same F G (a + 1) n (λ c l. same c (omega arith)))

costs-cut : {A : Type 0} (F : ℕ → List A) (n j : ℕ) → ((c : ℕ) → n ≤ c → c < n + j → F c ≡ []) → flat_map F (below (n + j)) ≡ flat_map F (below n)
costs-cut F n zero none = let z : n + 0 ≡ n = omega arith in ap (λ i. flat_map F (below i)) z
costs-cut F n (suc j) none =
    let s : n + suc j ≡ suc (n + j) = omega arith in
    ap (λ i. flat_map F (below i)) s ∙ (below-next F (n + j) ∙ (ap (λ xs. flat_map F (below (n + j)) ++ xs) (none (n + j) (omega arith) (omega arith)) ∙ (append-nil (flat_map F (below (n + j))) ∙ costs-cut F n j (λ c low high. none c low (omega arith)))))

-- ---- one slice

unfoldable pub counts_of : {A : Type 0} → Operations A → Legs → ℕ → ℤ → Shape → List (PathCount A)
counts_of r legs k t s = map (path_count r legs k t) (map (λ c. (s, c)) (filter (is_entry legs k t s) (below (suc k))))

pub mapped : {A B : Type 0} (f : A → B) (p : ℕ → Bool) (g : ℕ → A) (cs : List ℕ) → map f (map g (filter p cs)) ≡ flat_map (λ c. cond (p c) (f (g c) ∷ []) []) cs
mapped f p g [] = refl
mapped f p g (c ∷ cs) = step (p c) (mapped f p g cs)
  where
    step : (b : Bool) → map f (map g (filter p cs)) ≡ flat_map (λ c. cond (p c) (f (g c) ∷ []) []) cs → map f (map g (cond b (c ∷ filter p cs) (filter p cs))) ≡ cond b (f (g c) ∷ []) [] ++ flat_map (λ c. cond (p c) (f (g c) ∷ []) []) cs
    step true e = ap (λ ss. f (g c) ∷ ss) e
    step false e = e

module _ {A : Type 0} (r : Operations A) (legs : Legs) (k : ℕ) (t : ℤ) (s : Shape) where
  abbrev entry_at : ℕ → List (PathCount A)
  entry_at c = cond (is_entry legs k t s c) (path_count r legs k t (s, c) ∷ []) []

  abbrev pair : ℕ → A → PathCount A
  pair c x = record { slice = s; cost = c; count = x }

  cut_off : flat_map entry_at (below (suc k)) ≡ flat_map entry_at (below (known legs k t s))
  cut_off = whole (known legs k t s) (completion legs t s) (suc k - known legs k t s) refl refl
    where
      far : (c p n : ℕ) → n ≡ suc k - p → n ≤ c → k < c + p
      far c p n e l = omega arith

      none : (c : ℕ) → suc k - completion legs t s ≤ c → entry_at c ≡ []
      none c l = off (fits legs t s) (nat_le (c + completion legs t s) k) (lt-leb (c + completion legs t s) k (far c (completion legs t s) _ refl l))
        where
          off : (p q : Bool) → q ≡ false → cond (p && (q && nat_lt 0 (ways_at legs k t s c))) (path_count r legs k t (s, c) ∷ []) [] ≡ []
          off true q e = rw e refl
          off false q e = refl

      whole : (n p j : ℕ) → n ≡ suc k - completion legs t s → j ≡ suc k - n → flat_map entry_at (below (suc k)) ≡ flat_map entry_at (below n)
      whole n p j en ej =
          let all : suc k ≡ n + j = omega arith in
          ap (λ i. flat_map entry_at (below i)) all ∙ costs-cut entry_at n j (λ c low high. none c (rw (← en) low))

  kept-cost : (c : ℕ) → c < known legs k t s → nat_le (c + completion legs t s) k ≡ true
  kept-cost c l = le-leb (c + completion legs t s) k (within c (completion legs t s) l)
    where
      within : (c p : ℕ) → c < suc k - p → c + p ≤ k
      within c p l = omega arith

  pub row-is : (row : Row A) → HasRow r (ways_to legs k t s) (known legs k t s) row → row_counts r s row (known legs k t s) ≡ counts_of r legs k t s
  unfolding row_counts row_count counts_of
  row-is row has = costs-same (row_count r s row) entry_at 0 (known legs k t s) each ∙ (sym cut_off ∙ sym (mapped (path_count r legs k t) (is_entry legs k t s) (λ c. (s, c)) (below (suc k))))
    where
      by : (c w : ℕ) (p q : Bool) → q ≡ true → cond (nat_lt 0 (cond p w 0)) (pair c (times r (cond p w 0)) ∷ []) [] ≡ cond (p && (q && nat_lt 0 w)) (pair c (times r w) ∷ []) []
      by c w true q e = rw e refl
      by c w false q e = refl

      each : (c : ℕ) → c < 0 + known legs k t s → row_count r s row c ≡ entry_at c
      each c l =
          let l' : c < known legs k t s = omega (arith, l) in
          ap (λ b. cond b (pair c (at r row.counts.items c) ∷ []) []) (marks-at (ways_to legs k t s) (known legs k t s) row.reached.items c has.reached l')
          ∙ (ap (λ x. cond (nat_lt 0 (ways_to legs k t s c)) (pair c x ∷ []) []) (numbers-at r (ways_to legs k t s) (known legs k t s) row.counts.items c has.counts l')
          ∙ by c (ways_at legs k t s c) (fits legs t s) (nat_le (c + completion legs t s) k) (kept-cost c l'))

  pub none-is : ((c : ℕ) → c < known legs k t s → ways_to legs k t s c ≡ 0) → [] ≡ counts_of r legs k t s
  unfolding counts_of
  none-is none = sym (mapped (path_count r legs k t) (is_entry legs k t s) (λ c. (s, c)) (below (suc k)) ∙ (cut_off ∙ (costs-same entry_at (λ c. []) 0 (known legs k t s) each ∙ flat_map-none (below (known legs k t s)))))
    where
      by : (c w : ℕ) (p q : Bool) → cond p w 0 ≡ 0 → cond (p && (q && nat_lt 0 w)) (pair c (times r w) ∷ []) [] ≡ []
      by c w true true e = rw e refl
      by c w true false e = refl
      by c w false q e = refl

      each : (c : ℕ) → c < 0 + known legs k t s → entry_at c ≡ []
      each c l = by c (ways_at legs k t s c) (fits legs t s) (nat_le (c + completion legs t s) k) (none c (omega (arith, l)))

  pub found-is : (o : Option (Row A)) → MatchOption o ((c : ℕ) → c < known legs k t s → ways_to legs k t s c ≡ 0) (HasRow r (ways_to legs k t s) (known legs k t s)) → found_counts r s o (known legs k t s) ≡ counts_of r legs k t s
  found-is None none = none-is none
  found-is (Some row) has = row-is row has

pub count-on : {A : Type 0} (r : Operations A) (s copy : Shape) (row : Row A) (c : ℕ) (count : A) (now before : List (PathCount A)) → is_reached row.reached.items c ≡ true → copy ≡ s → count ≡ at r row.counts.items c →
    now ≡ before ++ record { slice = copy; cost = c; count = count } ∷ [] → now ≡ before ++ row_count r s row c
unfolding row_count
count-on r s copy row c count now before on es ec push = push ∙ rw (es, ec, on) refl

pub count-off : {A : Type 0} (r : Operations A) (s : Shape) (row : Row A) (c : ℕ) (before : List (PathCount A)) → is_reached row.reached.items c ≡ false → before ≡ before ++ row_count r s row c
unfolding row_count
count-off r s row c before off = rw off (sym (append-nil before))

pub row-next : {A : Type 0} (r : Operations A) (s : Shape) (row : Row A) (c : ℕ) (now before first : List (PathCount A)) → now ≡ before ++ row_count r s row c → before ≡ first ++ row_counts r s row c → now ≡ first ++ row_counts r s row (c + 1)
unfolding row_counts
row-next r s row c now before first push e =
    let up : c + 1 ≡ suc c = omega arith in
    push ∙ (ap (λ ss. ss ++ row_count r s row c) e ∙ (append_assoc first (flat_map (row_count r s row) (below c)) (row_count r s row c)
    ∙ ap (λ ss. first ++ ss) (sym (ap (λ i. flat_map (row_count r s row) (below i)) up ∙ below-next (row_count r s row) c))))

pub row-start : {A : Type 0} (r : Operations A) (s : Shape) (row : Row A) (first : List (PathCount A)) → first ≡ first ++ row_counts r s row 0
unfolding row_counts
row-start r s row first = sym (append-nil first)

-- ---- all slices

pub map-joined : {B C : Type 0} (f : B → C) (ys zs : List B) → map f (ys ++ zs) ≡ map f ys ++ map f zs
map-joined f [] zs = refl
map-joined f (y ∷ ys) zs = ap (λ ss. f y ∷ ss) (map-joined f ys zs)

pub map-flat_map : {A B C : Type 0} (f : B → C) (g : A → List B) (xs : List A) → map f (flat_map g xs) ≡ flat_map (λ x. map f (g x)) xs
map-flat_map f g [] = refl
map-flat_map f g (x ∷ xs) = map-joined f (g x) (flat_map g xs) ∙ ap (λ ss. map f (g x) ++ ss) (map-flat_map f g xs)

not-among : {A : Type 0} (s : Shape) (rows : List (Shape × A)) → is_among (keys_of rows) s ≡ false → lookup (same_shape s) rows ≡ None
not-among s [] off = refl
not-among {A} s (e ∷ rows) off = by (same_shape s e.0) off (not-among s rows)
  where
    by : (b : Bool) → (b || is_among (keys_of rows) s) ≡ false → (is_among (keys_of rows) s ≡ false → lookup (same_shape s) rows ≡ None) → cond b (Some e.1) (lookup (same_shape s) rows) ≡ None
    by true off rest = absurd (let f : true ≡ false = off in cc)
    by false off rest = rest off

-- the counts of the first slices that are listed
pub UpTo : {A : Type 0} → Operations A → Legs → ℕ → ℤ → List Shape → ℕ → List (PathCount A)
UpTo r legs k t slices i = flat_map (counts_of r legs k t) (take i slices)

module _ {A : Type 0} (r : Operations A) (legs : Legs) (k : ℕ) (t : ℤ) (rows : List (Shape × Row A)) (table : IsTable r legs k t (ways_to legs k t) rows) where
  pub slices-none : (slices : List Shape) (now : List (PathCount A)) → now ≡ [] → now ≡ UpTo r legs k t slices 0
  unfolding UpTo
  slices-none slices now e = e

  pub slices-more : (slices : List Shape) (i : ℕ) (s : Shape) (n : ℕ) (o : Option (Row A)) (now before : List (PathCount A)) → i < length slices → s ≡ get_or slices i s → o ≡ lookup (same_shape s) rows → n ≡ known legs k t s →
      now ≡ before ++ found_counts r s o n → before ≡ UpTo r legs k t slices i → now ≡ UpTo r legs k t slices (i + 1)
  unfolding UpTo
  slices-more slices i s n o now before l read found len push e =
      push ∙ (ap (λ ss. ss ++ found_counts r s o n) e ∙ (ap (λ ss. flat_map (counts_of r legs k t) (take i slices) ++ ss) (ap (λ q. found_counts r s q n) found ∙ (ap (found_counts r s (lookup (same_shape s) rows)) len ∙ (found-is r legs k t s (lookup (same_shape s) rows) (table.each s) ∙ sym (append-nil (counts_of r legs k t s)))))
      ∙ (sym (flat_map-append (counts_of r legs k t) (take i slices) (s ∷ [])) ∙ ap (flat_map (counts_of r legs k t)) (sym (take-next slices i s l read)))))

  pub slices-all : (slices keys : List Shape) (i : ℕ) (now : List (PathCount A)) → length slices ≤ i → keys ≡ keys_of rows → slices ≡ filter (is_among keys) (fitting legs t k) → now ≡ UpTo r legs k t slices i → now ≡ path_counts r legs k t
  unfolding UpTo path_counts counts_of
  slices-all slices keys i now l ek es e =
      e ∙ (ap (flat_map (counts_of r legs k t)) (take-whole slices i l ∙ (es ∙ ap (λ ks. filter (is_among ks) (fitting legs t k)) ek))
      ∙ (flat_map-filter (is_among (keys_of rows)) (counts_of r legs k t) (fitting legs t k)
      ∙ (flat_map-same (λ s. cond (is_among (keys_of rows) s) (counts_of r legs k t s) []) (counts_of r legs k t) (λ s. each s (is_among (keys_of rows) s) refl) (fitting legs t k)
      ∙ sym (map-flat_map (path_count r legs k t) (λ s. map (λ c. (s, c)) (filter (is_entry legs k t s) (below (suc k)))) (fitting legs t k)))))
    where
      each : (s : Shape) (b : Bool) → is_among (keys_of rows) s ≡ b → cond b (counts_of r legs k t s) [] ≡ counts_of r legs k t s
      each s true on = refl
      each s false off = none-is r legs k t s (subst (λ o. MatchOption o ((c : ℕ) → c < known legs k t s → ways_to legs k t s c ≡ 0) (HasRow r (ways_to legs k t s) (known legs k t s))) (not-among s rows off) (table.each s))

pub keys-next : {A : Type 0} (rows : List (Shape × A)) (i : ℕ) (s : Shape) (v : A) (copy : Shape) (now before : List Shape) → slice_get rows i ≡ Some (s, v) → copy ≡ s → now ≡ before ++ copy ∷ [] → before ≡ take i (keys_of rows) → now ≡ take (i + 1) (keys_of rows)
keys-next {A} rows i s v copy now before read is push e = push ∙ (ap (λ ss. ss ++ copy ∷ []) e ∙ (ap (λ x. take i (keys_of rows) ++ x ∷ []) is ∙ sym (onto rows i read)))
  where
    onto : (rows : List (Shape × A)) (i : ℕ) → slice_get rows i ≡ Some (s, v) → take (i + 1) (keys_of rows) ≡ take i (keys_of rows) ++ s ∷ []
    onto [] i at = absurd (let e : None ≡ Some (s, v) = at in cc)
    onto (e ∷ rows) zero at = let one : e ≡ (s, v) = let both : Some e ≡ Some (s, v) = at in cc in ap (λ p. p.0 ∷ []) one
    onto (e ∷ rows) (suc i) at = let more : suc i + 1 ≡ suc (i + 1) = omega arith in ap (λ n. take n (keys_of (e ∷ rows))) more ∙ ap (λ ss. e.0 ∷ ss) (onto rows i at)
