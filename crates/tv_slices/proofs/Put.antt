-- What is put into a table.
use Rattle.std.proofs.Common.{◌≡◌, ℕ, ◌+◌, ◌-◌, ◌^◌, ◌<◌, ◌≤◌, min, ℤ, Bool, true, false, List, [], ◌∷◌, length, Option, Some, None, refl, sym, ◌∙◌, ap, subst, arith, inl, inr}
use Rattle.std.specs.Prelude.{cond, ◌&&◌, nat_lt, nat_le, MatchOption}
use Rattle.std.specs.List.{AllByRecursion}
use Rattle.std.specs.Map.{lookup}
use Rattle.std.proofs.lemmas.Bool.{cases_lt, lt-leb, le-leb}
use Rattle.indexmap.specs.IndexMap.{insert_entry}
use Rattle.tv_ring.specs.Operations.{Operations, RingLaws, SizeLaws, limit}
use Rattle.tv_ring.specs.Sums.{at, times}
use Rattle.tv_cells.specs.declared.legs.Legs.{Legs}
use Rattle.tv_spec_slices.specs.Slices.{Shape, fits, extras_of, same_shape}
use Rattle.tv_laws_slices.proofs.Pushed.{same-shape, own-shape}
use Rattle.tv_slices.specs.declared.row.Row.{Row}
use Rattle.tv_slices.specs.Rows.{shifted, is_reached}
use Rattle.tv_slices.specs.Tables.{known, HasRow, IsTable, Pushes, with_one, IsTooMany}
use Rattle.tv_slices.specs.Joined.{counts_of, reached_of, IsJoined}
use Rattle.tv_slices.proofs.Numbers.{numbers-same, numbers-at, length-numbers, nothing-at, shifted-at, sums-numbers, sum-wide, marks-same, marks-at, marks-shifted, marks-either}

pub row-same : {A : Type 0} (r : Operations A) (f g : ℕ → ℕ) (n : ℕ) (row : Row A) → ((c : ℕ) → c < n → f c ≡ g c) → HasRow r f n row → HasRow r g n row
row-same r f g n row each has = record { counts = has.counts ∙ numbers-same r f g n each; reached = has.reached ∙ marks-same f g n each; least = λ c l m. sym (each c l) ∙ has.least c l m }

-- how many costs are kept, read off a row
pub kept-as-known : {A : Type 0} (r : Operations A) (f : ℕ → ℕ) (n len : ℕ) (o : Option (Row A)) → n < 2 ^ 30 → MatchOption o ((c : ℕ) → c < n → f c ≡ 0) (HasRow r f n) →
    MatchOption o (len ≡ n) (λ old. len ≡ min (length old.counts.items) (2 ^ 32 - 1)) → len ≡ n
kept-as-known r f n len None small row is = is
kept-as-known r f n len (Some old) small row is = let long : length old.counts.items ≡ n = ap length row.counts ∙ length-numbers r f n in omega arith

module _ {A : Type 0} (r : Operations A) (legs : Legs) (k : ℕ) (t : ℤ) where
  -- one slice of a table
  RowAt : (Shape → ℕ → ℕ) → Shape → Option (Row A) → Type 0
  RowAt f s o = MatchOption o ((c : ℕ) → c < known legs k t s → f s c ≡ 0) (HasRow r (f s) (known legs k t s))

  -- how many costs of a slice are kept, as it is read off its row
  abbrev pub Kept : Shape → ℕ → Option (Row A) → Type 0
  Kept s len o = MatchOption o (len ≡ known legs k t s) (λ old. len ≡ min (length old.counts.items) (2 ^ 32 - 1))

  pub kept-of : (f : Shape → ℕ → ℕ) (s : Shape) (len : ℕ) (o : Option (Row A)) → k < 2 ^ 29 → MatchOption o ((c : ℕ) → c < known legs k t s → f s c ≡ 0) (HasRow r (f s) (known legs k t s)) → Kept s len o → len ≡ known legs k t s
  kept-of f s len o few row is = let small : known legs k t s < 2 ^ 30 = omega arith in kept-as-known r (f s) (known legs k t s) len o small row is

  at-same : (f g : Shape → ℕ → ℕ) (s : Shape) (o : Option (Row A)) → ((c : ℕ) → c < known legs k t s → f s c ≡ g s c) → RowAt f s o → RowAt g s o
  unfolding RowAt
  at-same f g s None each row = λ c l. sym (each c l) ∙ row c l
  at-same f g s (Some v) each row = row-same r (f s) (g s) (known legs k t s) v each row

  pub table-same : (f g : Shape → ℕ → ℕ) (rows : List (Shape × Row A)) → ((s : Shape) (c : ℕ) → c < known legs k t s → f s c ≡ g s c) → IsTable r legs k t f rows → IsTable r legs k t g rows
  unfolding RowAt
  table-same f g rows each table = record { each = λ s. at-same f g s (lookup (same_shape s) rows) (each s) (table.each s); suits = table.suits }

  others : (f : ℕ → ℕ) (b s : Shape) (g : Shape → ℕ → ℕ) (c : ℕ) → same_shape b s ≡ false → g s c ≡ with_one legs t f b g s c
  unfolding with_one
  others f b s g c off = rw off (omega arith)

  own : (f : ℕ → ℕ) (b : Shape) (g : Shape → ℕ → ℕ) (c : ℕ) → with_one legs t f b g b c ≡ g b c + cond (nat_le (extras_of legs t b) c) (f (c - extras_of legs t b)) 0
  unfolding with_one
  own f b g c = rw (own-shape b) refl

  all-put : (rows : List (Shape × Row A)) (b : Shape) (row : Row A) → fits legs t b ≡ true → extras_of legs t b ≤ k → AllByRecursion (λ e. (fits legs t e.0 ≡ true) × (extras_of legs t e.0 ≤ k)) rows →
      AllByRecursion (λ e. (fits legs t e.0 ≡ true) × (extras_of legs t e.0 ≤ k)) (insert_entry same_shape rows b row)
  all-put [] b row f l all = ((f, l), tt)
  all-put (e ∷ rows) b row f l all = by_test (same_shape b e.0) (all-put rows b row f l all.1)
    where
      by_test : (q : Bool) → AllByRecursion (λ e. (fits legs t e.0 ≡ true) × (extras_of legs t e.0 ≤ k)) (insert_entry same_shape rows b row) → AllByRecursion (λ e. (fits legs t e.0 ≡ true) × (extras_of legs t e.0 ≤ k)) (cond q ((e.0, row) ∷ rows) (e ∷ insert_entry same_shape rows b row))
      by_test true rest = all
      by_test false rest = (all.0, rest)

  pub table-put : (rows new : List (Shape × Row A)) (b : Shape) (row : Row A) (f : ℕ → ℕ) (g : Shape → ℕ → ℕ) → fits legs t b ≡ true → extras_of legs t b ≤ k →
      ((q : Shape) → lookup (same_shape q) new ≡ cond (same_shape b q) (Some row) (lookup (same_shape q) rows)) → new ≡ insert_entry same_shape rows b row → HasRow r (with_one legs t f b g b) (known legs k t b) row →
      IsTable r legs k t g rows → IsTable r legs k t (with_one legs t f b g) new
  unfolding RowAt
  table-put rows new b row f g fit few put is has table = record {
    each = λ s. decided s (same_shape b s) refl;
    suits = subst (AllByRecursion (λ e. (fits legs t e.0 ≡ true) × (extras_of legs t e.0 ≤ k))) (sym is) (all-put rows b row fit few table.suits);
  }
    where
      here : (s : Shape) (q : Bool) → same_shape b s ≡ q → lookup (same_shape s) new ≡ cond q (Some row) (lookup (same_shape s) rows)
      here s q e = put s ∙ ap (λ d. cond d (Some row) (lookup (same_shape s) rows)) e

      decided : (s : Shape) (q : Bool) → same_shape b s ≡ q → RowAt (with_one legs t f b g) s (lookup (same_shape s) new)
      decided s true e =
          let one : b ≡ s = same-shape b s e in
          subst (RowAt (with_one legs t f b g) s) (sym (here s true e)) (subst (λ a. HasRow r (with_one legs t f b g a) (known legs k t a) row) one has)
      decided s false e = subst (RowAt (with_one legs t f b g) s) (sym (here s false e)) (at-same g (with_one legs t f b g) s (lookup (same_shape s) rows) (λ c l. others f b s g c e) (table.each s))

  -- nothing is pushed with a cost below the least one
  pub nothing : (b : Shape) (row : Row A) (f : ℕ → ℕ) (n : ℕ) → Pushes r legs k t f n row b → (c : ℕ) → c < known legs k t b → c < row.least + extras_of legs t b → cond (nat_le (extras_of legs t b) c) (f (c - extras_of legs t b)) 0 ≡ 0
  nothing b row f n p c l low = elim (cases_lt c (extras_of legs t b)) [
    | inl less ↦ rw (lt-leb (extras_of legs t b) c less) refl
    | inr more ↦ rw (le-leb (extras_of legs t b) c more) (p.has.least (c - extras_of legs t b) (below c (known legs k t b) (extras_of legs t b) n l p.long more) (low_by c row.least (extras_of legs t b) low more))
  ]
    where
      below : (c m x n : ℕ) → c < m → m ≤ n + x → x ≤ c → c - x < n
      below c m x n l h i = omega arith

      low_by : (c m x : ℕ) → c < m + x → x ≤ c → c - x < m
      low_by c m x l i = omega arith

  -- where the costs are too great nothing changes
  pub table-stays : (rows : List (Shape × Row A)) (b : Shape) (row : Row A) (f : ℕ → ℕ) (n : ℕ) (g : Shape → ℕ → ℕ) → Pushes r legs k t f n row b → known legs k t b ≤ row.least + extras_of legs t b →
      IsTable r legs k t g rows → IsTable r legs k t (with_one legs t f b g) rows
  table-stays rows b row f n g p far table = table-same g (with_one legs t f b g) rows (λ s c l. decided s c l (same_shape b s) refl) table
    where
      further : (c m n : ℕ) → c < m → m ≤ n → c < n
      further c m n l h = omega arith

      decided : (s : Shape) (c : ℕ) → c < known legs k t s → (q : Bool) → same_shape b s ≡ q → g s c ≡ with_one legs t f b g s c
      decided s c l true e =
          let one : b ≡ s = same-shape b s e in
          let at_b : c < known legs k t b → g b c ≡ with_one legs t f b g b c = λ m. sym (own f b g c ∙ (ap (λ v. g b c + v) (nothing b row f n p c m (further c (known legs k t b) (row.least + extras_of legs t b) m far)) ∙ omega arith)) in
          subst (λ a. c < known legs k t a → g a c ≡ with_one legs t f b g a c) one at_b l
      decided s c l false e = others f b s g c e

module _ {A : Type 0} {IsValue : A → Type 0} {r : Operations A} (laws : RingLaws IsValue r) (legs : Legs) (k : ℕ) (t : ℤ) (b : Shape) (row : Row A) (f : ℕ → ℕ) (n : ℕ) (g : Shape → ℕ → ℕ) (p : Pushes r legs k t f n row b) where
  first-at : (o : Option (Row A)) → MatchOption o ((c : ℕ) → c < known legs k t b → g b c ≡ 0) (HasRow r (g b) (known legs k t b)) → (e : ℕ) → e < known legs k t b → at r (counts_of o) e ≡ times r (g b e)
  first-at None none e l = nothing-at r e ∙ ap (times r) (sym (none e l))
  first-at (Some v) has e l = numbers-at r (g b) (known legs k t b) v.counts.items e has.counts l

  second-at : (e : ℕ) → e < known legs k t b → shifted r row.counts.items (extras_of legs t b) e ≡ times r (cond (nat_le (extras_of legs t b) e) (f (e - extras_of legs t b)) 0)
  second-at e l = shifted-at r f n row.counts.items (extras_of legs t b) e p.has.counts (within e (known legs k t b) l p.long)
    where
      within : (e m : ℕ) → e < m → m ≤ n + extras_of legs t b → e < n + extras_of legs t b
      within e m l h = omega arith

  first-marks : (o : Option (Row A)) → MatchOption o ((c : ℕ) → c < known legs k t b → g b c ≡ 0) (HasRow r (g b) (known legs k t b)) → (e : ℕ) → e < known legs k t b → is_reached (reached_of o) e ≡ nat_lt 0 (g b e)
  first-marks None none e l = sym (ap (nat_lt 0) (none e l))
  first-marks (Some v) has e l = marks-at (g b) (known legs k t b) v.reached.items e has.reached l

  second-marks : (e : ℕ) → e < known legs k t b → (nat_le (extras_of legs t b) e && is_reached row.reached.items (e - extras_of legs t b)) ≡ nat_lt 0 (cond (nat_le (extras_of legs t b) e) (f (e - extras_of legs t b)) 0)
  second-marks e l = marks-shifted f n row.reached.items (extras_of legs t b) e p.has.reached (within e (known legs k t b) l p.long)
    where
      within : (e m : ℕ) → e < m → m ≤ n + extras_of legs t b → e < n + extras_of legs t b
      within e m l h = omega arith

  pub joined-row : (o : Option (Row A)) (new : Row A) → MatchOption o ((c : ℕ) → c < known legs k t b → g b c ≡ 0) (HasRow r (g b) (known legs k t b)) → IsJoined r o row (extras_of legs t b) (known legs k t b) new →
      HasRow r (with_one legs t f b g b) (known legs k t b) new
  joined-row o new at_b joined = record {
    counts = joined.counts ∙ (sums-numbers laws (counts_of o) row.counts.items (extras_of legs t b) (known legs k t b) (g b) (λ e. cond (nat_le (extras_of legs t b) e) (f (e - extras_of legs t b)) 0) (first-at o at_b) second-at
        ∙ numbers-same r (λ c. g b c + cond (nat_le (extras_of legs t b) c) (f (c - extras_of legs t b)) 0) (with_one legs t f b g b) (known legs k t b) (λ c l. sym (own r legs k t f b g c)));
    reached = joined.reached ∙ (marks-either (reached_of o) row.reached.items (extras_of legs t b) (known legs k t b) (g b) (λ e. cond (nat_le (extras_of legs t b) e) (f (e - extras_of legs t b)) 0) (first-marks o at_b) second-marks
        ∙ marks-same (λ c. g b c + cond (nat_le (extras_of legs t b) c) (f (c - extras_of legs t b)) 0) (with_one legs t f b g b) (known legs k t b) (λ c l. sym (own r legs k t f b g c)));
    least = λ c l m. own r legs k t f b g c ∙ low o at_b joined.least c l m;
  }
    where
      both : (u v : ℕ) → u ≡ 0 → v ≡ 0 → u + v ≡ 0
      both u v eu ev = omega arith

      to : (c m n : ℕ) → c < m → m ≡ n → c < n
      to c m n l e = omega arith

      left_of : (c m x y : ℕ) → c < m → m ≡ min x y → c < x
      left_of c m x y l e = omega arith

      right_of : (c m x y : ℕ) → c < m → m ≡ min x y → c < y
      right_of c m x y l e = omega arith

      low : (o : Option (Row A)) → MatchOption o ((c : ℕ) → c < known legs k t b → g b c ≡ 0) (HasRow r (g b) (known legs k t b)) → MatchOption o (new.least ≡ row.least + extras_of legs t b) (λ v. new.least ≡ min v.least (row.least + extras_of legs t b)) →
          (c : ℕ) → c < known legs k t b → c < new.least → g b c + cond (nat_le (extras_of legs t b) c) (f (c - extras_of legs t b)) 0 ≡ 0
      low None none e c l m = both (g b c) _ (none c l) (nothing r legs k t b row f n p c l (to c new.least (row.least + extras_of legs t b) m e))
      low (Some v) has e c l m = both (g b c) _ (has.least c l (left_of c new.least v.least (row.least + extras_of legs t b) m e)) (nothing r legs k t b row f n p c l (right_of c new.least v.least (row.least + extras_of legs t b) m e))

  pub joined-wide : (o : Option (Row A)) (e : ℕ) → SizeLaws IsValue r → MatchOption o ((c : ℕ) → c < known legs k t b → g b c ≡ 0) (HasRow r (g b) (known legs k t b)) → e < known legs k t b →
      limit < r.size (at r (counts_of o) e) + r.size (shifted r row.counts.items (extras_of legs t b) e) → IsTooMany r legs k t (with_one legs t f b g)
  joined-wide o e sizes at_b l wide = record {
    slice = b;
    cost = e;
    suits = p.suits;
    kept = l;
    beyond = rw (own r legs k t f b g e) (sum-wide laws (at r (counts_of o) e) (shifted r row.counts.items (extras_of legs t b) e) (g b e) (cond (nat_le (extras_of legs t b) e) (f (e - extras_of legs t b)) 0) sizes (first-at o at_b e l) (second-at e l) wide);
  }
