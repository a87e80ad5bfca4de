-- The groups of keys that differ at one place alone.
--
-- group-key     the group of a key is a key, which fits where that one does
-- done-put      what is grouped when one group more is done
-- group-none    where no key of a group has a row, no ways lead up to its new heights
use Rattle.std.proofs.Common.{◌≡◌, ℕ, suc, ◌+◌, ◌-◌, ◌<◌, ◌≤◌, ℤ, Bool, true, false, List, [], ◌∷◌, Option, Some, None, refl, sym, ◌∙◌, ap, subst, arith, inl, inr}
use Rattle.std.specs.Prelude.{cond, ◌⊎◌, ◌||◌, MatchOption, is_some}
use Rattle.std.specs.List.{AllByRecursion}
use Rattle.std.specs.Map.{lookup}
use Rattle.std.proofs.lemmas.Bool.{cases_lt, lt-leb, le-leb}
use Rattle.tv_ring.specs.Operations.{Operations}
use Rattle.tv_cells.specs.declared.legs.Legs.{Legs}
use Rattle.tv_spec_slices.specs.Slices.{Shape, at, same_shape}
use Rattle.tv_laws_slices.proofs.Sums.{sum_of-zeros}
use Rattle.tv_laws_slices.proofs.Pushed.{same-shape, own-shape}
use Rattle.tv_laws_sums.specs.Mixed.{put, lowest, highest, nth}
use Rattle.tv_laws_sums.specs.Sums.{charged, kept, through}
use Rattle.tv_laws_sums.specs.Laws.{AreLow}
use Rattle.tv_laws_sums.proofs.Replaced.{place-inside}
use Rattle.tv_slices.specs.declared.row.Row.{Row}
use Rattle.tv_slices.specs.Tables.{HasRow}
use Rattle.tv_sums.specs.declared.plan.Plan.{Plan}
use Rattle.tv_sums.specs.Plans.{over_at, left, are_fit}
use Rattle.tv_sums.specs.Keys.{key, IsKey, opened}
use Rattle.tv_sums.specs.Parts.{kept_in, ways_in, all_done, has_key, IsPart}
use Rattle.tv_sums.proofs.Keyed.{at-key, key-is, key-past, put-none, put-low}
use Rattle.tv_sums.proofs.Walked.{IsLawful, spot, met_in, sums_to, height-long}
use Rattle.tv_sums.proofs.Round.{fit-before, nth-under, before-under}

pub at-opened : (plan : Plan) (i : ℕ) (s : Shape) → i < plan.n → IsKey plan.top plan.n s → at (opened plan i s) ≡ put (at s) (spot plan i) 0
at-opened plan i s inside is = at-key (put (at s) (spot plan i) 0) plan.n (put-none (at s) plan.n (spot plan i) 0 (place-inside plan.grows plan.n i inside) (key-past plan.top plan.n s is))

pub group-key : (plan : Plan) (i : ℕ) (s : Shape) → IsKey plan.top plan.n s → IsKey plan.top plan.n (opened plan i s)
group-key plan i s is = key-is plan.top plan.n (put (at s) (spot plan i) 0) (put-low (at s) plan.top (spot plan i) 0 is.low (omega arith))

pub group-fit : (legs : Legs) (plan : Plan) (i : ℕ) (s : Shape) → i < plan.n → IsKey plan.top plan.n s → are_fit legs plan i (at s) ≡ true → are_fit legs plan i (at (opened plan i s)) ≡ true
group-fit legs plan i s inside is fit = ap (are_fit legs plan i) (at-opened plan i s inside is) ∙ (fit-before legs plan i 0 (at s) inside ∙ fit)

turned : (a b : Shape) → same_shape a b ≡ true → same_shape b a ≡ true
turned a b e = subst (λ c. same_shape c a ≡ true) (same-shape a b e) (own-shape a)

pub done-put : {V : Type 0} (old new : List (Shape × V)) (group : Shape) (v : V) → ((q : Shape) → lookup (same_shape q) new ≡ cond (same_shape group q) (Some v) (lookup (same_shape q) old)) →
    (q : Shape) → has_key new q ≡ true → (has_key old q || same_shape q group) ≡ true
done-put {V} old new group v put q h = by (same_shape group q) refl
  where
    right_or : (p r : Bool) → r ≡ true → (p || r) ≡ true
    right_or true r e = refl
    right_or false r e = e

    left_or : (p r : Bool) → p ≡ true → (p || r) ≡ true
    left_or true r e = refl
    left_or false r e = absurd (cc)

    by : (b : Bool) → same_shape group q ≡ b → (has_key old q || same_shape q group) ≡ true
    by true e = right_or (has_key old q) (same_shape q group) (turned group q e)
    by false e = left_or (has_key old q) (same_shape q group) (sym (ap is_some (put q ∙ ap (λ b. cond b (Some v) (lookup (same_shape q) old)) e)) ∙ h)

pub done-kept : {V : Type 0} (old new : List (Shape × V)) (group : Shape) (v : V) → ((q : Shape) → lookup (same_shape q) new ≡ cond (same_shape group q) (Some v) (lookup (same_shape q) old)) →
    (q : Shape) → has_key old q ≡ true → has_key new q ≡ true
done-kept {V} old new group v put q h = ap is_some (put q) ∙ by (same_shape group q)
  where
    by : (b : Bool) → is_some (cond b (Some v) (lookup (same_shape q) old)) ≡ true
    by true = refl
    by false = h

pub done-found : {V : Type 0} (old new : List (Shape × V)) (group : Shape) (v : V) → ((q : Shape) → lookup (same_shape q) new ≡ cond (same_shape group q) (Some v) (lookup (same_shape q) old)) → has_key new group ≡ true
done-found old new group v put = ap is_some (put group ∙ ap (λ b. cond b (Some v) (lookup (same_shape group) old)) (own-shape group))

-- what holds of all keys holds of one that is found
pub found-all : {V : Type 0} (P : Shape → Type 0) (q : Shape) (rows : List (Shape × V)) → AllByRecursion (λ e. P e.0) rows → has_key rows q ≡ true → P q
found-all P q [] all h = absurd (cc)
found-all {V} P q (e ∷ rows) all h = by (same_shape q e.0) refl h (found-all P q rows all.1)
  where
    by : (b : Bool) → same_shape q e.0 ≡ b → is_some (cond b (Some e.1) (lookup (same_shape q) rows)) ≡ true → (has_key rows q ≡ true → P q) → P q
    by true same h rest = subst P (sym (same-shape q e.0 same)) all.0
    by false same h rest = rest h

none-at : {X : Type 0} (P : Type 0) (Q : X → Type 0) (o : Option X) → is_some o ≡ false → MatchOption o (true ≡ true → P) Q → P
none-at P Q None e f = f refl
none-at P Q (Some x) e f = absurd (cc)

-- the number of the height y among those that are met
number : Bool → ℕ → ℕ → ℕ → ℕ
number true low high y = y - low
number false low high y = high - y

number-is : (g : Bool) (low high y : ℕ) → low ≤ y → y ≤ high → nth g low high (number g low high y) ≡ y
unfolding number
number-is true low high y l m = omega arith
number-is false low high y l m = omega arith

number-few : (g : Bool) (low high y : ℕ) → low ≤ y → y ≤ high → low + number g low high y ≤ high
unfolding number
number-few true low high y l m = omega arith
number-few false low high y l m = omega arith

module _ {A : Type 0} (r : Operations A) (legs : Legs) (t : ℤ) (plan : Plan) (i : ℕ) (slices : List Shape) (table : List (Shape × Row A)) (laws : IsLawful legs t plan) (inside : i < plan.n) (low_slices : AreLow plan.top plan.n slices) (part : IsPart r legs t plan i slices all_done table) where
  -- no key of the group has a row
  Bare : (ℕ → ℕ) → Type 0
  Bare h = (y : ℕ) → y ≤ plan.top → has_key table (key (put h (spot plan i) y) plan.n) ≡ false

  old-none : (h : ℕ → ℕ) (y c : ℕ) → ((d : ℕ) → h d ≤ plan.top) → ((d : ℕ) → plan.n ≤ d → h d ≡ 0) → are_fit legs plan i h ≡ true → y ≤ plan.top → has_key table (key (put h (spot plan i) y) plan.n) ≡ false →
      c < kept plan.k (left legs plan i (put h (spot plan i) y)) → through legs plan.k t plan.top plan.n i slices (put h (spot plan i) y) c ≡ 0
  old-none h y c low none fit l bare few =
      let p = spot plan i in let b = key (put h p y) plan.n in
      let e : at b ≡ put h p y = at-key (put h p y) plan.n (put-none h plan.n p y (place-inside plan.grows plan.n i inside) none) in
      subst (λ f. c < kept plan.k (left legs plan i f) → through legs plan.k t plan.top plan.n i slices f c ≡ 0) e
      (none-at ((c : ℕ) → c < kept_in legs plan i b → ways_in legs t plan i slices b c ≡ 0) (HasRow r (ways_in legs t plan i slices b) (kept_in legs plan i b)) (lookup (same_shape b) table) bare
      (part.each b (key-is plan.top plan.n (put h p y) (put-low h plan.top p y low l)) (ap (are_fit legs plan i) e ∙ (fit-before legs plan i y h inside ∙ fit))) c) few

  pub group-none : (h : ℕ → ℕ) (y c : ℕ) → ((d : ℕ) → h d ≤ plan.top) → ((d : ℕ) → plan.n ≤ d → h d ≡ 0) → are_fit legs plan i h ≡ true →
      ((y : ℕ) → y ≤ plan.top → has_key table (key (put h (spot plan i) y) plan.n) ≡ false) → c < kept plan.k (left legs plan (suc i) (put h (spot plan i) y)) → through legs plan.k t plan.top plan.n (suc i) slices (put h (spot plan i) y) c ≡ 0
  group-none h y c low none fit bare few = by (cases_lt y (lowest h (spot plan i))) (cases_lt (highest plan.top h (spot plan i)) y)
    where
      p : ℕ
      p = spot plan i

      bottom : ℕ
      bottom = lowest h (spot plan i)

      most : ℕ
      most = highest plan.top h (spot plan i)

      under : (a b c : ℕ) → a ≤ b → b ≤ c → a ≤ c
      under a b c l m = omega arith

      inner : (k a b m x c : ℕ) → a ≤ b → m ≤ suc k - a → c < (suc k - b) + x → x ≤ c → c - x < suc k - a
      inner k a b m x c l n h q = omega arith

      met : (j : ℕ) → bottom + j ≤ most → y ≡ met_in plan i h j → through legs plan.k t plan.top plan.n (suc i) slices (put h (spot plan i) y) c ≡ 0
      met j l e =
          ap (λ v. through legs plan.k t plan.top plan.n (suc i) slices (put h p v) c) e ∙ (laws.running i slices h j c low_slices inside (none plan.n (omega arith)) l ∙ by_cost (cases_lt c x))
        where
          x : ℕ
          x = over_at legs plan (spot plan i) (met_in plan i h j)

          long : kept plan.k (left legs plan (suc i) (put h (spot plan i) (met_in plan i h j))) ≤ kept plan.k (left legs plan i (put h (spot plan i) (met_in plan i h j))) + x
          long = height-long r legs t plan i slices h laws inside j l

          few_j : c < kept plan.k (left legs plan (suc i) (put h (spot plan i) (met_in plan i h j)))
          few_j = subst (λ v. c < kept plan.k (left legs plan (suc i) (put h (spot plan i) v))) e few

          smaller : (a b x m n : ℕ) → a ≤ b → c < n → n ≤ (suc plan.k - b) + x → x ≤ c → c - x < suc plan.k - a
          smaller a b x m n l f g q = omega arith

          each : x ≤ c → (m : ℕ) → 0 ≤ m → m < 0 + suc j → through legs plan.k t plan.top plan.n i slices (put h (spot plan i) (met_in plan i h m)) (c - x) ≡ 0
          each q m from far =
              let fewer : bottom + m ≤ most = omega arith in
              old-none h (met_in plan i h m) (c - x) low none fit (under (met_in plan i h m) most plan.top (nth-under plan.grows bottom most m fewer) (before-under plan.top p h low)) (bare (met_in plan i h m) (under (met_in plan i h m) most plan.top (nth-under plan.grows bottom most m fewer) (before-under plan.top p h low)))
              (smaller (left legs plan i (put h p (met_in plan i h m))) (left legs plan i (put h p (met_in plan i h j))) x m _ (laws.rises i h m j inside (omega arith)) few_j long q)

          by_cost : (c < x) ⊎ (x ≤ c) → charged (sums_to legs t plan i slices h (suc j)) x c ≡ 0
          by_cost (inl less) = let off = lt-leb x c less in rw off refl
          by_cost (inr more) = let on = le-leb x c more in rw on (sum_of-zeros (λ m. through legs plan.k t plan.top plan.n i slices (put h (spot plan i) (met_in plan i h m)) (c - x)) 0 (suc j) (each more))

      by : (y < bottom) ⊎ (bottom ≤ y) → (most < y) ⊎ (y ≤ most) → through legs plan.k t plan.top plan.n (suc i) slices (put h (spot plan i) y) c ≡ 0
      by (inl less) q = laws.outside i slices h y c low_slices inside (none plan.n (omega arith)) (inl less)
      by (inr l) (inl more) = laws.outside i slices h y c low_slices inside (none plan.n (omega arith)) (inr more)
      by (inr l) (inr m) = met (number plan.grows bottom most y) (number-few plan.grows bottom most y l m) (sym (number-is plan.grows bottom most y l m))
