-- The heights of one place, met one after the other.
--
-- lawful        the laws of running sums in the terms of a plan
-- walk-start, walk-next  what the sum of the numbers met so far tells
-- height-long, height-charged  what it tells of the new heights
-- group-own     a key is that of its group with its own height at the place
-- passed-one    one height more is passed; passed-all, all are
use Rattle.std.proofs.Common.{◌≡◌, ℕ, suc, ◌+◌, ◌-◌, ◌<◌, ◌≤◌, ℤ, Bool, true, false, List, [], refl, sym, ◌∙◌, ap, subst, arith, inl, inr}
use Rattle.std.specs.Prelude.{◌⊎◌, ◌&&◌, ◌||◌, nat_lt, nat_le}
use Rattle.std.proofs.lemmas.Bool.{cases_lt, and_parts, and_from, or_cases, leb-true, ltb-true, lt-ltb, le-leb}
use Rattle.tv_lemmas.specs.Sums.{sum_of}
use Rattle.tv_ring.specs.Operations.{Operations}
use Rattle.tv_cells.specs.declared.legs.Legs.{Legs}
use Rattle.tv_cells.specs.Cells.{below}
use Rattle.tv_spec_slices.specs.Slices.{Shape, at, same_shape}
use Rattle.tv_laws_slices.proofs.Steps.{sum_of-last}
use Rattle.tv_laws_slices.proofs.Pushed.{same-shape, own-shape}
use Rattle.tv_laws_sums.specs.Mixed.{place, put, lowest, highest, nth}
use Rattle.tv_laws_sums.specs.Sums.{charged, kept, through}
use Rattle.tv_laws_sums.specs.Laws.{AreLow}
use Rattle.tv_laws_sums.proofs.Replaced.{place-inside}
use Rattle.tv_laws_sums.proofs.Running.{running-sums, none-outside}
use Rattle.tv_laws_sums.proofs.Left.{left-steps, left-rises}
use Rattle.tv_slices.specs.declared.row.Row.{Row}
use Rattle.tv_sums.specs.declared.plan.Plan.{Plan}
use Rattle.tv_sums.specs.Plans.{plan_for, over_at, left}
use Rattle.tv_sums.specs.Keys.{key, IsKey, opened}
use Rattle.tv_sums.specs.Tells.{Tells}
use Rattle.tv_sums.specs.Parts.{kept_in, ways_in, IsPart}
use Rattle.tv_sums.proofs.Told.{tells-fewer, tells-empty}
use Rattle.tv_sums.proofs.Parted.{part-turned}
use Rattle.tv_sums.proofs.Keyed.{at-key, key-own, key-past, put-none, put-again, put-own}

abbrev pub spot : Plan → ℕ → ℕ
spot plan i = place plan.grows plan.n i

abbrev pub met_in : Plan → ℕ → (ℕ → ℕ) → ℕ → ℕ
met_in plan i h m = nth plan.grows (lowest h (spot plan i)) (highest plan.top h (spot plan i)) m

abbrev pub sums_to : Legs → ℤ → Plan → ℕ → List Shape → (ℕ → ℕ) → ℕ → ℕ → ℕ
sums_to legs t plan i slices h m c = sum_of (λ j. through legs plan.k t plan.top plan.n i slices (put h (spot plan i) (met_in plan i h j)) c) (below m)

pub record IsLawful (legs : Legs) (t : ℤ) (plan : Plan) : Type 0 where
  pub running : (i : ℕ) (slices : List Shape) (h : ℕ → ℕ) (j c : ℕ) → AreLow plan.top plan.n slices → i < plan.n → h plan.n ≡ 0 → lowest h (spot plan i) + j ≤ highest plan.top h (spot plan i) →
      through legs plan.k t plan.top plan.n (suc i) slices (put h (spot plan i) (met_in plan i h j)) c ≡ charged (sums_to legs t plan i slices h (suc j)) (over_at legs plan (spot plan i) (met_in plan i h j)) c
  pub outside : (i : ℕ) (slices : List Shape) (h : ℕ → ℕ) (y c : ℕ) → AreLow plan.top plan.n slices → i < plan.n → h plan.n ≡ 0 → (y < lowest h (spot plan i)) ⊎ (highest plan.top h (spot plan i) < y) →
      through legs plan.k t plan.top plan.n (suc i) slices (put h (spot plan i) y) c ≡ 0
  pub steps : (i : ℕ) (h : ℕ → ℕ) (j : ℕ) → i < plan.n → lowest h (spot plan i) + j ≤ highest plan.top h (spot plan i) →
      left legs plan i (put h (spot plan i) (met_in plan i h j)) ≤ left legs plan (suc i) (put h (spot plan i) (met_in plan i h j)) + over_at legs plan (spot plan i) (met_in plan i h j)
  pub rises : (i : ℕ) (h : ℕ → ℕ) (m j : ℕ) → i < plan.n → m ≤ j → left legs plan i (put h (spot plan i) (met_in plan i h m)) ≤ left legs plan i (put h (spot plan i) (met_in plan i h j))

pub lawful-for : (legs : Legs) (k : ℕ) (t : ℤ) (top n : ℕ) → IsLawful legs t (plan_for k t top n)
lawful-for legs k t top n = record {
  running = λ i slices h j c. running-sums legs k t top n i slices h j c;
  outside = λ i slices h y c. none-outside legs k t top n i slices h y c;
  steps = λ i h j. left-steps legs t top n i h j;
  rises = λ i h m j. left-rises legs t top n i h m j;
}

pub lawful : (legs : Legs) (t : ℤ) (plan : Plan) → plan ≡ plan_for plan.k t plan.top plan.n → IsLawful legs t plan
lawful legs t plan e = subst (IsLawful legs t) (sym e) (lawful-for legs plan.k t plan.top plan.n)

-- ---- the heights that are passed

abbrev pub passed : Bool → ℕ → ℕ → ℕ → ℕ → Bool
passed true low high m y = nat_le low y && nat_lt y (low + m)
passed false low high m y = nat_le y high && nat_lt high (y + m)

passed-one : (g : Bool) (low high m y : ℕ) → low + m ≤ high → passed g low high (suc m) y ≡ true → (passed g low high m y ≡ true) ⊎ (y ≡ nth g low high m)
passed-one true low high m y l h = by (and_parts (nat_le low y) (nat_lt y (low + suc m)) h) (cases_lt y (low + m))
  where
    by : (nat_le low y ≡ true) × (nat_lt y (low + suc m) ≡ true) → (y < low + m) ⊎ (low + m ≤ y) → ((nat_le low y && nat_lt y (low + m)) ≡ true) ⊎ (y ≡ low + m)
    by parts (inl less) = inl (and_from (nat_le low y) (nat_lt y (low + m)) parts.0 (lt-ltb y (low + m) less))
    by parts (inr more) = let last = ltb-true y (low + suc m) parts.1 in inr (omega arith)
passed-one false low high m y l h = by (and_parts (nat_le y high) (nat_lt high (y + suc m)) h) (cases_lt high (y + m))
  where
    by : (nat_le y high ≡ true) × (nat_lt high (y + suc m) ≡ true) → (high < y + m) ⊎ (y + m ≤ high) → ((nat_le y high && nat_lt high (y + m)) ≡ true) ⊎ (y ≡ high - m)
    by parts (inl less) = inl (and_from (nat_le y high) (nat_lt high (y + m)) parts.0 (lt-ltb high (y + m) less))
    by parts (inr more) = let last = ltb-true high (y + suc m) parts.1 in inr (omega arith)

passed-none : (g : Bool) (low high y : ℕ) → passed g low high 0 y ≡ true → ⊥
passed-none true low high y h = let parts = and_parts (nat_le low y) (nat_lt y (low + 0)) h in let a = leb-true low y parts.0 in let b = ltb-true y (low + 0) parts.1 in omega arith
passed-none false low high y h = let parts = and_parts (nat_le y high) (nat_lt high (y + 0)) h in let a = leb-true y high parts.0 in let b = ltb-true high (y + 0) parts.1 in omega arith

passed-all : (g : Bool) (low high m y : ℕ) → suc high - low ≤ m → (passed g low high m y ≡ true) ⊎ ((y < low) ⊎ (high < y))
passed-all g low high m y l = by g (cases_lt y low) (cases_lt high y)
  where
    by : (g : Bool) → (y < low) ⊎ (low ≤ y) → (high < y) ⊎ (y ≤ high) → (passed g low high m y ≡ true) ⊎ ((y < low) ⊎ (high < y))
    by g (inl less) h = inr (inl less)
    by g (inr p) (inl more) = inr (inr more)
    by true (inr p) (inr q) = inl (and_from (nat_le low y) (nat_lt y (low + m)) (le-leb low y p) (lt-ltb y (low + m) (omega arith)))
    by false (inr p) (inr q) = inl (and_from (nat_le y high) (nat_lt high (y + m)) (le-leb y high q) (lt-ltb high (y + m) (omega arith)))

-- ---- the sum of the numbers met so far

abbrev pub IsWalk : {A : Type 0} → Operations A → Legs → ℤ → Plan → ℕ → List Shape → (ℕ → ℕ) → ℕ → Row A → Type 0
IsWalk r legs t plan i slices h m sum =
    (j : ℕ) → m ≤ suc j → lowest h (spot plan i) + j ≤ highest plan.top h (spot plan i) → Tells r (sums_to legs t plan i slices h m) (kept plan.k (left legs plan i (put h (spot plan i) (met_in plan i h j)))) sum

module _ {A : Type 0} (r : Operations A) (legs : Legs) (t : ℤ) (plan : Plan) (i : ℕ) (slices : List Shape) (h : ℕ → ℕ) (laws : IsLawful legs t plan) (inside : i < plan.n) where
  pub walk-start : (row : Row A) → row.counts.items ≡ [] → row.reached.items ≡ [] → IsWalk r legs t plan i slices h 0 row
  walk-start row none unmarked = λ j l few. tells-empty r (kept plan.k (left legs plan i (put h (spot plan i) (met_in plan i h j)))) row none unmarked

  pub walk-next : (m : ℕ) (new : Row A) →
      Tells r (λ c. sums_to legs t plan i slices h m c + through legs plan.k t plan.top plan.n i slices (put h (spot plan i) (met_in plan i h m)) c) (kept plan.k (left legs plan i (put h (spot plan i) (met_in plan i h m)))) new →
      IsWalk r legs t plan i slices h (suc m) new
  walk-next m new tells = λ j l few.
      tells-fewer r (λ c. sums_to legs t plan i slices h m c + through legs plan.k t plan.top plan.n i slices (put h (spot plan i) (met_in plan i h m)) c) (sums_to legs t plan i slices h (suc m))
      (kept plan.k (left legs plan i (put h (spot plan i) (met_in plan i h j)))) (kept plan.k (left legs plan i (put h (spot plan i) (met_in plan i h m)))) new
      (fewer (left legs plan i (put h (spot plan i) (met_in plan i h m))) (left legs plan i (put h (spot plan i) (met_in plan i h j))) (laws.rises i h m j inside (omega arith)))
      (λ c f. turned (sums_to legs t plan i slices h m c) (through legs plan.k t plan.top plan.n i slices (put h (spot plan i) (met_in plan i h m)) c)
      ∙ sym (sum_of-last (λ j. through legs plan.k t plan.top plan.n i slices (put h (spot plan i) (met_in plan i h j)) c) m)) tells
    where
      fewer : (a b : ℕ) → a ≤ b → suc plan.k - b ≤ suc plan.k - a
      fewer a b l = omega arith

      turned : (a b : ℕ) → a + b ≡ b + a
      turned a b = omega arith

  pub height-long : (m : ℕ) → lowest h (spot plan i) + m ≤ highest plan.top h (spot plan i) →
      kept plan.k (left legs plan (suc i) (put h (spot plan i) (met_in plan i h m))) ≤ kept plan.k (left legs plan i (put h (spot plan i) (met_in plan i h m))) + over_at legs plan (spot plan i) (met_in plan i h m)
  height-long m few = long (left legs plan i (put h (spot plan i) (met_in plan i h m))) (left legs plan (suc i) (put h (spot plan i) (met_in plan i h m))) (over_at legs plan (spot plan i) (met_in plan i h m)) (laws.steps i h m inside few)
    where
      long : (a b x : ℕ) → a ≤ b + x → suc plan.k - b ≤ (suc plan.k - a) + x
      long a b x l = omega arith

-- ---- a group of keys

-- a key has the heights of its group, but for its own at the place
pub group-own : (plan : Plan) (i : ℕ) (s group : Shape) → i < plan.n → IsKey plan.top plan.n s → opened plan i s ≡ group → put (at group) (spot plan i) (at s (spot plan i)) ≡ at s
group-own plan i s group inside is e =
    let p = spot plan i in
    ap (λ a. put (at a) p (at s p)) (sym e)
    ∙ (ap (λ f. put f p (at s p)) (at-key (put (at s) p 0) plan.n (put-none (at s) plan.n p 0 (place-inside plan.grows plan.n i inside) (key-past plan.top plan.n s is)))
    ∙ (put-again (at s) p 0 (at s p) ∙ put-own (at s) p))

abbrev pub walked : Plan → ℕ → Shape → ℕ → (Shape → Bool) → Shape → Bool
walked plan i group m done s = done s || (same_shape (opened plan i s) group && passed plan.grows (lowest (at group) (spot plan i)) (highest plan.top (at group) (spot plan i)) m (at s (spot plan i)))

module _ {A : Type 0} (r : Operations A) (legs : Legs) (t : ℤ) (plan : Plan) (i : ℕ) (slices : List Shape) (group : Shape) (done : Shape → Bool) (laws : IsLawful legs t plan) (inside : i < plan.n) where
  pub part-start : (rows : List (Shape × Row A)) → IsPart r legs t plan (suc i) slices done rows → IsPart r legs t plan (suc i) slices (walked plan i group 0 done) rows
  part-start rows part = part-turned r legs t plan (suc i) slices done (walked plan i group 0 done) rows (λ s is fit h. by s (or_cases (done s) _ h)) part
    where
      by : (s : Shape) → (done s ≡ true) ⊎ ((same_shape (opened plan i s) group && passed plan.grows (lowest (at group) (spot plan i)) (highest plan.top (at group) (spot plan i)) 0 (at s (spot plan i))) ≡ true) → (done s ≡ true) ⊎ ((c : ℕ) → c < kept_in legs plan (suc i) s → ways_in legs t plan (suc i) slices s c ≡ 0)
      by s (inl h) = inl h
      by s (inr h) = absurd (passed-none plan.grows (lowest (at group) (spot plan i)) (highest plan.top (at group) (spot plan i)) (at s (spot plan i)) (and_parts (same_shape (opened plan i s) group) _ h).1)

  pub part-next : (m : ℕ) (rows : List (Shape × Row A)) → lowest (at group) (spot plan i) + m ≤ highest plan.top (at group) (spot plan i) →
      IsPart r legs t plan (suc i) slices (λ s. walked plan i group m done s || same_shape (key (put (at group) (spot plan i) (met_in plan i (at group) m)) plan.n) s) rows → IsPart r legs t plan (suc i) slices (walked plan i group (suc m) done) rows
  part-next m rows few part =
      part-turned r legs t plan (suc i) slices (λ s. walked plan i group m done s || same_shape (key (put (at group) (spot plan i) (met_in plan i (at group) m)) plan.n) s) (walked plan i group (suc m) done) rows
      (λ s is fit h. inl (by s is (or_cases (done s) _ h))) part
    where
      low : ℕ
      low = lowest (at group) (spot plan i)

      high : ℕ
      high = highest plan.top (at group) (spot plan i)

      left_or : (p q : Bool) → p ≡ true → (p || q) ≡ true
      left_or true q e = refl
      left_or false q e = absurd (cc)

      right_or : (p q : Bool) → q ≡ true → (p || q) ≡ true
      right_or true q e = refl
      right_or false q e = e

      one : (s : Shape) → IsKey plan.top plan.n s → same_shape (opened plan i s) group ≡ true → (passed plan.grows low high m (at s (spot plan i)) ≡ true) ⊎ (at s (spot plan i) ≡ nth plan.grows low high m) →
          (walked plan i group m done s || same_shape (key (put (at group) (spot plan i) (met_in plan i (at group) m)) plan.n) s) ≡ true
      one s is same (inl h) = left_or (walked plan i group m done s) _ (right_or (done s) _ (and_from (same_shape (opened plan i s) group) _ same h))
      one s is same (inr e) = right_or (walked plan i group m done s) _ (
          let own : at s ≡ put (at group) (spot plan i) (met_in plan i (at group) m) = sym (group-own plan i s group inside is (same-shape (opened plan i s) group same)) ∙ ap (put (at group) (spot plan i)) e in
          let whole : s ≡ key (put (at group) (spot plan i) (met_in plan i (at group) m)) plan.n = key-own plan.top plan.n s is ∙ ap (λ f. key f plan.n) own in
          subst (λ a. same_shape a s ≡ true) whole (own-shape s))

      by : (s : Shape) → IsKey plan.top plan.n s → (done s ≡ true) ⊎ ((same_shape (opened plan i s) group && passed plan.grows low high (suc m) (at s (spot plan i))) ≡ true) →
          (walked plan i group m done s || same_shape (key (put (at group) (spot plan i) (met_in plan i (at group) m)) plan.n) s) ≡ true
      by s is (inl h) = left_or (walked plan i group m done s) _ (left_or (done s) _ h)
      by s is (inr h) =
          let parts = and_parts (same_shape (opened plan i s) group) (passed plan.grows low high (suc m) (at s (spot plan i))) h in
          one s is parts.0 (passed-one plan.grows low high m (at s (spot plan i)) few parts.1)

  pub part-done : (m : ℕ) (rows : List (Shape × Row A)) → AreLow plan.top plan.n slices → IsKey plan.top plan.n group → suc (highest plan.top (at group) (spot plan i)) - lowest (at group) (spot plan i) ≤ m →
      IsPart r legs t plan (suc i) slices (walked plan i group m done) rows → IsPart r legs t plan (suc i) slices (λ s. done s || same_shape (opened plan i s) group) rows
  part-done m rows low_slices is_group all part =
      part-turned r legs t plan (suc i) slices (walked plan i group m done) (λ s. done s || same_shape (opened plan i s) group) rows (λ s is fit h. by s is (or_cases (done s) (same_shape (opened plan i s) group) h)) part
    where
      low : ℕ
      low = lowest (at group) (spot plan i)

      high : ℕ
      high = highest plan.top (at group) (spot plan i)

      left_or : (p q : Bool) → p ≡ true → (p || q) ≡ true
      left_or true q e = refl
      left_or false q e = absurd (cc)

      right_or : (p q : Bool) → q ≡ true → (p || q) ≡ true
      right_or true q e = refl
      right_or false q e = e

      one : (s : Shape) → IsKey plan.top plan.n s → same_shape (opened plan i s) group ≡ true → (passed plan.grows low high m (at s (spot plan i)) ≡ true) ⊎ ((at s (spot plan i) < low) ⊎ (high < at s (spot plan i))) →
          (walked plan i group m done s ≡ true) ⊎ ((c : ℕ) → c < kept_in legs plan (suc i) s → ways_in legs t plan (suc i) slices s c ≡ 0)
      one s is same (inl h) = inl (right_or (done s) _ (and_from (same_shape (opened plan i s) group) _ same h))
      one s is same (inr out) = inr (λ c l.
          ap (λ f. through legs plan.k t plan.top plan.n (suc i) slices f c) (sym (group-own plan i s group inside is (same-shape (opened plan i s) group same)))
          ∙ laws.outside i slices (at group) (at s (spot plan i)) c low_slices inside (key-past plan.top plan.n group is_group plan.n (omega arith)) out)

      by : (s : Shape) → IsKey plan.top plan.n s → (done s ≡ true) ⊎ (same_shape (opened plan i s) group ≡ true) → (walked plan i group m done s ≡ true) ⊎ ((c : ℕ) → c < kept_in legs plan (suc i) s → ways_in legs t plan (suc i) slices s c ≡ 0)
      by s is (inl h) = inl (left_or (done s) _ h)
      by s is (inr same) = one s is same (passed-all plan.grows low high m (at s (spot plan i)) all)
