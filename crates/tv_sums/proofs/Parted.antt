-- What is put into a table of heights.
--
-- part-fewer   a table where fewer keys are done
-- part-stays   one key more is done, which has no ways
-- part-put     and one that gets its row
use Rattle.std.proofs.Common.{◌≡◌, ℕ, ◌<◌, ℤ, Bool, true, false, List, [], ◌∷◌, Option, Some, None, refl, sym, subst, inl, inr}
use Rattle.std.specs.Prelude.{cond, ◌||◌, ◌⊎◌, MatchOption}
use Rattle.std.specs.List.{AllByRecursion}
use Rattle.std.specs.Map.{lookup}
use Rattle.std.proofs.lemmas.Bool.{or_cases}
use Rattle.indexmap.specs.IndexMap.{insert_entry}
use Rattle.tv_ring.specs.Operations.{Operations}
use Rattle.tv_cells.specs.declared.legs.Legs.{Legs}
use Rattle.tv_spec_slices.specs.Slices.{Shape, at, same_shape}
use Rattle.tv_laws_slices.proofs.Pushed.{same-shape}
use Rattle.tv_slices.specs.declared.row.Row.{Row}
use Rattle.tv_slices.specs.Tables.{HasRow}
use Rattle.tv_sums.specs.declared.plan.Plan.{Plan}
use Rattle.tv_sums.specs.Plans.{are_fit}
use Rattle.tv_sums.specs.Keys.{IsKey}
use Rattle.tv_sums.specs.Parts.{kept_in, ways_in, IsPart}

pub all-put : {V : Type 0} (P : Shape → Type 0) (rows : List (Shape × V)) (b : Shape) (row : V) → P b → AllByRecursion (λ e. P e.0) rows → AllByRecursion (λ e. P e.0) (insert_entry same_shape rows b row)
all-put P [] b row here all = (here, tt)
all-put {V} P (e ∷ rows) b row here all = by_test (same_shape b e.0) (all-put P rows b row here all.1)
  where
    by_test : (q : Bool) → AllByRecursion (λ e. P e.0) (insert_entry same_shape rows b row) → AllByRecursion (λ e. P e.0) (cond q ((e.0, row) ∷ rows) (e ∷ insert_entry same_shape rows b row))
    by_test true rest = all
    by_test false rest = (all.0, rest)

module _ {A : Type 0} (r : Operations A) (legs : Legs) (t : ℤ) (plan : Plan) (i : ℕ) (slices : List Shape) where
  abbrev pub KeyAt : (Shape → Bool) → Shape → Option (Row A) → Type 0
  KeyAt done s o = MatchOption o (done s ≡ true → (c : ℕ) → c < kept_in legs plan i s → ways_in legs t plan i slices s c ≡ 0) (HasRow r (ways_in legs t plan i slices s) (kept_in legs plan i s))

  key-turned : (old new : Shape → Bool) (s : Shape) (o : Option (Row A)) → (new s ≡ true → (old s ≡ true) ⊎ ((c : ℕ) → c < kept_in legs plan i s → ways_in legs t plan i slices s c ≡ 0)) → KeyAt old s o → KeyAt new s o
  key-turned old new s None turn at_s = λ h. by (turn h)
    where
      by : (old s ≡ true) ⊎ ((c : ℕ) → c < kept_in legs plan i s → ways_in legs t plan i slices s c ≡ 0) → (c : ℕ) → c < kept_in legs plan i s → ways_in legs t plan i slices s c ≡ 0
      by (inl h) = at_s h
      by (inr none) = none
  key-turned old new s (Some row) turn at_s = at_s

  pub part-turned : (old new : Shape → Bool) (rows : List (Shape × Row A)) →
      ((s : Shape) → IsKey plan.top plan.n s → are_fit legs plan i (at s) ≡ true → new s ≡ true → (old s ≡ true) ⊎ ((c : ℕ) → c < kept_in legs plan i s → ways_in legs t plan i slices s c ≡ 0)) →
      IsPart r legs t plan i slices old rows → IsPart r legs t plan i slices new rows
  part-turned old new rows turn part = record { keys = part.keys; each = λ s is fit. key-turned old new s (lookup (same_shape s) rows) (turn s is fit) (part.each s is fit) }

  pub part-stays : (done : Shape → Bool) (b : Shape) (rows : List (Shape × Row A)) → (are_fit legs plan i (at b) ≡ true → (c : ℕ) → c < kept_in legs plan i b → ways_in legs t plan i slices b c ≡ 0) →
      IsPart r legs t plan i slices done rows → IsPart r legs t plan i slices (λ s. done s || same_shape b s) rows
  part-stays done b rows none part = part-turned done (λ s. done s || same_shape b s) rows (λ s is fit h. by s fit (or_cases (done s) (same_shape b s) h)) part
    where
      by : (s : Shape) → are_fit legs plan i (at s) ≡ true → (done s ≡ true) ⊎ (same_shape b s ≡ true) → (done s ≡ true) ⊎ ((c : ℕ) → c < kept_in legs plan i s → ways_in legs t plan i slices s c ≡ 0)
      by s fit (inl h) = inl h
      by s fit (inr h) = inr (subst (λ a. are_fit legs plan i (at a) ≡ true → (c : ℕ) → c < kept_in legs plan i a → ways_in legs t plan i slices a c ≡ 0) (same-shape b s h) none fit)

  pub part-put : (done : Shape → Bool) (b : Shape) (row : Row A) (rows new : List (Shape × Row A)) → IsKey plan.top plan.n b → are_fit legs plan i (at b) ≡ true →
      ((q : Shape) → lookup (same_shape q) new ≡ cond (same_shape b q) (Some row) (lookup (same_shape q) rows)) → new ≡ insert_entry same_shape rows b row → HasRow r (ways_in legs t plan i slices b) (kept_in legs plan i b) row →
      IsPart r legs t plan i slices done rows → IsPart r legs t plan i slices (λ s. done s || same_shape b s) new
  part-put done b row rows new is fit put entries has part = record {
    keys = subst (AllByRecursion (λ e. IsKey plan.top plan.n e.0 × (are_fit legs plan i (at e.0) ≡ true))) (sym entries) (all-put (λ s. IsKey plan.top plan.n s × (are_fit legs plan i (at s) ≡ true)) rows b row (is, fit) part.keys);
    each = λ s is_s fit_s. subst (KeyAt (λ s. done s || same_shape b s) s) (sym (put s)) (decided s is_s fit_s (same_shape b s) refl);
  }
    where
      decided : (s : Shape) → IsKey plan.top plan.n s → are_fit legs plan i (at s) ≡ true → (q : Bool) → same_shape b s ≡ q → KeyAt (λ s. done s || same_shape b s) s (cond q (Some row) (lookup (same_shape s) rows))
      decided s is_s fit_s true e = subst (λ a. HasRow r (ways_in legs t plan i slices a) (kept_in legs plan i a) row) (same-shape b s e) has
      decided s is_s fit_s false e = key-turned done (λ s. done s || same_shape b s) s (lookup (same_shape s) rows) (λ h. by (or_cases (done s) (same_shape b s) h)) (part.each s is_s fit_s)
        where
          by : (done s ≡ true) ⊎ (same_shape b s ≡ true) → (done s ≡ true) ⊎ ((c : ℕ) → c < kept_in legs plan i s → ways_in legs t plan i slices s c ≡ 0)
          by (inl h) = inl h
          by (inr h) = absurd (cc)
