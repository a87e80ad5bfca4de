-- What comes to the slices of the next diagonal from all slices of a table are the ways up to them.
--
-- summed-shares   what comes to a slice, as it is pushed from each slice of the table
-- summed-table    so their table is that of the ways
-- plan-own        the plan of a table by its own numbers
-- rows-few        the slices of a table have no more places and no greater heights than their extras let them
use Rattle.std.proofs.Common.{◌≡◌, ℕ, suc, ◌+◌, ◌<◌, ◌≤◌, ℤ, pos, neg_ℤ, ◌+ℤ◌, ◌≤ℤ◌, Bool, true, false, List, [], ◌∷◌, refl, sym, ◌∙◌, ap, arith}
use Rattle.std.specs.Prelude.{cond}
use Rattle.std.specs.List.{AllByRecursion, IsDistinct}
use Rattle.std.specs.Map.{keys_of}
use Rattle.tv_lemmas.specs.Sums.{sum_of}
use Rattle.tv_ring.specs.Operations.{Operations}
use Rattle.tv_cells.specs.declared.legs.Legs.{Legs}
use Rattle.tv_cells.specs.Extras.{extent, AreDiagrams}
use Rattle.tv_spec_slices.specs.Slices.{Shape, at, reach, same_shape, interlaces, fits, extras_of}
use Rattle.tv_spec_slices.specs.Paths.{ways_at}
use Rattle.tv_laws_slices.proofs.Sums.{sum_of-zero}
use Rattle.tv_laws_slices.proofs.Taken.{reach-few, height-few}
use Rattle.tv_laws_sums.specs.Sums.{charged}
use Rattle.tv_laws_sums.specs.Laws.{AreLow}
use Rattle.tv_slices.specs.declared.row.Row.{Row}
use Rattle.tv_slices.specs.Tables.{ways_to, IsTable}
use Rattle.tv_slices.proofs.Levels.{share, shares, shares-all}
use Rattle.tv_slices.proofs.Put.{table-same}
use Rattle.tv_sums.specs.declared.plan.Plan.{Plan}
use Rattle.tv_sums.specs.Plans.{plan_for}
use Rattle.tv_sums.specs.Parts.{summed}

keys-sum : {V : Type 0} (F : Shape → ℕ) (es : List (Shape × V)) → sum_of F (keys_of es) ≡ sum_of (λ e. F e.0) es
keys-sum F [] = refl
keys-sum F (e ∷ es) = ap (λ v. F e.0 + v) (keys-sum F es)

summed-shares : {V : Type 0} (legs : Legs) (k : ℕ) (t : ℤ) (es : List (Shape × V)) (s : Shape) (c : ℕ) → summed legs k t (keys_of es) s c ≡ shares legs k t es s c
unfolding shares share
summed-shares legs k t es s c = by (fits legs (t +ℤ pos 1) s)
  where
    F : Shape → ℕ
    F = λ a. cond (interlaces t a s) (charged (ways_at legs k t a) (extras_of legs (t +ℤ pos 1) s) c) 0

    by : (q : Bool) → cond q (sum_of (λ a. cond (interlaces t a s) (charged (ways_at legs k t a) (extras_of legs (t +ℤ pos 1) s) c) 0) (keys_of es)) 0
        ≡ sum_of (λ e. cond q (cond (interlaces t e.0 s) (charged (ways_at legs k t e.0) (extras_of legs (t +ℤ pos 1) s) c) 0) 0) es
    by true = keys-sum (λ a. cond (interlaces t a s) (charged (ways_at legs k t a) (extras_of legs (t +ℤ pos 1) s) c) 0) es
    by false = sym (sum_of-zero (λ e. 0) (λ e. refl) es)

pub summed-table : {A : Type 0} (r : Operations A) (legs : Legs) (k : ℕ) (t : ℤ) (es rows : List (Shape × Row A)) → AreDiagrams legs → IsTable r legs k t (ways_to legs k t) es → IsDistinct same_shape (keys_of es) → neg_ℤ (pos (k + extent legs)) ≤ℤ t →
    IsTable r legs k (t +ℤ pos 1) (summed legs k t (keys_of es)) rows → IsTable r legs k (t +ℤ pos 1) (ways_to legs k (t +ℤ pos 1)) rows
summed-table r legs k t es rows are table distinct low done =
    table-same r legs k (t +ℤ pos 1) (summed legs k t (keys_of es)) (ways_to legs k (t +ℤ pos 1)) rows (λ s c l. summed-shares legs k t es s c ∙ shares-all r legs k t are es table s c distinct low l) done

-- ---- bounds of the slices of a table

module _ {V : Type 0} (legs : Legs) (k : ℕ) (t : ℤ) (are : AreDiagrams legs) where
  pub rows-few : (es : List (Shape × V)) → AllByRecursion (λ e. (fits legs t e.0 ≡ true) × (extras_of legs t e.0 ≤ k)) es → AllByRecursion (λ e. reach e.0 ≤ k + extent legs) es
  rows-few [] all = tt
  rows-few (e ∷ es) all = (reach-few legs t e.0 k are all.0.0 all.0.1, rows-few es all.1)

  pub rows-low : (top m : ℕ) (es : List (Shape × V)) → top ≡ suc (k + extent legs) → AllByRecursion (λ e. (fits legs t e.0 ≡ true) × (extras_of legs t e.0 ≤ k)) es → AllByRecursion (λ e. reach e.0 ≤ m) es → AreLow top (suc m) (keys_of es)
  rows-low top m [] e all short = tt
  rows-low top m (x ∷ es) e all short = (record { short = wider (reach x.0) short.0; low = λ d. under (at x.0 d) (height-few legs t x.0 k are all.0.0 all.0.1 d) }, rows-low top m es e all.1 short.1)
    where
      wider : (a : ℕ) → a ≤ m → a ≤ suc m
      wider a l = omega arith

      under : (a : ℕ) → a ≤ k + extent legs → a < top
      under a l = omega (arith, e)

  pub rows-short : (m : ℕ) (es : List (Shape × V)) → AllByRecursion (λ e. reach e.0 ≤ m) es → AllByRecursion (λ a. reach a < suc m) (keys_of es)
  rows-short m [] short = tt
  rows-short m (x ∷ es) short = (next (reach x.0) short.0, rows-short m es short.1)
    where
      next : (a : ℕ) → a ≤ m → a < suc m
      next a l = omega arith

-- ---- the plan of a table

pub plan-own : (plan : Plan) (k : ℕ) (t : ℤ) (top : ℕ) → plan ≡ plan_for k t top plan.n → plan ≡ plan_for plan.k t plan.top plan.n
plan-own plan k t top e = e ∙ (ap (λ v. plan_for v t top plan.n) (sym (ap (λ p. p.k) e)) ∙ ap (λ v. plan_for plan.k t v plan.n) (sym (ap (λ p. p.top) e)))
