-- How the owners of two points are found, one triangle after the other.
--
-- left ts a b t == the owners among the triangles from t on
use Rattle.std.specs.Prelude.{◌≡◌, ℕ, suc, ◌+◌, ◌-◌, ◌<◌, ◌≤◌, Bool, true, false, cond, List, [], ◌∷◌, filter, length}
use Rattle.std.specs.List.{range_with_len}
use Rattle.std.proofs.Common.{refl, sym, ap, ◌∙◌, arith}
use Rattle.tv_spec_plane.specs.declared.records.Triple.{Triple}
use Rattle.tv_web.specs.declared.owners.Found.{Found}
use Rattle.tv_web.specs.declared.owners.Found.TheVariants.{Nothing, More}
use Rattle.tv_web.specs.Found.{owns, owners_in, found_of, and_also}

-- these numbers more
abbrev pub and_all : Found → List ℕ → Found
and_all f [] = f
and_all f (t ∷ ts) = and_all (and_also f t) ts

pub and_all-more : (ts : List ℕ) → and_all More ts ≡ More
and_all-more [] = refl
and_all-more (t ∷ ts) = and_all-more ts

pub and_all-nothing : (ts : List ℕ) → and_all Nothing ts ≡ found_of ts
and_all-nothing [] = refl
and_all-nothing (t ∷ []) = refl
and_all-nothing (t ∷ u ∷ []) = refl
and_all-nothing (t ∷ u ∷ v ∷ ts) = and_all-more ts

pub range_with_len-step : (k n : ℕ) → k < n → range_with_len k (n - k) ≡ k ∷ range_with_len (k + 1) (n - (k + 1))
range_with_len-step k n h =
    let e : n - k ≡ suc (n - (k + 1)) = omega arith in
    ap (range_with_len k) e

pub range_with_len-end : (k n : ℕ) → n ≤ k → range_with_len k (n - k) ≡ []
range_with_len-end k n h =
    let e : n - k ≡ 0 = omega arith in
    ap (range_with_len k) e

unfoldable pub left : List Triple → ℕ → ℕ → ℕ → List ℕ
left ts a b t = filter (owns ts a b) (range_with_len t (length ts - t))

and_all-cond : (f : Found) (t : ℕ) (ts : List ℕ) (test : Bool) → and_all (cond test (and_also f t) f) ts ≡ and_all f (cond test (t ∷ ts) ts)
and_all-cond f t ts true = refl
and_all-cond f t ts false = refl

-- before the first triangle, over one, and behind the last
pub finds_first : (ts : List Triple) (a b : ℕ) → and_all Nothing (left ts a b 0) ≡ found_of (owners_in ts a b)
unfolding left owners_in
finds_first ts a b =
    let whole : length ts - 0 ≡ length ts = omega arith in
    and_all-nothing (left ts a b 0) ∙ ap (λ n. found_of (filter (owns ts a b) (range_with_len 0 n))) whole

pub finds_next : (ts : List Triple) (a b t : ℕ) (f g whole : Found) → t < length ts → g ≡ cond (owns ts a b t) (and_also f t) f → and_all f (left ts a b t) ≡ whole → and_all g (left ts a b (t + 1)) ≡ whole
unfolding left
finds_next ts a b t f g whole h e was =
    rw e (and_all-cond f t (filter (owns ts a b) (range_with_len (t + 1) (length ts - (t + 1)))) (owns ts a b t) ∙ (sym (ap (λ ns. and_all f (filter (owns ts a b) ns)) (range_with_len-step t (length ts) h)) ∙ was))

pub finds_last : (ts : List Triple) (a b t : ℕ) (f whole : Found) → length ts ≤ t → and_all f (left ts a b t) ≡ whole → f ≡ whole
unfolding left
finds_last ts a b t f whole h was = sym (ap (λ ns. and_all f (filter (owns ts a b) ns)) (range_with_len-end t (length ts) h)) ∙ was
