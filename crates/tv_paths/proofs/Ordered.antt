-- The slices among the keys, by the number of their extras: what is listed and what is left make the whole.
use Rattle.std.proofs.Common.{◌≡◌, ℕ, suc, ◌+◌, ◌-◌, ◌<◌, ℤ, Bool, true, false, ◌&&◌, List, [], ◌++◌, map, arith, refl, sym, ◌∙◌, ap, append_assoc, append-nil}
use Rattle.std.specs.Prelude.{filter}
use Rattle.std.specs.List.{flat_map, range_with_len, AllByRecursion}
use Rattle.std.proofs.lemmas.List.Elements.{filter-append}
use Rattle.tv_lemmas.proofs.Lists.{filter-same_on}
use Rattle.tv_lemmas.proofs.Members.{all-found}
use Rattle.tv_cells.proofs.Diagonals.{numbers-next, numbers-none}
use Rattle.tv_cells.specs.declared.legs.Legs.{Legs}
use Rattle.tv_cells.specs.Extras.{bit, extent, AreDiagrams}
use Rattle.tv_spec_slices.specs.Slices.{Shape, base_at, fits, same_shape}
use Rattle.tv_spec_slices.specs.Paths.{columns, shape, full_of, fitting_by, fitting}
use Rattle.tv_laws_slices.proofs.Once.{once-by}
use Rattle.tv_laws_slices.proofs.Pushed.{own-shape, listed-often}
use Rattle.tv_paths.specs.Among.{is_among, has_extras, behind}
use Rattle.tv_paths.proofs.Behind.{narrowed}

-- those of k to n - 1 extras
pub left_from : List Shape → Legs → ℤ → ℕ → ℕ → List Shape
left_from keys legs t k n = filter (is_among keys) (flat_map (fitting_by legs t) (range_with_len k (n - k)))

pub by-extras : (legs : Legs) (t : ℤ) (m : ℕ) → AreDiagrams legs → AllByRecursion (λ s. has_extras legs t m s ≡ true) (fitting_by legs t m)
by-extras legs t m are = all-found (λ s. has_extras legs t m s ≡ true) same_shape own-shape (fitting_by legs t m) (λ s h. by_test s (fits legs t s) (has_extras legs t m s) refl (listed-often s (fitting_by legs t m) h) (once-by legs t m s are))
  where
    by_test : {n : ℕ} (s : Shape) (p q : Bool) → has_extras legs t m s ≡ q → (n ≡ 0 → ⊥) → n ≡ bit (p && q) → has_extras legs t m s ≡ true
    by_test s true true eq ne e = eq
    by_test s true false eq ne e = absurd (ne e)
    by_test s false q eq ne e = absurd (ne e)

by_number : (keys some : List Shape) (legs : Legs) (t : ℤ) (full base k : ℕ) → AreDiagrams legs → some ≡ filter (has_extras legs t k) keys → full ≡ full_of legs t (extent legs) → base ≡ base_at legs t full →
    behind some full [] (columns legs t full (extent legs + k) (base + k) k) ≡ filter (is_among keys) (fitting_by legs t k)
unfolding behind
by_number keys some legs t full base k are narrow f b =
    ap (λ ks. filter (is_among ks) (listed full base)) narrow ∙ (rw b (rw f (filter-same_on (λ s. has_extras legs t k s ≡ true) (is_among (filter (has_extras legs t k) keys)) (is_among keys) (λ s h. narrowed (has_extras legs t k) s keys h) (fitting_by legs t k) (by-extras legs t k are))))
  where
    listed : ℕ → ℕ → List Shape
    listed f b = map (λ hs. shape f ([] ++ hs)) (columns legs t f (extent legs + k) (b + k) k)

pub slices-next : (keys some : List Shape) (legs : Legs) (t : ℤ) (full base k n : ℕ) (now before whole : List Shape) → AreDiagrams legs → k < n → some ≡ filter (has_extras legs t k) keys → full ≡ full_of legs t (extent legs) → base ≡ base_at legs t full →
    now ≡ before ++ behind some full [] (columns legs t full (extent legs + k) (base + k) k) → before ++ left_from keys legs t k n ≡ whole → now ++ left_from keys legs t (k + 1) n ≡ whole
unfolding left_from
slices-next keys some legs t full base k n now before whole are l narrow f b push far =
    ap (λ ss. ss ++ left_from keys legs t (k + 1) n) (push ∙ ap (λ ss. before ++ ss) (by_number keys some legs t full base k are narrow f b))
    ∙ (append_assoc before (filter (is_among keys) (fitting_by legs t k)) (left_from keys legs t (k + 1) n)
    ∙ (ap (λ ss. before ++ ss) (sym (filter-append (is_among keys) (fitting_by legs t k) (flat_map (fitting_by legs t) (range_with_len (k + 1) (n - (k + 1))))))
    ∙ (ap (λ ks. before ++ filter (is_among keys) (flat_map (fitting_by legs t) ks)) (sym (numbers-next k n l)) ∙ far)))

pub slices-end : (keys : List Shape) (legs : Legs) (t : ℤ) (k n : ℕ) (now whole : List Shape) → k ≡ n → now ++ left_from keys legs t k n ≡ whole → now ≡ whole
unfolding left_from
slices-end keys legs t k n now whole e far =
    sym (append-nil now) ∙ (ap (λ ks. now ++ filter (is_among keys) (flat_map (fitting_by legs t) ks)) (sym (numbers-none n)) ∙ (rw e at far))

pub slices-start : (keys : List Shape) (legs : Legs) (t : ℤ) (budget : ℕ) (now : List Shape) → now ≡ [] → now ++ left_from keys legs t 0 (budget + 1) ≡ filter (is_among keys) (fitting legs t budget)
unfolding left_from
slices-start keys legs t budget now e = let z : (budget + 1) - 0 ≡ suc budget = omega arith in rw (e, z) refl
