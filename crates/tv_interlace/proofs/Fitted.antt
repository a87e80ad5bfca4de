-- The slices beside one, by the number of their extras: what is listed and what is left make the whole.
use Rattle.std.proofs.Common.{◌≡◌, ℕ, suc, ◌+◌, ◌-◌, ◌<◌, ℤ, pos, ◌+ℤ◌, List, [], ◌++◌, arith, refl, sym, ◌∙◌, ap, append_assoc, append-nil}
use Rattle.std.specs.Prelude.{filter}
use Rattle.std.specs.List.{flat_map, range_with_len}
use Rattle.std.proofs.lemmas.List.Elements.{filter-append}
use Rattle.tv_cells.proofs.Diagonals.{numbers-next, numbers-none}
use Rattle.tv_cells.specs.declared.legs.Legs.{Legs}
use Rattle.tv_cells.specs.Extras.{extent}
use Rattle.tv_spec_slices.specs.Slices.{Shape, base_at, interlaces}
use Rattle.tv_spec_slices.specs.Paths.{columns, full_of, fitting_by, next_of}
use Rattle.tv_interlace.specs.Columns.{behind}

-- those with k to n - 1 extras
pub left_from : Legs → ℤ → ℤ → Shape → ℕ → ℕ → List Shape
left_from legs t u a k n = filter (interlaces t a) (flat_map (fitting_by legs u) (range_with_len k (n - k)))

by_number : (legs : Legs) (t u : ℤ) (a : Shape) (full base k : ℕ) → full ≡ full_of legs u (extent legs) → base ≡ base_at legs u full →
    behind t a full [] (columns legs u full (extent legs + k) (base + k) k) ≡ filter (interlaces t a) (fitting_by legs u k)
unfolding behind
by_number legs t u a full base k f b = rw b (rw f refl)

pub slices-next : (legs : Legs) (t u : ℤ) (a : Shape) (full base k n : ℕ) (now before whole : List Shape) → k < n → full ≡ full_of legs u (extent legs) → base ≡ base_at legs u full →
    now ≡ before ++ behind t a full [] (columns legs u full (extent legs + k) (base + k) k) → before ++ left_from legs t u a k n ≡ whole → now ++ left_from legs t u a (k + 1) n ≡ whole
unfolding left_from
slices-next legs t u a full base k n now before whole l f b push far =
    ap (λ ss. ss ++ left_from legs t u a (k + 1) n) (push ∙ ap (λ ss. before ++ ss) (by_number legs t u a full base k f b))
    ∙ (append_assoc before (filter (interlaces t a) (fitting_by legs u k)) (left_from legs t u a (k + 1) n)
    ∙ (ap (λ ss. before ++ ss) (sym (filter-append (interlaces t a) (fitting_by legs u k) (flat_map (fitting_by legs u) (range_with_len (k + 1) (n - (k + 1))))))
    ∙ (ap (λ ks. before ++ filter (interlaces t a) (flat_map (fitting_by legs u) ks)) (sym (numbers-next k n l)) ∙ far)))

pub slices-end : (legs : Legs) (t u : ℤ) (a : Shape) (k n : ℕ) (now whole : List Shape) → k ≡ n → now ++ left_from legs t u a k n ≡ whole → now ≡ whole
unfolding left_from
slices-end legs t u a k n now whole e far =
    sym (append-nil now) ∙ (ap (λ ks. now ++ filter (interlaces t a) (flat_map (fitting_by legs u) ks)) (sym (numbers-none n)) ∙ (rw e at far))

pub slices-start : (legs : Legs) (t : ℤ) (a : Shape) (budget : ℕ) (now : List Shape) → now ≡ [] → now ++ left_from legs t (t +ℤ pos 1) a 0 (budget + 1) ≡ next_of legs t a budget
unfolding left_from
slices-start legs t a budget now e = let z : (budget + 1) - 0 ≡ suc budget = omega arith in rw (e, z) refl
