-- Two families with the same classes, found out row by row.
use Rattle.std.proofs.Common.{◌≡◌, ℕ, ◌+◌, ◌<◌, ◌≤◌, ℤ, List, [], ◌∷◌, ◌++◌, length, take, get_or, Some, Bool, true, false, not, refl, sym, ap, ◌∙◌, arith}
use Rattle.std.specs.List.{slice_get}
use Rattle.std.specs.Option.{option_map}
use Rattle.std.proofs.lemmas.List.{take_more, take_all}
use Rattle.std.proofs.lemmas.Option.{slice_get-get_or, slice_get-map}
use Rattle.tv_laws_series.specs.Terms.{Terms}
use Rattle.tv_spec_series.specs.Families.{Row, row, classes}
use Rattle.tv_reports.proofs.ResidueLines.{length-classes}

pub class_at : (xs : List (Row ℕ)) (k : ℕ) (v : List ℤ) (s : Terms ℕ) → slice_get xs k ≡ Some (row v s) → slice_get (classes xs) k ≡ Some v
class_at xs k v s e = slice_get-map (λ (x : Row ℕ). x.class) xs k ∙ ap (λ o. option_map (λ (x : Row ℕ). x.class) o) e

more : (vs ws : List (List ℤ)) (k : ℕ) → k < length vs → k < length ws → take k vs ≡ take k ws → slice_get vs k ≡ slice_get ws k → take (k + 1) vs ≡ take (k + 1) ws
more vs ws k h i before here =
    let a = slice_get-get_or vs k [] h in
    let b = slice_get-get_or ws k [] i in
    let same : get_or vs k [] ≡ get_or ws k [] = cc in
    take_more vs k [] h ∙ ap (λ us. us ++ get_or vs k [] ∷ []) before ∙ ap (λ v. take k ws ++ v ∷ []) same ∙ sym (take_more ws k [] i)

pub classes_more : (xs ys : List (Row ℕ)) (k : ℕ) → k < length xs → length xs ≡ length ys → take k (classes xs) ≡ take k (classes ys) → slice_get (classes xs) k ≡ slice_get (classes ys) k → take (k + 1) (classes xs) ≡ take (k + 1) (classes ys)
classes_more xs ys k h same = more (classes xs) (classes ys) k (omega (arith, length-classes xs)) (omega (arith, length-classes ys))

pub classes_all : (xs ys : List (Row ℕ)) (k : ℕ) → length xs ≤ k → length xs ≡ length ys → take k (classes xs) ≡ take k (classes ys) → classes xs ≡ classes ys
classes_all xs ys k h same e = sym (take_all k (classes xs) (omega (arith, length-classes xs))) ∙ e ∙ take_all k (classes ys) (omega (arith, length-classes ys))

pub not_false : (b : Bool) → not b ≡ false → b ≡ true
not_false true e = refl
not_false false e = sym e
