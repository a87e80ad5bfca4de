-- How the sections by residues are printed.
use Rattle.std.proofs.Common.{◌≡◌, ℕ, ◌+◌, ◌<◌, ℤ, pos, ◌+ℤ◌, ◌≤ℤ◌, List, ◌∷◌, ◌++◌, map, length, Some, ◌⊎◌, inl, inr, sym, ap, ◌∙◌, arith, append-nil}
use Rattle.std.specs.List.{flat_map, slice_get, zip}
use Rattle.std.proofs.lemmas.Int.{ints}
use Rattle.std.proofs.lemmas.List.{map-append, length-map}
use Rattle.std.proofs.lemmas.List.FromFn.{filter_of_map_range_with_len_more}
use Rattle.std.proofs.lemmas.Option.{slice_get_within, slice_get-get_or, get_or_from_slice_get}
use Rattle.std.proofs.lemmas.Slice.Zip.{length-zip, get_or-zip}
use Rattle.tv_laws_series.specs.Terms.{Terms, above}
use Rattle.tv_laws_series.proofs.Exponents.{above_is, above_adds}
use Rattle.tv_spec_plane.specs.Web.{degree_of}
use Rattle.tv_spec_series.specs.Families.{Row, row, classes}
use Rattle.tv_spec_text.specs.Lines.{line_text}
use Rattle.tv_spec_text.specs.Reports.{class_line}
use Rattle.tv_spec_reports.specs.Residues.{ResidueTerm, residue_term_line, residue_section_lines}
use Rattle.tv_reports.proofs.Printing.{two_parts}
use Rattle.tv_reports.proofs.ResidueTerms.{here, terms_within}
use Rattle.tv_reports.specs.Configs.{plain_class}
use Rattle.tv_reports.specs.Residues.{has_remainder, told_at, lesser_low, residue_terms_below, residue_section}

-- ---- one exponent more

terms_more : (x y : Terms ℕ) (n : ℤ) → lesser_low x y ≤ℤ n → residue_terms_below x y (n +ℤ pos 1) ≡ residue_terms_below x y n ++ told_at x y n
terms_more x y n h =
    let low = lesser_low x y in
    let k = above low n in
    let next : above low (n +ℤ pos 1) ≡ k + 1 = omega (arith, ints, above_is low n, above_is low (n +ℤ pos 1)) in
    ap (terms_within x y low 0) next ∙ filter_of_map_range_with_len_more has_remainder (here x y low) 0 k k (omega arith)
    ∙ ap (λ m. terms_within x y low 0 k ++ told_at x y m) (above_adds low n h)

abbrev lines_of : List ResidueTerm → List ℕ
lines_of ts = flat_map line_text (map residue_term_line ts)

-- what is printed after the exponents below n
pub record ArePrinted (x y : Terms ℕ) (u n : ℤ) (old now : List ℕ) : Type 0 where
  pub from_low : lesser_low x y ≤ℤ n
  pub through : (n ≤ℤ (u +ℤ pos 1)) ⊎ (n ≡ lesser_low x y)
  pub text : now ≡ old ++ flat_map line_text (map residue_term_line (residue_terms_below x y n))

pub none_printed : (x y : Terms ℕ) (u n : ℤ) (old : List ℕ) → n ≡ lesser_low x y → ArePrinted x y u n old old
none_printed x y u n old e =
    let low = lesser_low x y in
    let none : above low n ≡ 0 = omega (arith, ints, above_is low n) in
    record {
      from_low = omega (arith, ints);
      through = inr e;
      text = sym (append-nil old) ∙ ap (λ k. old ++ lines_of (terms_within x y low 0 k)) (sym none);
    }

pub one_printed : (x y : Terms ℕ) (u n m : ℤ) (old now next : List ℕ) → n ≤ℤ u → m ≡ n +ℤ pos 1 → ArePrinted x y u n old now → next ≡ now ++ flat_map line_text (map residue_term_line (told_at x y n)) → ArePrinted x y u m old next
one_printed x y u n m old now next h e before p =
    let lines = map residue_term_line (residue_terms_below x y n) in
    let here_lines = map residue_term_line (told_at x y n) in
    let more : residue_terms_below x y m ≡ residue_terms_below x y n ++ told_at x y n = ap (residue_terms_below x y) e ∙ terms_more x y n before.from_low in
    let l = before.from_low in
    record {
      from_low = omega (arith, ints);
      through = inl (omega (arith, ints));
      text = two_parts lines here_lines old now next before.text p ∙ ap (λ ls. old ++ flat_map line_text ls) (sym (ap (map residue_term_line) more ∙ map-append residue_term_line (residue_terms_below x y n) (told_at x y n)));
    }

pub all_printed : (x y : Terms ℕ) (u v n : ℤ) (old now : List ℕ) → u ≡ v → (v +ℤ pos 1) ≤ℤ n → ArePrinted x y u n old now → now ≡ old ++ flat_map line_text (map residue_term_line (residue_terms_below x y (v +ℤ pos 1)))
all_printed x y u v n old now e h p =
    let low = lesser_low x y in
    let same : above low n ≡ above low (v +ℤ pos 1) = elim p.through as (λ _. above low n ≡ above low (v +ℤ pos 1)) [
      | inl q ↦ ap (above low) (omega (arith, ints))
      | inr q ↦ omega (arith, ints, above_is low n, above_is low (v +ℤ pos 1))
    ] in
    p.text ∙ ap (λ k. old ++ lines_of (terms_within x y low 0 k)) same

-- ---- one class more

abbrev pub pair_text : List ℤ → ℤ → Row ℕ × Row ℕ → List ℕ
pair_text hs u rows = flat_map line_text (residue_section_lines (residue_section hs u rows))

pub pair_at : {A B : Type 0} (xs : List A) (ys : List B) (k : ℕ) (x : A) (y : B) → slice_get xs k ≡ Some x → slice_get ys k ≡ Some y → slice_get (zip xs ys) k ≡ Some (x, y)
pair_at xs ys k x y e d =
    let i = slice_get_within xs k x e in
    let j = slice_get_within ys k y d in
    let both : k < length (zip xs ys) = omega (arith, length-zip xs ys) in
    slice_get-get_or (zip xs ys) k (x, y) both ∙ ap Some (get_or-zip xs ys k (x, y) i j ∙ cc (get_or_from_slice_get xs k x x e, get_or_from_slice_get ys k y y d))

pub length-classes : (xs : List (Row ℕ)) → length (classes xs) ≡ length xs
length-classes xs = length-map xs (λ (x : Row ℕ). x.class)

-- a class and the terms of both series are printed as the section of the rows
pub entry_told : (old now : List ℕ) (hs : List ℤ) (d m u : ℤ) (v w : List ℤ) (x y : Terms ℕ) → d ≡ degree_of hs v → now ≡ old ++ flat_map line_text (class_line (plain_class d v) ∷ map residue_term_line (residue_terms_below x y (m +ℤ pos 1))) → m ≡ u → now ≡ old ++ pair_text hs u (row v x, row w y)
entry_told old now hs d m u v w x y degree e upto =
    e ∙ ap (λ z. old ++ flat_map line_text (class_line (plain_class z v) ∷ map residue_term_line (residue_terms_below x y (m +ℤ pos 1)))) degree
    ∙ ap (λ n. old ++ flat_map line_text (class_line (plain_class (degree_of hs v) v) ∷ map residue_term_line (residue_terms_below x y (n +ℤ pos 1)))) upto
