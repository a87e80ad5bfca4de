-- Rows, one entry more at a time.
--
-- row-none, row-more  no entry yet, and one entry more
-- row-same            the entries of a row by another rule that gives the same numbers
use Rattle.std.specs.Prelude.{◌≡◌, ℕ, ◌+◌, ◌<◌, ℤ, pos, List, [], ◌∷◌, ◌++◌, length}
use Rattle.std.proofs.Common.{sym, ap, arith, ◌∙◌, inl, inr, length-append}
use Rattle.std.proofs.Math.ListN.{get_or-append}
use Rattle.std.proofs.Math.Seq.{get_or-append_seam}
use Rattle.std.proofs.lemmas.Bool.{cases_lt}
use Rattle.tv_ring.specs.Whole.{wholes}
use Rattle.tv_ring.specs.Sums.{at}
use Rattle.tv_class_integers.specs.Rows.{IsRow}

pub at-front : (row more : List ℤ) (t : ℕ) → t < length row → at wholes (row ++ more) t ≡ at wholes row t
unfolding at
at-front row more t h = get_or-append row more (pos 0) t h

pub at-seam : (row more : List ℤ) (x : ℤ) → at wholes (row ++ x ∷ more) (length row) ≡ x
unfolding at
at-seam row more x = get_or-append_seam row x more (pos 0)

pub row-none : (f : ℕ → ℤ) (row : List ℤ) → row ≡ [] → IsRow 0 f row
row-none f row e = record { count = ap length e; each = λ t h. absurd (omega arith) }

pub row-more : (f : ℕ → ℤ) (k : ℕ) (row next : List ℤ) (x : ℤ) → IsRow k f row → next ≡ row ++ x ∷ [] → x ≡ f k →
    IsRow (k + 1) f next
row-more f k row next x was e here = record {
  count = ap length e ∙ omega (arith, length-append row (x ∷ []), was.count);
  each = λ t h. elim (cases_lt t k) [
    | inl before ↦
        ap (λ z. at wholes z t) e ∙ (at-front row (x ∷ []) t (omega (arith, was.count)) ∙ was.each t before)
    | inr last ↦
        let same : t ≡ length row = omega (arith, was.count) in
        let too : t ≡ k = omega arith in
        ap (λ z. at wholes z t) e ∙
        (ap (λ s. at wholes (row ++ x ∷ []) s) same ∙ (at-seam row [] x ∙ (here ∙ ap f (sym too))))
  ];
}

pub row-same : (f g : ℕ → ℤ) (n : ℕ) (row : List ℤ) → IsRow n f row → ((t : ℕ) → t < n → f t ≡ g t) → IsRow n g row
row-same f g n row was same = record { count = was.count; each = λ t h. was.each t h ∙ same t h }
