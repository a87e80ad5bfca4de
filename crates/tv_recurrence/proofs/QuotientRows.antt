-- Rows of quotients, one more at a time.
--
-- quotients-none, quotients-more  no number yet, and one number more
use Rattle.std.specs.Prelude.{◌≡◌, ℕ, ◌+◌, ◌<◌, ℤ, pos, ◌*ℤ◌, List, [], ◌∷◌, ◌++◌, length}
use Rattle.std.proofs.Common.{sym, ap, arith, ◌∙◌, inl, inr, length-append}
use Rattle.std.proofs.Math.ListN.{get_or-append}
use Rattle.std.proofs.Math.Seq.{get_or-append_seam}
use Rattle.std.proofs.lemmas.Bool.{cases_lt}
use Rattle.tv_ring.specs.Whole.{wholes}
use Rattle.tv_ring.specs.Sums.{at}
use Rattle.tv_recurrence.specs.Parts.{Addends, parts_total}
use Rattle.tv_recurrence.specs.Rows.{IsQuotientRow}

at-front : (row : List ℤ) (x : ℤ) (t : ℕ) → t < length row → at wholes (row ++ x ∷ []) t ≡ at wholes row t
unfolding at
at-front row x t h = get_or-append row (x ∷ []) (pos 0) t h

at-last : (row : List ℤ) (x : ℤ) → at wholes (row ++ x ∷ []) (length row) ≡ x
unfolding at
at-last row x = get_or-append_seam row x [] (pos 0)

pub quotients-none : (d : ℕ) (xs : List Addends) (row : List ℤ) → row ≡ [] → IsQuotientRow d xs 0 row
quotients-none d xs row e = record { count = ap length e; each = λ t h. absurd (omega arith) }

pub quotients-more : (d : ℕ) (xs : List Addends) (k : ℕ) (row next : List ℤ) (x : ℤ) → IsQuotientRow d xs k row →
    next ≡ row ++ x ∷ [] → pos d *ℤ x ≡ parts_total k xs → IsQuotientRow d xs (k + 1) next
quotients-more d xs k row next x was e here = record {
  count = ap length e ∙ omega (arith, length-append row (x ∷ []), was.count);
  each = λ t h. elim (cases_lt t k) [
    | inl before ↦
        ap (λ z. pos d *ℤ at wholes z t) e ∙
        (ap (λ z. pos d *ℤ z) (at-front row x t (omega (arith, was.count))) ∙ was.each t before)
    | inr last ↦
        let same : t ≡ length row = omega (arith, was.count) in
        let too : t ≡ k = omega arith in
        ap (λ z. pos d *ℤ at wholes z t) e ∙
        (ap (λ s. pos d *ℤ at wholes (row ++ x ∷ []) s) same ∙
        (ap (λ z. pos d *ℤ z) (at-last row x) ∙ (here ∙ ap (λ s. parts_total s xs) (sym too))))
  ];
}
