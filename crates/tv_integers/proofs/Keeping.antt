-- Rows stay in order when an integer is put in.
use Rattle.std.proofs.Common.{◌≡◌, ◌≢◌, ℕ, suc, ◌<◌, ◌≤◌, ℤ, pos, true, false, nat_eq, nat_lt, List, [], ◌∷◌, length, map, arith, sym, ap, ◌∙◌, subst}
use Rattle.std.specs.List.{AllByRecursion}
use Rattle.tv_lemmas.proofs.Members.{all-onto}
use Rattle.tv_laws_series.proofs.NormalForm.{bool_cases}
use Rattle.tv_spec_boxes.specs.Assignments.{same_vector}
use Rattle.tv_spec_boxes.specs.Classes.{IsBefore, ClassesRise}
use Rattle.tv_spec_series.specs.Families.{comes_before}
use Rattle.tv_spec_series.proofs.Order.{comes_before_tells, after_from, rise_tail, first_before, rise_onto}
use Rattle.tv_spec_katz.specs.Relations.{IsPositiveClass}
use Rattle.tv_integers.specs.declared.genus_value.GenusValue.{GenusValue}
use Rattle.tv_integers.specs.Rows.{ClassRow, classes, put_value, put_row, GeneraRise, IsKeptRow, AreKeptRows}

less : (m n : ℕ) → nat_lt m n ≡ true → m < n
less m n h = grind arith

greater : (m n : ℕ) → nat_lt m n ≡ false → nat_eq m n ≡ false → n < m
greater m n h k = grind arith

equal : (m n : ℕ) → nat_eq m n ≡ true → m ≡ n
equal m n h = grind arith

all-put_value : (P : GenusValue → Type 0) (g : GenusValue) → P g → (gs : List GenusValue) → AllByRecursion P gs → AllByRecursion P (put_value g gs)
all-put_value P g p [] all = (p, tt)
all-put_value P g p (h ∷ gs) all = bool_cases (nat_lt g.genus h.genus)
    (λ l. rw l (p, all))
    (λ l. bool_cases (nat_eq g.genus h.genus) (λ e. rw (l, e) (p, all.1)) (λ e. rw (l, e) (all.0, all-put_value P g p gs all.1)))

some-put : (g : GenusValue) (gs : List GenusValue) → 1 ≤ length (put_value g gs)
some-put g [] = omega arith
some-put g (h ∷ gs) = bool_cases (nat_lt g.genus h.genus)
    (λ l. rw l (omega arith))
    (λ l. bool_cases (nat_eq g.genus h.genus) (λ e. rw (l, e) (omega arith)) (λ e. rw (l, e) (omega arith)))

rise-put : (g : GenusValue) (gs : List GenusValue) → GeneraRise gs → GeneraRise (put_value g gs)
rise-put g [] rise = (tt, tt)
rise-put g (h ∷ gs) rise = bool_cases (nat_lt g.genus h.genus)
    (λ l. let m = less g.genus h.genus l in
    rw l ((m, all-onto (λ (k : GenusValue). h.genus < k.genus) (λ (k : GenusValue). g.genus < k.genus) (λ k n. omega arith) gs rise.0), rise))
    (λ l. bool_cases (nat_eq g.genus h.genus)
    (λ e. let m = equal g.genus h.genus e in
    rw (l, e) (all-onto (λ (k : GenusValue). h.genus < k.genus) (λ (k : GenusValue). g.genus < k.genus) (λ k n. omega arith) gs rise.0, rise.1))
    (λ e. rw (l, e) (all-put_value (λ (k : GenusValue). h.genus < k.genus) g (greater g.genus h.genus l e) gs rise.0, rise-put g gs rise.1)))

module _ (hs v : List ℤ) (g : GenusValue) where
  all-put_row : (P : ClassRow → Type 0) → P (record { class = v; values = g ∷ [] }) → ((r : ClassRow) → P r → P (record r { values = put_value g r.values })) → (rows : List ClassRow) → AllByRecursion P rows → AllByRecursion P (put_row hs v g rows)
  all-put_row P new same [] all = (new, tt)
  all-put_row P new same (r ∷ rows) all = bool_cases (comes_before hs r.class v)
      (λ b. rw b (all.0, all-put_row P new same rows all.1))
      (λ b. bool_cases (same_vector r.class v) (λ e. rw (b, e) (same r all.0, all.1)) (λ e. rw (b, e) (new, all)))

  all-put_classes : (Q : List ℤ → Type 0) → Q v → (rows : List ClassRow) → AllByRecursion Q (classes rows) → AllByRecursion Q (classes (put_row hs v g rows))
  all-put_classes Q q [] all = (q, tt)
  all-put_classes Q q (r ∷ rows) all = bool_cases (comes_before hs r.class v)
      (λ b. rw b (all.0, all-put_classes Q q rows all.1))
      (λ b. bool_cases (same_vector r.class v) (λ e. rw (b, e) all) (λ e. rw (b, e) (q, all)))

  rises-put : (rows : List ClassRow) → AllByRecursion (λ (r : ClassRow). length r.class ≡ length v) rows → ClassesRise hs (classes rows) → ClassesRise hs (classes (put_row hs v g rows))
  rises-put [] lengths rises = tt
  rises-put (r ∷ rows) lengths rises = bool_cases (comes_before hs r.class v)
      (λ b. rw b (rise_onto hs r.class (classes (put_row hs v g rows))
      (all-put_classes (IsBefore hs r.class) (comes_before_tells hs r.class v b) rows (first_before hs r.class (classes rows) rises))
      (rises-put rows lengths.1 (rise_tail hs r.class (classes rows) rises))))
      (λ b. bool_cases (same_vector r.class v) (λ e. rw (b, e) rises) (λ e. rw (b, e) (after_from hs r.class v lengths.0 b e, rises)))

  pub row_lengths : IsPositiveClass hs v → (rows : List ClassRow) → AllByRecursion (IsKeptRow hs) rows → AllByRecursion (λ (r : ClassRow). length r.class ≡ length v) rows
  row_lengths class rows each = all-onto (IsKeptRow hs) (λ (r : ClassRow). length r.class ≡ length v) (λ r k. k.class.entries ∙ sym class.entries) rows each

  pub kept-put : (rows : List ClassRow) → IsPositiveClass hs v → g.value ≢ pos 0 → AreKeptRows hs rows → AreKeptRows hs (put_row hs v g rows)
  kept-put rows class value kept = record {
    heights = kept.heights;
    rises = rises-put rows (row_lengths class rows kept.each) kept.rises;
    each = all-put_row (IsKeptRow hs) (record { class = class; some = omega arith; rise = (tt, tt); values = (value, tt) })
        (λ r k. record { class = k.class; some = some-put g r.values; rise = rise-put g r.values k.rise; values = all-put_value (λ (h : GenusValue). h.value ≢ pos 0) g value r.values k.values })
        rows kept.each;
  }
