-- The integers of rows in order: what is true of each, and that they are kept ones.
use Rattle.std.proofs.Common.{◌≡◌, ◌≢◌, inl, inr, ◌<◌, ℤ, pos, List, [], ◌∷◌, ◌++◌, map, refl}
use Rattle.std.specs.List.{AllByRecursion}
use Rattle.tv_lemmas.proofs.Members.{all-append, all-map}
use Rattle.tv_spec_boxes.specs.Classes.{IsBefore, ClassesRise}
use Rattle.tv_spec_series.proofs.Order.{rise_tail, first_before}
use Rattle.tv_spec_katz.specs.Katz.{Integer}
use Rattle.tv_spec_katz.specs.Relations.{IsPositiveClass, ComesLater}
use Rattle.tv_integers.specs.declared.genus_value.GenusValue.{GenusValue}
use Rattle.tv_integers.specs.Kept.{AreKept, integer_at}
use Rattle.tv_integers.specs.Rows.{ClassRow, classes, row_integers, listed, GeneraRise, IsKeptRow}

pub all-row : (P : Integer → Type 0) (v : List ℤ) → ((g : GenusValue) → P (integer_at v g)) → (gs : List GenusValue) → AllByRecursion P (map (integer_at v) gs)
all-row P v here [] = tt
all-row P v here (g ∷ gs) = (here g, all-row P v here gs)

-- true of all integers at classes of which something is true
pub all-listed : (P : Integer → Type 0) (Q : List ℤ → Type 0) → ((v : List ℤ) (g : GenusValue) → Q v → P (integer_at v g)) → (rows : List ClassRow) → AllByRecursion Q (classes rows) → AllByRecursion P (listed rows)
all-listed P Q here [] all = tt
all-listed P Q here (r ∷ rows) all = all-append P (listed rows) (row_integers r) (all-listed P Q here rows all.1) (all-row P r.class (λ g. here r.class g all.0) r.values)

kept-append : (hs : List ℤ) (is js : List Integer) → AreKept hs is → AreKept hs js → AllByRecursion (λ i. AllByRecursion (ComesLater hs i) js) is → AreKept hs (is ++ js)
kept-append hs [] js k k' all = k'
kept-append hs (i ∷ is) js k k' all = (k.0, (all-append (ComesLater hs i) is js k.1.0 all.0, kept-append hs is js k.1.1 k' all.1))

kept_row : (hs v : List ℤ) (gs : List GenusValue) → IsPositiveClass hs v → GeneraRise gs → AllByRecursion (λ (g : GenusValue). g.value ≢ pos 0) gs → AreKept hs (map (integer_at v) gs)
kept_row hs v [] class rise values = tt
kept_row hs v (g ∷ gs) class rise values =
    ((class, values.0), (all-map (λ (h : GenusValue). g.genus < h.genus) (ComesLater hs (integer_at v g)) (integer_at v) (λ h l. inr (refl, l)) gs rise.0, kept_row hs v gs class rise.1 values.1))

pub kept_listed : (hs : List ℤ) (rows : List ClassRow) → ClassesRise hs (classes rows) → AllByRecursion (IsKeptRow hs) rows → AreKept hs (listed rows)
kept_listed hs [] rises each = tt
kept_listed hs (r ∷ rows) rises each =
    kept-append hs (listed rows) (row_integers r) (kept_listed hs rows (rise_tail hs r.class (classes rows) rises) each.1) (kept_row hs r.class r.values each.0.class each.0.rise each.0.values)
    (all-listed (λ i. AllByRecursion (ComesLater hs i) (row_integers r)) (IsBefore hs r.class)
    (λ v g before. all-row (ComesLater hs (integer_at v g)) r.class (λ h. inl before) r.values) rows (first_before hs r.class (classes rows) rises))
