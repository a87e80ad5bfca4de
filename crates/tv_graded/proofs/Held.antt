-- A row of a family at the place of its class: its series, and the family after a sum into it.
use Rattle.std.proofs.Common.{◌≡◌, ℕ, ℤ, true, false, List, length, get_or, set, Some, sym, ◌∙◌, ap, subst}
use Rattle.std.specs.List.{insert}
use Rattle.tv_ring.specs.Operations.{Operations, RingLaws}
use Rattle.tv_laws_series.specs.Terms.{Terms}
use Rattle.tv_laws_series.specs.Series.{series_sum, series_cut}
use Rattle.tv_spec_series.specs.Families.{Row, Family, IsRow, IsFamily, IsAddend, row, find, put}
use Rattle.tv_spec_series.proofs.Rows.{found_class, all_rows}
use Rattle.tv_spec_series.proofs.Sums.{added_is_family}
use Rattle.tv_graded.specs.Calls.{IsHeld, IsAddedWide}
use Rattle.tv_laurent.specs.SeriesCalls.{OnWide, IsSumWide}
use Rattle.tv_laurent.specs.declared.fault.SeriesFault.{SeriesFault}
use Rattle.tv_laurent.specs.declared.fault.SeriesFault.TheVariants.{Wide, Memory}
use Rattle.tv_graded.specs.Places.{HaveEntries, is_at, IsPlace}
use Rattle.tv_graded.proofs.Places.{find-place, put-place, put-gap}

pub held_entries : {A : Type 0} {IsValue : A → Type 0} {r : Operations A} (f : Family A) → IsFamily IsValue r f → HaveEntries (length f.heights) f.rows
held_entries {IsValue} {r} f family = all_rows (IsRow IsValue r f.heights f.top f.upto) (λ x. length x.class ≡ length f.heights) f.rows (λ x is. is.place.entries) family.rows

-- the series there is that of the class
pub find-series : {A : Type 0} (hs v : List ℤ) (rows : List (Row A)) (p : ℕ) (x : Row A) (s : Terms A) → IsPlace hs v rows p → is_at v rows p ≡ true → x ≡ get_or rows p x → s ≡ x.series → find v rows ≡ Some (row v s)
find-series hs v rows p x s is here read e =
    let found = find-place hs v rows p x is here read in
    found ∙ ap Some (ap (λ u. row u x.series) (found_class v rows x found) ∙ ap (λ t. row v t) (sym e))

pub put-series : {A : Type 0} (r : Operations A) (hs : List ℤ) (n : ℤ) (v : List ℤ) (s : Terms A) (rows : List (Row A)) (p : ℕ) (x y : Row A) (t sum cut : Terms A) → IsPlace hs v rows p → is_at v rows p ≡ true → x ≡ get_or rows p x → t ≡ x.series →
    sum ≡ series_sum r t s → cut ≡ series_cut n sum → y ≡ row v cut → set rows p y ≡ put r hs n v s rows
put-series r hs n v s rows p x y t sum cut is here read et es ec ey =
    ap (set rows p) (ey ∙ ap (row v) (ec ∙ ap (series_cut n) (es ∙ ap (λ z. series_sum r z s) et))) ∙ sym (put-place r hs n v s rows p x is here read)

pub put-insert : {A : Type 0} (r : Operations A) (hs : List ℤ) (n : ℤ) (v : List ℤ) (s : Terms A) (rows : List (Row A)) (p : ℕ) (y : Row A) (cut : Terms A) → IsPlace hs v rows p → is_at v rows p ≡ false → cut ≡ series_cut n s → y ≡ row v cut → insert rows p y ≡ put r hs n v s rows
put-insert r hs n v s rows p y cut is gap ec ey = ap (insert rows p) (ey ∙ ap (row v) ec) ∙ sym (put-gap r hs n v s rows p is gap)

-- what is kept stays kept
pub added_held : {A : Type 0} {IsValue : A → Type 0} {r : Operations A} (laws : RingLaws IsValue r) (f : Family A) (v : List ℤ) (s : Terms A) (rows : List (Row A)) → IsHeld IsValue r f → IsAddend IsValue r f v s → rows ≡ put r f.heights f.upto v s f.rows → IsHeld IsValue r (record f { rows = rows })
added_held {A} {IsValue} {r} laws f v s rows held addend e =
    let P : List (Row A) → Type 0 = λ zs. IsHeld IsValue r (record f { rows = zs }) in
    subst P (sym e) (record { family = added_is_family laws f v s held.family addend; heights = held.heights })

-- a sum that is too wide is so at its class
pub wide_there : {A : Type 0} (r : Operations A) (hs v : List ℤ) (f : Family A) (p : ℕ) (x : Row A) (s t : Terms A) (e : SeriesFault) → IsPlace hs v f.rows p → is_at v f.rows p ≡ true → x ≡ get_or f.rows p x → t ≡ x.series → OnWide e (IsSumWide r t s) → OnWide e (IsAddedWide r v s f)
wide_there r hs v f p x s t (Wide n) is here read et wide = record { row = row v t; found = find-series hs v f.rows p x t is here read et; wide = wide }
wide_there r hs v f p x s t Memory is here read et wide = tt
