-- What is extracted of the reduced series of a web, and what is told of it.
use Rattle.std.proofs.Common.{◌≡◌, ℕ, ◌<◌, ℤ, pos, ◌*ℤ◌, ◌≤ℤ◌, unsigned_abs, List, length, Result, Ok, Err, inl, inr, refl, sym, subst, arith}
use Rattle.std.proofs.lemmas.Int.{ints}
use Rattle.std.specs.List.{AllByRecursion}
use Rattle.tv_lemmas.specs.Naturals.{as_natural}
use Rattle.tv_lemmas.proofs.Members.{all-onto}
use Rattle.tv_ring.specs.Operations.{limit}
use Rattle.tv_ring.specs.Whole.{wholes}
use Rattle.tv_ring.specs.WholeLaws.{whole_laws}
use Rattle.tv_spec_plane.specs.Graded.{IsGraded}
use Rattle.tv_spec_plane.specs.Limits.{HasCoordinates}
use Rattle.tv_spec_plane.specs.Web.{Web, compact, edge_class, degree_of}
use Rattle.tv_laws_edges.specs.Rule.{HasRule, HasEdgeRule}
use Rattle.tv_degrees.proofs.Bounds.{class_entries-small}
use Rattle.tv_spec_boxes.specs.Assignments.{no_legs}
use Rattle.tv_spec_series.specs.Families.{Family, classes}
use Rattle.tv_spec_series.specs.ReducedFamilies.{IsReducedFamily}
use Rattle.tv_spec_katz.specs.Katz.{Integer}
use Rattle.tv_spec_katz.specs.Integers.{IsCompared, Agrees, IsMismatch}
use Rattle.tv_spec_katz.specs.Majorant.{majorant}
use Rattle.tv_spec_katz.specs.Relations.{IsNormalized, AreIntegers}
use Rattle.tv_laws_families.specs.Laws.{AreAtMost, HasReducedClasses}
use Rattle.tv_laws_families.proofs.ReducedClasses.{reduced_classes}
use Rattle.tv_laws_integers.proofs.Proved.{reduced_is_normalized}
use Rattle.tv_integers.specs.Kept.{Kept}
use Rattle.tv_gv.specs.Extracted.{HasSmallEntries, IsExtractable, HasIntegers, IsTooWide, IsUnequal}
use Rattle.tv_spec_text.specs.Reports.{IsPrintable}
use Rattle.tv_spec_reports.specs.IntegersReport.{TellsIntegers, IsIntegersReport}
use Rattle.tv_reports.proofs.IntegerSections.{text_tells}
use Rattle.tv_text.specs.Refusals.{crowd_line, spread_line, majorant_line, differs_line}
use Rattle.tv_words.specs.Commands.{IsDegree, IsIntegersOrder}
use Rattle.tv_answers.specs.SeriesReport.{IsCrowded, IsSpreadOut}
use Rattle.tv_answers.specs.Integers.{IsMajorantBeyond, IsFirstDifference}
use Rattle.tv_answers.specs.Carried.{IsPrintedWith, PrintsIntegers, CarriesOut, IsCarriedOut, Says}
use Rattle.tv_words.specs.declared.command.Command.TheVariants.{Gv}
use Rattle.tv_answers.specs.declared.answer.Answer.{Answer}
use Rattle.tv_answers.specs.declared.answer.Failure.{Failure}
use Rattle.tv_answers.specs.declared.status.Status.TheVariants.{Wide, Differs}
use Rattle.tv_laws_integers.proofs.AtClasses.{integers_at_classes}

-- ---- a reduced family is one of which integers can be extracted

small_entries : (hs v : List ℤ) → AllByRecursion (λ x. pos (unsigned_abs x) ≤ℤ (pos 402 *ℤ degree_of hs v)) v → HasSmallEntries hs v
small_entries hs v all = all-onto (λ x. pos (unsigned_abs x) ≤ℤ (pos 402 *ℤ degree_of hs v)) (λ x. pos (unsigned_abs x) ≤ℤ (pos 1000000000 *ℤ degree_of hs v)) (λ x h. omega (arith, ints)) v all

edges_small : (w : Web) → AllByRecursion HasCoordinates w.points → HasEdgeRule w → AllByRecursion (λ e. AreAtMost 402 (edge_class w e)) (compact w)
edges_small w small rule = all-onto (HasRule w) (λ e. AreAtMost 402 (edge_class w e)) (λ e r. class_entries-small w e small r) (compact w) rule

-- what is known of the web
pub record IsSuited (w : Web) : Type 0 where
  pub graded : IsGraded w
  pub heights : length w.heights ≡ length w.points
  pub rule : HasEdgeRule w
  pub coordinates : AllByRecursion HasCoordinates w.points

module _ (w : Web) (d : ℕ) (n : ℤ) (f : Family ℤ) (suited : IsSuited w) (degree : IsDegree d) (order : IsIntegersOrder n) (reduced : IsReducedFamily wholes w (no_legs w) d n f) where
  normalized : IsNormalized f.upto f
  normalized = subst (λ m. IsNormalized m f) (sym reduced.upto) (reduced_is_normalized w d n f suited.graded suited.heights (let least = order.0 in omega (arith, ints)) reduced)

  pub extractable : IsExtractable f
  extractable =
      let least = order.0 in let most = order.1 in let low = degree.0 in let high = degree.1 in let u = reduced.upto in let t = reduced.top in
      let found : HasReducedClasses wholes w 402 n f = reduced_classes whole_laws w 402 d n f suited.graded (edges_small w suited.coordinates suited.rule) reduced in
      record {
        least = omega (arith, ints);
        most = omega (arith, ints);
        least_degree = omega (arith, ints);
        most_degree = omega (arith, ints);
        normalized = normalized;
        entries = all-onto (λ v. AllByRecursion (λ x. pos (unsigned_abs x) ≤ℤ (pos 402 *ℤ degree_of w.heights v)) v) (HasSmallEntries f.heights)
            (λ v all. subst (λ hs. HasSmallEntries hs v) (sym reduced.heights) (small_entries w.heights v all)) (classes f.rows) found.entries;
      }

  -- in the degrees that were asked for
  to_degree : (is : List Integer) → AreIntegers (as_natural f.top) f is → AreIntegers d f is
  to_degree is are = subst (λ t. AreIntegers (as_natural t) f is) reduced.top are

  agrees_too : (k : Kept) → HasIntegers f k → (v : List ℤ) (m : ℤ) → IsCompared d n f v m → Agrees f k.integers v m
  agrees_too k has v m c =
      let compared : IsCompared (as_natural f.top) f.upto f v m = subst (λ t. IsCompared (as_natural t) f.upto f v m)
      (sym reduced.top) (subst (λ u. IsCompared d u f v m) (sym reduced.upto) c) in
      has.agrees v m compared

  report : (k : Kept) (text : List ℕ) → IsPrintedWith f k text → IsIntegersReport w d n text
  report k text printed = record {
    family = f;
    reduced = reduced;
    integers = k.integers;
    are = to_degree k.integers printed.integers.are;
    told = integers_at_classes w d n f suited.graded suited.heights (let least = order.0 in omega (arith, ints)) reduced k.integers
        (to_degree k.integers printed.integers.are);
    agrees = agrees_too k printed.integers;
    tells = subst (TellsIntegers d f k.integers) (sym printed.same) (text_tells d f k.integers printed.family reduced.top printed.small);
  }

  -- ---- what is told

  pub gv_carried_out : (k : Kept) (r : Result Answer Failure) → PrintsIntegers f k r → IsCarriedOut (Gv d n) w r
  gv_carried_out k (Ok a) h = subst (λ s. CarriesOut (Gv d n) w s a.text.items) (sym h.0) (report k a.text.items h.1)
  gv_carried_out k (Err e) h = h

  beyond : (v : List ℤ) (m : ℤ) → IsTooWide f v m → IsMajorantBeyond w d n v m
  beyond v m wide = record {
    family = f;
    reduced = reduced;
    integers = wide.integers;
    are = to_degree wide.integers wide.are;
    beyond = subst (λ u. limit < majorant d u f wide.integers v m) reduced.upto
        (subst (λ t. limit < majorant (as_natural t) f.upto f wide.integers v m) reduced.top wide.wide);
  }

  pub majorant_told : (v : List ℤ) (m : ℤ) (r : Result Answer Failure) → IsTooWide f v m → Says r Wide (majorant_line m v) → IsCarriedOut (Gv d n) w r
  majorant_told v m (Ok a) wide h = subst (λ s. CarriesOut (Gv d n) w s a.text.items) (sym h.0) (majorant_line m v, inr (inr (v, (m, beyond v m wide, refl))), h.1)
  majorant_told v m (Err e) wide h = h

  difference : (v : List ℤ) (m x y : ℤ) → IsUnequal f v m x y → IsPrintable x → IsPrintable y → IsFirstDifference w d n v m x y
  difference v m x y unequal small_x small_y = record {
    family = f;
    reduced = reduced;
    integers = unequal.integers;
    are = to_degree unequal.integers unequal.are;
    mismatch = subst (λ u. IsMismatch d u f unequal.integers v m) reduced.upto
        (subst (λ t. IsMismatch (as_natural t) f.upto f unequal.integers v m) reduced.top unequal.mismatch);
    family_has = unequal.family;
    product_has = unequal.katz;
    series_small = small_x;
    product_small = small_y;
  }

  pub difference_told : (v : List ℤ) (m x y : ℤ) (r : Result Answer Failure) → IsUnequal f v m x y → IsPrintable x → IsPrintable y → Says r Differs (differs_line m x y v) → IsCarriedOut (Gv d n) w r
  difference_told v m x y (Ok a) unequal small_x small_y h = subst (λ s. CarriesOut (Gv d n) w s a.text.items) (sym h.0) (differs_line m x y v, record { class = v; exponent = m; series = x; product = y; first = difference v m x y unequal small_x small_y; same = refl }, h.1)
  difference_told v m x y (Err e) unequal small_x small_y h = h

-- ---- what is told where there are no reduced series

pub gv_crowd_told : (w : Web) (d : ℕ) (n : ℤ) (v : List ℤ) (r : Result Answer Failure) → IsCrowded w d n v → Says r Wide (crowd_line v) → IsCarriedOut (Gv d n) w r
gv_crowd_told w d n v (Ok a) crowd h = subst (λ s. CarriesOut (Gv d n) w s a.text.items) (sym h.0) (crowd_line v, inl (v, crowd, refl), h.1)
gv_crowd_told w d n v (Err e) crowd h = h

pub gv_spread_told : (w : Web) (d : ℕ) (n : ℤ) (v : List ℤ) (m : ℤ) (r : Result Answer Failure) → IsSpreadOut w d n v m → Says r Wide (spread_line m v) → IsCarriedOut (Gv d n) w r
gv_spread_told w d n v m (Ok a) out h = subst (λ s. CarriesOut (Gv d n) w s a.text.items) (sym h.0) (spread_line m v, inr (inl (v, (m, out, refl))), h.1)
gv_spread_told w d n v m (Err e) out h = h
