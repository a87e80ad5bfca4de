-- A state's family with signs has the signed sums of the state.
use Rattle.std.specs.Prelude.{◌≡◌, Contains, ℕ, zero, suc, ◌+◌, ◌<◌, ◌≤◌, Bool, true, false, cond, nat_eq, ℤ, pos, negsuc, neg_ℤ, ◌+ℤ◌, ◌-ℤ◌, ◌*ℤ◌, ◌≤ℤ◌, List, [], ◌∷◌, ◌++◌, map, length, take, Some, slice_get}
use Rattle.std.specs.Int.{int_min}
use Rattle.std.specs.Ordering.{int_eq}
use Rattle.std.specs.List.{AllByRecursion}
use Rattle.std.proofs.Common.{refl, sym, ap, subst, ◌∙◌, arith, take_all}
use Rattle.std.proofs.lemmas.Int.{ints, clamps}
use Rattle.std.proofs.lemmas.List.{map-append}
use Rattle.std.proofs.lemmas.Option.{slice_get_within}
use Rattle.tv_lemmas.proofs.Members.{all-onto, all-map, all-contains, all-members}
use Rattle.tv_ring.specs.Operations.{Operations, RingLaws}
use Rattle.tv_ring.specs.Sums.{times, whole_times}
use Rattle.tv_ring.proofs.Rings.{neg-nought}
use Rattle.tv_ring.proofs.Times.{whole_times-pos, whole_times-neg}
use Rattle.tv_laws_series.specs.Terms.{Terms, terms, above, upto, listed}
use Rattle.tv_laws_series.proofs.NormalForm.{bool_cases}
use Rattle.tv_laws_series.proofs.Coefficients.{coefficient_below, coefficient_at}
use Rattle.tv_laws_series.proofs.Exponents.{above_adds, above_is}
use Rattle.tv_laws_series.proofs.Listed.{length-listed, at-listed}
use Rattle.tv_spec_plane.specs.Plane.{Point}
use Rattle.tv_spec_plane.specs.Graded.{IsGraded}
use Rattle.tv_spec_plane.specs.Web.{Web, degree_of, parity, class_sign, even_sum}
use Rattle.tv_laws_edges.specs.Rule.{HasEdgeRule}
use Rattle.tv_spec_boxes.specs.Assignments.{Rows, no_legs}
use Rattle.tv_spec_boxes.specs.Classes.{IsClass, IsBefore, ClassesRise}
use Rattle.tv_spec_boxes.specs.Numbers.{lowest}
use Rattle.tv_spec_series.specs.Families.{Row, Family, row, classes, coefficient, put, added, HasPlace, IsRow, IsFamily}
use Rattle.tv_spec_series.specs.Full.{IsFull, IsFullRow}
use Rattle.tv_spec_series.proofs.Order.{comes_before-true, rise_tail, first_before}
use Rattle.tv_spec_series.proofs.Rows.{put-nil, put-before, all_classes}
use Rattle.tv_laws_series.specs.Series.{series_cut}
use Rattle.tv_laws_frontier.specs.Frontier.{state_number, state_sum, kept_upto}
use Rattle.tv_laws_frontier.specs.StateClasses.{HasClass}
use Rattle.tv_laws_frontier.proofs.PartialSums.{kept_are_partial, no_diagrams}
use Rattle.tv_laws_frontier.proofs.Signed.{sign_of_state}
use Rattle.tv_laws_frontier.proofs.StateClasses.{whole_classes}
use Rattle.tv_laws_frontier.proofs.Whole.{whole_is_state}
use Rattle.tv_frontier.specs.Joining.{lowest_kept, IsSpan}
use Rattle.tv_frontier.specs.Sums.{StartsAt}
use Rattle.tv_frontier.specs.Rows.{IsPart}
use Rattle.tv_frontier.specs.Signs.{by_sign, signed_at, signed_terms, signed_row, signed_family}
use Rattle.tv_frontier.specs.Frontiers.{IsPartialRow, IsPartialFamily}
use Rattle.tv_frontier.proofs.Least.{lowest-low}
use Rattle.tv_frontier.proofs.RowAdded.{row-known, row-among}

pub signed_at-is : {A : Type 0} (r : Operations A) (ps : List Point) (v : List ℤ) (s : Terms A) (low : ℤ) (i : ℕ) → signed_at r ps v s low i ≡ by_sign r (class_sign ps v (low +ℤ pos i)) (coefficient r s (low +ℤ pos i))
unfolding signed_at
signed_at-is r ps v s low i = refl

pub signed-plus : {A : Type 0} (r : Operations A) (ps : List Point) (v : List ℤ) (s : Terms A) (low e z : ℤ) (i : ℕ) (x : A) → e ≡ low +ℤ pos i → z ≡ class_sign ps v e → z ≡ pos 1 → x ≡ coefficient r s e → x ≡ signed_at r ps v s low i
signed-plus r ps v s low e z i x at sign one is =
    let on : int_eq (class_sign ps v e) (pos 1) ≡ true = (let same : class_sign ps v e ≡ pos 1 = sym sign ∙ one in grind (arith, ints)) in
    is ∙ (ap (λ b. cond b (coefficient r s e) (r.neg (coefficient r s e))) (sym on) ∙ (ap (λ y. by_sign r (class_sign ps v y) (coefficient r s y)) at ∙ sym (signed_at-is r ps v s low i)))

pub signed-minus : {A : Type 0} (r : Operations A) (ps : List Point) (v : List ℤ) (s : Terms A) (low e z : ℤ) (i : ℕ) (x : A) → e ≡ low +ℤ pos i → z ≡ class_sign ps v e → (z ≡ pos 1 → ⊥) → x ≡ r.neg (coefficient r s e) → x ≡ signed_at r ps v s low i
signed-minus r ps v s low e z i x at sign other is =
    let off : int_eq (class_sign ps v e) (pos 1) ≡ false = apart (class_sign ps v e) (λ same. other (sign ∙ same)) in
    is ∙ (ap (λ b. cond b (coefficient r s e) (r.neg (coefficient r s e))) (sym off) ∙ (ap (λ y. by_sign r (class_sign ps v y) (coefficient r s y)) at ∙ sym (signed_at-is r ps v s low i)))
  where
    apart : (y : ℤ) → (y ≡ pos 1 → ⊥) → int_eq y (pos 1) ≡ false
    apart y differs = bool_cases (int_eq y (pos 1)) (λ e. absurd (differs (grind (arith, ints)))) (λ e. e)

pub signed-written : {A : Type 0} (r : Operations A) (ps : List Point) (n : ℤ) (v : List ℤ) (s t : Terms A) (first : ℤ) (count : ℕ) (items : List A) → first ≡ int_min s.low (n +ℤ pos 1) → count ≡ above first (n +ℤ pos 1) → items ≡ listed (signed_at r ps v s first) count → t ≡ terms first items → t ≡ signed_terms r ps n v s
signed-written r ps n v s t first count items ef ec ei et = et ∙ rw (ei, ec, ef) refl

-- ---- one series

module _ {A : Type 0} (r : Operations A) (ps : List Point) (n : ℤ) (v : List ℤ) (s : Terms A) where
  abbrev low : ℤ
  low = int_min s.low (n +ℤ pos 1)

  signed-length : length (signed_terms r ps n v s).coefficients ≡ above low (n +ℤ pos 1)
  signed-length = length-listed (signed_at r ps v s low) (above low (n +ℤ pos 1))

  pub signed-known : upto (signed_terms r ps n v s) ≡ n
  signed-known = let l = signed-length in let a = above_adds low (n +ℤ pos 1) (omega (arith, ints, clamps)) in omega (arith, ints)

  signed-from : (i : ℤ) (p : ℕ) → i ≡ low +ℤ pos p → p < above low (n +ℤ pos 1) → coefficient r (signed_terms r ps n v s) i ≡ by_sign r (class_sign ps v i) (coefficient r s i)
  signed-from i p e h =
      let q = above low i in
      let adds = above_adds low i (omega (arith, ints)) in
      let same : q ≡ p = omega (arith, ints) in
      coefficient_at r (signed_terms r ps n v s) i (omega (arith, ints))
      ∙ (at-listed r (signed_at r ps v s low) (above low (n +ℤ pos 1)) q (omega arith)
      ∙ (signed_at-is r ps v s low q ∙ ap (λ x. by_sign r (class_sign ps v x) (coefficient r s x)) adds))

module _ {A : Type 0} {IsValue : A → Type 0} {r : Operations A} (laws : RingLaws IsValue r) (ps : List Point) (n : ℤ) (v : List ℤ) (s : Terms A) where
  sign-none : (b : Bool) → cond b r.nought (r.neg r.nought) ≡ r.nought
  sign-none true = refl
  sign-none false = neg-nought laws

  pub signed-coefficient : (i : ℤ) → i ≤ℤ n → coefficient r (signed_terms r ps n v s) i ≡ by_sign r (class_sign ps v i) (coefficient r s i)
  signed-coefficient i within = by_place (i -ℤ int_min s.low (n +ℤ pos 1)) refl
    where
      by_place : (z : ℤ) → i -ℤ int_min s.low (n +ℤ pos 1) ≡ z → coefficient r (signed_terms r ps n v s) i ≡ by_sign r (class_sign ps v i) (coefficient r s i)
      by_place (pos p) e = signed-from r ps n v s i p (omega (arith, ints)) (let a = above_adds (int_min s.low (n +ℤ pos 1)) (n +ℤ pos 1) (omega (arith, ints, clamps)) in omega (arith, ints))
      by_place (negsuc p) e =
          coefficient_below r (signed_terms r ps n v s) i (omega (arith, ints))
          ∙ sym (ap (by_sign r (class_sign ps v i)) (coefficient_below r s i (omega (arith, ints, clamps))) ∙ sign-none (int_eq (class_sign ps v i) (pos 1)))

  negative : (k : ℕ) → negsuc 0 *ℤ pos k ≡ neg_ℤ (pos k)
  negative k = omega (arith, ints)

  positive : (k : ℕ) → pos 1 *ℤ pos k ≡ pos k
  positive k = omega (arith, ints)

  -- a sign is 1 or -1
  sign-times : (b : Bool) (k : ℕ) → by_sign r (cond b (pos 1) (negsuc 0)) (times r k) ≡ whole_times r (cond b (pos 1) (negsuc 0) *ℤ pos k)
  sign-times true k = sym (ap (whole_times r) (positive k) ∙ whole_times-pos r k)
  sign-times false k = sym (ap (whole_times r) (negative k) ∙ (whole_times-neg laws (pos k) ∙ ap r.neg (whole_times-pos r k)))

  pub signed-number : (number : ℤ → ℕ) → ((i : ℤ) → i ≤ℤ n → coefficient r s i ≡ times r (number i)) → (i : ℤ) → i ≤ℤ n → coefficient r (signed_terms r ps n v s) i ≡ whole_times r (class_sign ps v i *ℤ pos (number i))
  signed-number number of i within =
      signed-coefficient i within ∙ (ap (by_sign r (class_sign ps v i)) (of i within) ∙ sign-times (nat_eq (parity (i +ℤ even_sum ps v)) 0) (number i))

-- ---- the rows

pub classes-signed : {A : Type 0} (r : Operations A) (ps : List Point) (n : ℤ) (rows : List (Row A)) → classes (map (signed_row r ps n) rows) ≡ classes rows
classes-signed r ps n [] = refl
classes-signed r ps n (x ∷ rows) = ap (λ vs. x.class ∷ vs) (classes-signed r ps n rows)

put-last : {A : Type 0} (r : Operations A) (hs : List ℤ) (n : ℤ) (v : List ℤ) (s : Terms A) (rows : List (Row A)) → AllByRecursion (λ (x : Row A). IsBefore hs x.class v) rows → put r hs n v s rows ≡ rows ++ row v (series_cut n s) ∷ []
put-last r hs n v s [] all = put-nil r hs n v s
put-last r hs n v s (x ∷ rows) all = put-before r hs n v s x rows (comes_before-true hs x.class v all.0) ∙ ap (λ xs. x ∷ xs) (put-last r hs n v s rows all.1)

before-all : {A : Type 0} (hs : List ℤ) (rows : List (Row A)) (k : ℕ) (x : Row A) → ClassesRise hs (classes rows) → slice_get rows k ≡ Some x → AllByRecursion (λ (y : Row A). IsBefore hs y.class x.class) (take k rows)
before-all hs [] k x rises e = absurd (let l = slice_get_within [] k x e in omega arith)
before-all hs (y ∷ rows) zero x rises e = tt
before-all hs (y ∷ rows) (suc k) x rises e =
    (all-contains (λ (z : Row _). IsBefore hs y.class z.class) rows x (all_classes (IsBefore hs y.class) rows (first_before hs y.class (classes rows) rises)) (row-among rows k x e), before-all hs rows k x (rise_tail hs y.class (classes rows) rises) e)

rows-taken : {A : Type 0} (rows : List (Row A)) (k : ℕ) (x : Row A) → slice_get rows k ≡ Some x → take (k + 1) rows ≡ take k rows ++ x ∷ []
rows-taken [] k x e = absurd (let l = slice_get_within [] k x e in omega arith)
rows-taken (y ∷ rows) zero x e = let same : y ≡ x = cc in ap (λ (z : Row _). z ∷ []) same
rows-taken (y ∷ rows) (suc k) x e = let up : suc k + 1 ≡ suc (k + 1) = omega arith in rw up (ap (λ us. y ∷ us) (rows-taken rows k x e))

cut-same : {A : Type 0} (n : ℤ) (s : Terms A) → upto s ≡ n → series_cut n s ≡ s
cut-same n s e =
    let a = above_is s.low (n +ℤ pos 1) in
    let low : int_min s.low (n +ℤ pos 1) ≡ s.low = omega (arith, ints, clamps) in
    let all : length s.coefficients ≤ above s.low (n +ℤ pos 1) = omega (arith, ints) in
    rw (low, take_all (above s.low (n +ℤ pos 1)) s.coefficients all) refl

pub signed-next : {A : Type 0} (r : Operations A) (ps : List Point) (hs : List ℤ) (n : ℤ) (rows olds news : List (Row A)) (k : ℕ) (x : Row A) (v : List ℤ) (s : Terms A) → ClassesRise hs (classes rows) → slice_get rows k ≡ Some x → v ≡ x.class → s ≡ signed_terms r ps n x.class x.series → olds ≡ map (signed_row r ps n) (take k rows) →
    news ≡ put r hs n v s olds → news ≡ map (signed_row r ps n) (take (k + 1) rows)
signed-next r ps hs n rows olds news k x v s rises e ev es is put_is =
    let t = signed_terms r ps n x.class x.series in
    let before : AllByRecursion (λ (y : Row _). IsBefore hs y.class x.class) (map (signed_row r ps n) (take k rows)) =
    all-map (λ (y : Row _). IsBefore hs y.class x.class) (λ (y : Row _). IsBefore hs y.class x.class) (signed_row r ps n) (λ y b. b) (take k rows) (before-all hs rows k x rises e) in
    put_is ∙ (ap (λ u. put r hs n u s olds) ev ∙ (ap (λ z. put r hs n x.class z olds) es ∙ (ap (put r hs n x.class t) is
    ∙ (put-last r hs n x.class t (map (signed_row r ps n) (take k rows)) before
    ∙ (ap (λ z. map (signed_row r ps n) (take k rows) ++ row x.class z ∷ []) (cut-same n t (signed-known r ps n x.class x.series))
    ∙ (sym (map-append (signed_row r ps n) (take k rows) (x ∷ [])) ∙ ap (map (signed_row r ps n)) (sym (rows-taken rows k x e))))))))

-- ---- the family of a state

module _ {A : Type 0} {IsValue : A → Type 0} {r : Operations A} (laws : RingLaws IsValue r) (w : Web) (d : ℕ) (n : ℤ) (t : ℕ) (k : List Rows) (f : Family A) (graded : IsGraded w) (rule : HasEdgeRule w) (corners : t ≤ length w.triangles) (part : IsPart IsValue r w d n t k f) (reach : n ≤ℤ f.upto) where
  is-row : (x : Row A) → Contains f.rows x → IsRow IsValue r f.heights f.top f.upto x
  is-row x there = all-contains (IsRow IsValue r f.heights f.top f.upto) f.rows x part.family.rows there

  row-most : (x : Row A) → Contains f.rows x → degree_of w.heights x.class ≤ℤ pos d
  row-most x there = rw (← part.shape.heights, ← part.shape.top) (is-row x there).place.within

  row-sum : (x : Row A) → Contains f.rows x → (i : ℤ) → i ≤ℤ n → coefficient r (signed_terms r w.points n x.class x.series) i ≡ whole_times r (state_sum w (no_legs w) d (kept_upto w (no_legs w) d n) t k x.class i)
  row-sum x there i within =
      signed-number laws w.points n x.class x.series (state_number w (no_legs w) d (kept_upto w (no_legs w) d n) t k x.class) (λ z most. row-known r w d n t k f x part there z (omega (arith, ints))) i within
      ∙ ap (whole_times r) (sym (sign_of_state w (no_legs w) d (kept_upto w (no_legs w) d n) t k x.class i rule))

  row-low : (x : Row A) → Contains f.rows x → int_min (lowest w (no_legs w) d) (n +ℤ pos 1) ≤ℤ int_min x.series.low (n +ℤ pos 1)
  row-low x there =
      let starts : lowest_kept w d n ≤ℤ x.series.low = all-contains (StartsAt (lowest_kept w d n)) f.rows x part.low there in
      let none = lowest-low w d in
      omega (arith, ints, clamps)

  rises : ClassesRise w.heights (classes (map (signed_row r w.points n) f.rows))
  rises = subst (λ (vs : List (List ℤ)). ClassesRise w.heights vs) (sym (classes-signed r w.points n f.rows)) (subst (λ (hs : List ℤ). ClassesRise hs (classes f.rows)) part.shape.heights part.family.rises)

  each : AllByRecursion (HasClass w d t k) (classes (map (signed_row r w.points n) f.rows))
  each = subst (AllByRecursion (HasClass w d t k)) (sym (classes-signed r w.points n f.rows)) part.each

  whole : (v : List ℤ) → HasClass w d t k v → Contains (classes (map (signed_row r w.points n) f.rows)) v
  whole v has = subst (λ (vs : List (List ℤ)). Contains vs v) (sym (classes-signed r w.points n f.rows)) (part.whole v has)

  pub partial-family : IsPartialFamily r w d n t k (signed_family r w.points n f)
  partial-family = record {
    heights = part.shape.heights;
    top = part.shape.top;
    upto = refl;
    classes = record { rises = rises; each = each; whole = whole };
    rows = all-map (Contains f.rows) (IsPartialRow r w d n t k) (signed_row r w.points n) (λ x there. record {
      counts = λ i within. row-sum x there i within ∙ ap (whole_times r) (kept_are_partial w d t k x.class i n graded (row-most x there) corners within);
      known = signed-known r w.points n x.class x.series;
      low = row-low x there;
    }) f.rows (all-members f.rows);
  }

pub full-family : {A : Type 0} {IsValue : A → Type 0} {r : Operations A} → RingLaws IsValue r → (w : Web) (d : ℕ) (n : ℤ) (f : Family A) → IsGraded w → HasEdgeRule w → IsPart IsValue r w d n (length w.triangles) [] f → n ≤ℤ f.upto → IsFull r w (no_legs w) d n (signed_family r w.points n f)
full-family {IsValue = IsValue} {r = r} laws w d n f graded rule part reach =
    let last = length w.triangles in
    let here : last ≤ last = omega arith in
    record {
      heights = part.shape.heights;
      top = part.shape.top;
      upto = refl;
      classes = record {
        rises = rises laws w d n last [] f graded rule here part reach;
        each = all-onto (HasClass w d last []) (IsClass w d) (λ v has. (whole_classes w d v).0 has) (classes (map (signed_row r w.points n) f.rows)) (each laws w d n last [] f graded rule here part reach);
        whole = λ v is. whole laws w d n last [] f graded rule here part reach v ((whole_classes w d v).1 is);
      };
      rows = all-map (Contains f.rows) (IsFullRow r w (no_legs w) d n) (signed_row r w.points n) (λ x there. record {
        counts = λ i within. row-sum laws w d n last [] f graded rule here part reach x there i within ∙ ap (whole_times r) (whole_is_state w (no_legs w) d x.class i n graded (no_diagrams w) (row-most laws w d n last [] f graded rule here part reach x there) within);
        known = signed-known r w.points n x.class x.series;
        low = row-low laws w d n last [] f graded rule here part reach x there;
      }) f.rows (all-members f.rows);
    }

-- ---- one row more

pub signed-place : {A : Type 0} {IsValue : A → Type 0} {r : Operations A} (f e : Family A) (k : ℕ) (x : Row A) (v : List ℤ) → IsFamily IsValue r f → slice_get f.rows k ≡ Some x → e.heights ≡ f.heights → e.top ≡ f.top → v ≡ x.class → HasPlace e.heights e.top v
signed-place {IsValue = IsValue} {r = r} f e k x v family there eh et ev =
    let is : IsRow IsValue r f.heights f.top f.upto x = all-contains (IsRow IsValue r f.heights f.top f.upto) f.rows x family.rows (row-among f.rows k x there) in
    subst (λ (u : List ℤ). HasPlace e.heights e.top u) (sym ev) (subst (λ (z : ℤ). HasPlace e.heights z x.class) (sym et) (subst (λ (hs : List ℤ). HasPlace hs f.top x.class) (sym eh) is.place))

pub put-read : {A : Type 0} (r : Operations A) (e f : Family A) (hs : List ℤ) (n : ℤ) (v : List ℤ) (s : Terms A) → f ≡ added r v s e → e.heights ≡ hs → e.upto ≡ n → f.rows ≡ put r hs n v s e.rows
put-read r e f hs n v s is eh eu = ap (λ (z : Family _). z.rows) is ∙ (ap (λ z. put r z e.upto v s e.rows) eh ∙ ap (λ z. put r hs z v s e.rows) eu)

pub signed-all : {A : Type 0} (r : Operations A) (ps : List Point) (n i : ℤ) (f part : Family A) (k : ℕ) → i ≡ n → length part.rows ≤ k → f.heights ≡ part.heights → f.top ≡ part.top → f.upto ≡ i → f.rows ≡ map (signed_row r ps i) (take k part.rows) → f ≡ signed_family r ps n part
signed-all {A = A} r ps n i f part k read past eh et eu er =
    let rows : f.rows ≡ map (signed_row r ps n) part.rows = er ∙ (ap (λ z. map (signed_row r ps z) (take k part.rows)) read ∙ ap (map (signed_row r ps n)) (take_all k part.rows past)) in
    ap {B = Family A} (λ (z : List ℤ). record { heights = z; top = f.top; upto = f.upto; rows = f.rows }) eh
    ∙ (ap {B = Family A} (λ (z : ℤ). record { heights = part.heights; top = z; upto = f.upto; rows = f.rows }) et
    ∙ (ap {B = Family A} (λ (z : ℤ). record { heights = part.heights; top = part.top; upto = z; rows = f.rows }) (eu ∙ read)
    ∙ ap {B = Family A} (λ (z : List (Row A)). record { heights = part.heights; top = part.top; upto = n; rows = z }) rows))

pub low-enough : {A : Type 0} {IsValue : A → Type 0} (r : Operations A) (w : Web) (d : ℕ) (n floor m : ℤ) (t : ℕ) (k : List Rows) (f : Family A) → IsSpan w d n floor m → IsPart IsValue r w d n t k f → AllByRecursion (StartsAt (negsuc 199999999)) f.rows
low-enough r w d n floor m t k f span part = all-onto (StartsAt (lowest_kept w d n)) (StartsAt (negsuc 199999999)) (λ x h. (let e = span.floor in let s = span.small_low in omega (arith, ints))) f.rows part.low
