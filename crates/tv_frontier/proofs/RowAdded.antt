-- One class of a state joined and added to the family of the choice after the corner.
use Rattle.std.specs.Prelude.{◌≡◌, Contains, ℕ, zero, suc, ◌+◌, ◌*◌, ◌<◌, ◌≤◌, min, Bool, true, false, cond, int_le, ℤ, pos, ◌+ℤ◌, ◌≤ℤ◌, ◌<ℤ◌, ◌-ℤ◌, negsuc, take, Some, slice_get, List, [], ◌∷◌, ◌++◌, length, unsigned_abs}
use Rattle.std.specs.Int.{int_min}
use Rattle.std.proofs.Common.{refl, sym, ap, subst, ◌∙◌, inl, inr, arith, le_trans, append-nil, append_assoc, add-mul}
use Rattle.std.proofs.Math.Nat.{mul-le-mul}
use Rattle.std.proofs.lemmas.Int.{ints, clamps}
use Rattle.tv_lemmas.specs.Sums.{plus}
use Rattle.tv_ring.specs.Operations.{Operations, RingLaws, SizeLaws, limit}
use Rattle.tv_ring.specs.Sums.{times, whole_times}
use Rattle.tv_ring.proofs.Times.{times-none, whole_times-pos}
use Rattle.tv_ring.proofs.Sizes.{size-whole_times}
use Rattle.tv_laws_series.specs.Terms.{Terms, upto, known, from}
use Rattle.tv_laws_series.specs.Series.{IsSeries}
use Rattle.tv_laws_series.proofs.Exponents.{above_is}
use Rattle.tv_laws_series.proofs.Coefficients.{coefficient-from, coefficient_beyond}
use Rattle.tv_laurent.proofs.SeriesCalls.{sum_size_is}
use Rattle.tv_graded.specs.Calls.{IsAddedWide}
use Rattle.tv_spec_plane.specs.Graded.{IsGraded}
use Rattle.tv_spec_plane.specs.Web.{Web, degree_of}
use Rattle.std.specs.List.{AllByRecursion}
use Rattle.tv_lattice.specs.Limits.{HasCoordinates}
use Rattle.tv_lattice.specs.Classes.{IsEntry}
use Rattle.tv_laws_edges.specs.Rule.{HasEdgeRule}
use Rattle.tv_assignment.proofs.Listed.{listed-few}
use Rattle.tv_degrees.specs.Grades.{IsHeighted}
use Rattle.tv_cells.specs.declared.legs.Legs.{Legs}
use Rattle.tv_spec_boxes.specs.Assignments.{Rows, no_legs, class_of, class_difference, same_vector}
use Rattle.tv_spec_boxes.specs.Numbers.{crowd}
use Rattle.tv_spec_boxes.proofs.Vectors.{same_vector-same, length-class_of, length-plus}
use Rattle.tv_spec_series.specs.Families.{Row, Family, classes, added, coefficient, series_coefficient, coefficient_of, HasPlace, IsRow, IsAddend}
use Rattle.tv_spec_series.proofs.Rows.{found_all, all_classes}
use Rattle.tv_spec_series.proofs.Members.{row_found}
use Rattle.std.proofs.lemmas.Option.{slice_get_within, get_or_from_slice_get}
use Rattle.tv_lemmas.proofs.Members.{all-contains}
use Rattle.tv_laws_frontier.proofs.Signed.{state_within}
use Rattle.tv_laws_frontier.specs.Frontier.{kept_upto, state_number}
use Rattle.tv_laws_frontier.specs.Steps.{new_part}
use Rattle.tv_laws_frontier.specs.StateClasses.{HasClass}
use Rattle.tv_laws_frontier.proofs.StateClasses.{classes_step}
use Rattle.tv_assigned_series.specs.FamilyFaults.{IsCrowded}
use Rattle.tv_frontier.specs.Joining.{lowest_kept, IsStage, IsJoin, Reaches, IsOfState, join_number, IsJoined}
use Rattle.tv_frontier.specs.Sums.{Addend, added_up}
use Rattle.tv_frontier.specs.Rows.{after_of, target, addend_of, row_addends, sizes_up, HasRoom, HasShape, Holding, KeepsRows, IsCrowdedBy, IsPart}
use Rattle.tv_frontier.proofs.Classes.{class-listed, class-small, sum-entries, class-place, difference-plus}
use Rattle.tv_frontier.proofs.Held.{holds-more}

-- ---- sizes of sums

sizes-append : (front : List Addend) (a : Addend) (v : List ℤ) (i : ℤ) → sizes_up (front ++ a ∷ []) v i ≡ sizes_up front v i + cond (same_vector a.class v) (unsigned_abs (a.number i)) 0
unfolding sizes_up
sizes-append [] a v i = omega arith
sizes-append (b ∷ front) a v i = let rest = sizes-append front a v i in omega arith

pub sizes-front : (front later : List Addend) (v : List ℤ) (i : ℤ) → sizes_up front v i ≤ sizes_up (front ++ later) v i
unfolding sizes_up
sizes-front [] later v i = omega arith
sizes-front (b ∷ front) later v i = let rest = sizes-front front later v i in omega arith

pub added-size : (front : List Addend) (v : List ℤ) (i : ℤ) → unsigned_abs (added_up front v i) ≤ sizes_up front v i
unfolding added_up sizes_up
added-size [] v i = omega arith
added-size (a ∷ front) v i = by_test (same_vector a.class v) (added-size front v i)
  where
    by_test : (b : Bool) → unsigned_abs (added_up front v i) ≤ sizes_up front v i → unsigned_abs (cond b (a.number i) (pos 0) +ℤ added_up front v i) ≤ cond b (unsigned_abs (a.number i)) 0 + sizes_up front v i
    by_test true rest = omega (arith, ints)
    by_test false rest = omega (arith, ints)

pub room-front : (w : Web) (d : ℕ) (n : ℤ) (front later : List Addend) → HasRoom w d n (front ++ later) → HasRoom w d n front
room-front w d n front later room v i most within = le_trans (sizes-front front later v i) (room v i most within)

-- ---- one row

row-one : (w : Web) (d : ℕ) (n : ℤ) (t : ℕ) (h g : List Rows) (u : List ℤ) → degree_of w.heights (target w t g u) ≤ℤ pos d → row_addends w d n t h g (u ∷ []) ≡ addend_of w d n t h g (target w t g u) ∷ []
unfolding row_addends
row-one w d n t h g u most = let on : int_le (degree_of w.heights (target w t g u)) (pos d) ≡ true = grind (arith, ints) in rw on refl

row-none : (w : Web) (d : ℕ) (n : ℤ) (t : ℕ) (h g : List Rows) (u : List ℤ) → pos d <ℤ degree_of w.heights (target w t g u) → row_addends w d n t h g (u ∷ []) ≡ []
unfolding row_addends
row-none w d n t h g u most = let off : int_le (degree_of w.heights (target w t g u)) (pos d) ≡ false = grind (arith, ints) in rw off refl

-- a place that both series know is no further than either does
place-known : {A : Type 0} (m i n : ℤ) (p : ℕ) (t : Terms A) → m ≤ℤ t.low → p < known m t → upto t ≡ n → i ≡ m +ℤ pos p → i ≤ℤ n
place-known m i n p t low h last e = omega (arith, ints, above_is m t.low)

bounded : (x y p q u c : ℕ) → x ≤ p * u → y ≤ q * u → p + q ≤ c → x + y ≤ c * u
bounded x y p q u c h k within = let both : (p + q) * u ≤ c * u = mul-le-mul within (let same : u ≤ u = omega arith in same) in let parts : (p + q) * u ≡ p * u + q * u = add-mul p q u in omega arith

size-within : {A : Type 0} {IsValue : A → Type 0} {r : Operations A} → RingLaws IsValue r → SizeLaws IsValue r → (z : ℤ) (x : A) (p : ℕ) → x ≡ whole_times r z → unsigned_abs z ≤ p → r.size x ≤ p * r.size r.unit
size-within {r = r} laws sizes z x p e h =
    let both : unsigned_abs z * r.size r.unit ≤ p * r.size r.unit = mul-le-mul h (let same : r.size r.unit ≤ r.size r.unit = omega arith in same) in
    rw e (le_trans (size-whole_times laws sizes z) both)

module _ {A : Type 0} {IsValue : A → Type 0} {r : Operations A} (laws : RingLaws IsValue r) {w : Web} {d : ℕ} {n floor m : ℤ} {t : ℕ} {h g : List Rows} {legs : Legs} {class near : List ℤ} {shift : ℤ} (graded : IsGraded w) (heighted : IsHeighted w) (stage : IsStage w d n floor m t) (join : IsJoin w d t h g legs class near shift) (u : List ℤ) (has : HasClass w d t h u) where
  pub long : length u ≡ length class
  long =
      let of = class-listed w d t h u has in
      ap length (sym of.class) ∙ (length-class_of w has.witness ∙ (sym (length-class_of w (new_part w t g)) ∙ ap length (sym join.class)))

  module _ (v : List ℤ) (sum : v ≡ plus u class) where
    pub target-long : length v ≡ length w.points
    target-long = ap length sum ∙ (length-plus u class long ∙ (ap length join.class ∙ length-class_of w (new_part w t g)))

    pub target-small : AllByRecursion HasCoordinates w.points → HasEdgeRule w → AllByRecursion IsEntry (plus u class)
    target-small coordinates rule =
        let of = class-listed w d t h u has in
        sum-entries u class (class-small w d u has.witness coordinates rule (le_trans (listed-few w d has.witness graded of.among) stage.degree) of.class) join.entries

    goes-to : v ≡ target w t g u
    goes-to = sum ∙ ap (plus u) join.class

    pub left-is : class_difference v class ≡ u
    left-is = ap (λ z. class_difference z class) sum ∙ difference-plus u class long

    pub has-target : degree_of w.heights v ≤ℤ pos d → HasClass w d (suc t) (after_of w t h g) v
    has-target most =
        let left : u ≡ class_difference v (class_of w (new_part w t g)) = sym left-is ∙ ap (class_difference v) join.class in
        (classes_step w d t (after_of w t h g) v graded most stage.corner).1 (record {
          first = h;
          new = g;
          listed_first = join.first;
          listed_new = join.new;
          after = refl;
          class = subst (HasClass w d t h) left has;
        })

    pub skipped : (front : List Addend) (f : Family A) → pos d <ℤ degree_of w.heights v → Holding IsValue r w d n (suc t) (after_of w t h g) front f → Holding IsValue r w d n (suc t) (after_of w t h g) (front ++ row_addends w d n t h g (u ∷ [])) f
    skipped front f great held =
        let none : row_addends w d n t h g (u ∷ []) ≡ [] = row-none w d n t h g u (subst (λ (z : List ℤ). pos d <ℤ degree_of w.heights z) goes-to great) in
        subst (λ (x : List Addend). Holding IsValue r w d n (suc t) (after_of w t h g) x f) (sym (ap (λ x. front ++ x) none ∙ append-nil front)) held

    module _ (most : degree_of w.heights v ≤ℤ pos d) (s : Terms A) (joined : IsJoined r w d n t h g v m s) (f : Family A) (shape : HasShape w d m f) where
      one-addend : row_addends w d n t h g (u ∷ []) ≡ addend_of w d n t h g v ∷ []
      one-addend = row-one w d n t h g u (subst (λ (z : List ℤ). degree_of w.heights z ≤ℤ pos d) goes-to most) ∙ ap (λ z. addend_of w d n t h g z ∷ []) (sym goes-to)

      pub known-far : f.upto ≤ℤ upto s
      known-far = let e = shape.upto in let l = joined.known in omega (arith, ints)

      pub row-place : HasPlace f.heights f.top v
      row-place = rw (shape.heights, shape.top) (class-place w d (suc t) (after_of w t h g) v graded heighted (has-target most))

      is-addend : IsSeries IsValue r s → IsAddend IsValue r f v s
      is-addend series = record { place = row-place; known = known-far; series = series }

      number-is : (i : ℤ) → i ≤ℤ f.upto → coefficient r s i ≡ whole_times r (pos (join_number w d n t h g v i))
      number-is i within = joined.numbers i (let e = shape.upto in omega (arith, ints)) ∙ sym (whole_times-pos r (join_number w d n t h g v i))

      pub row-held : (e : Family A) (front : List Addend) → IsSeries IsValue r s → e ≡ added r v s f → Holding IsValue r w d n (suc t) (after_of w t h g) front f → Holding IsValue r w d n (suc t) (after_of w t h g) (front ++ row_addends w d n t h g (u ∷ [])) e
      row-held e front series is held =
          rw (is, one-addend) (holds-more laws w.heights (pos d) f.upto (lowest_kept w d n) (HasClass w d (suc t) (after_of w t h g)) front (addend_of w d n t h g v) s f held (is-addend series) number-is (has-target most) joined.low (let e = shape.upto in let l = stage.floor in let k = stage.rises in omega (arith, ints)))

      pub row-crowded : SizeLaws IsValue r → (front : List Addend) (i : ℤ) → Holding IsValue r w d n (suc t) (after_of w t h g) front f → HasRoom w d n (front ++ row_addends w d n t h g (u ∷ [])) → IsAddedWide r v s f i → IsCrowded r w d n v
      row-crowded sizes front i held room wide =
          let x = wide.row.series in let low = int_min x.low s.low in let p = wide.wide.place in
          let first : low ≤ℤ x.low = omega (arith, ints, clamps) in
          let second : low ≤ℤ s.low = omega (arith, ints, clamps) in
          let in_sum : p < min (known low x) (known low s) = wide.wide.within in
          let there_row : IsRow IsValue r f.heights f.top f.upto wide.row = found_all (IsRow IsValue r f.heights f.top f.upto) v f.rows wide.row held.family.rows wide.found in
          let through : i ≤ℤ f.upto = place-known low i f.upto p x first (omega arith) there_row.known wide.wide.exponent in
          let within : i ≤ℤ kept_upto w (no_legs w) d n = (let e = shape.upto in let k = stage.upto in omega (arith, ints)) in
          let here : coefficient r s i ≡ from r low s p = ap (coefficient r s) wide.wide.exponent ∙ coefficient-from r low s p second in
          let there : coefficient_of r f v i ≡ from r low x p = ap (series_coefficient r i) wide.found ∙ (ap (coefficient r x) wide.wide.exponent ∙ coefficient-from r low x p first) in
          let both : limit < r.size (coefficient_of r f v i) + r.size (coefficient r s i) = rw (there, here, ← sum_size_is r (from r low x) (from r low s) p) wide.wide.wide in
          let held_size : r.size (coefficient_of r f v i) ≤ sizes_up front v i * r.size r.unit = size-within laws sizes (added_up front v i) (coefficient_of r f v i) (sizes_up front v i) (held.numbers v i through) (added-size front v i) in
          let row_size : r.size (coefficient r s i) ≤ join_number w d n t h g v i * r.size r.unit = size-within laws sizes (pos (join_number w d n t h g v i)) (coefficient r s i) (join_number w d n t h g v i) (number-is i through) (omega arith) in
          let parts : sizes_up (front ++ row_addends w d n t h g (u ∷ [])) v i ≡ sizes_up front v i + join_number w d n t h g v i =
          ap (λ z. sizes_up (front ++ z) v i) one-addend ∙ (sizes-append front (addend_of w d n t h g v) v i ∙ ap (λ b. sizes_up front v i + cond b (join_number w d n t h g v i) 0) (same_vector-same v)) in
          let most_all = room v i most within in
          le_trans both (bounded (r.size (coefficient_of r f v i)) (r.size (coefficient r s i)) (sizes_up front v i) (join_number w d n t h g v i) (r.size r.unit) (crowd w (no_legs w) d n v) held_size row_size (omega arith))

-- ---- rows one after the other

rows-append : (w : Web) (d : ℕ) (n : ℤ) (t : ℕ) (h g : List Rows) (us vs : List (List ℤ)) → row_addends w d n t h g (us ++ vs) ≡ row_addends w d n t h g us ++ row_addends w d n t h g vs
unfolding row_addends
rows-append w d n t h g [] vs = refl
rows-append w d n t h g (u ∷ us) vs = by_test (int_le (degree_of w.heights (target w t g u)) (pos d)) (rows-append w d n t h g us vs)
  where
    by_test : (b : Bool) → row_addends w d n t h g (us ++ vs) ≡ row_addends w d n t h g us ++ row_addends w d n t h g vs →
        cond b (addend_of w d n t h g (target w t g u) ∷ row_addends w d n t h g (us ++ vs)) (row_addends w d n t h g (us ++ vs))
        ≡ cond b (addend_of w d n t h g (target w t g u) ∷ row_addends w d n t h g us) (row_addends w d n t h g us) ++ row_addends w d n t h g vs
    by_test true e = ap (λ z. addend_of w d n t h g (target w t g u) ∷ z) e
    by_test false e = e

rows-nil : (w : Web) (d : ℕ) (n : ℤ) (t : ℕ) (h g : List Rows) → row_addends w d n t h g [] ≡ []
unfolding row_addends
rows-nil w d n t h g = refl

module _ {A : Type 0} (IsValue : A → Type 0) (r : Operations A) (w : Web) (d : ℕ) (n : ℤ) (t : ℕ) (h g : List Rows) where
  pub rows-none : (f : Family A) → KeepsRows IsValue r w d n t h g [] f f
  rows-none f front held = subst (λ (x : List Addend). Holding IsValue r w d n (suc t) (after_of w t h g) x f) (sym (ap (λ x. front ++ x) (rows-nil w d n t h g) ∙ append-nil front)) held

  front-next : (us : List (List ℤ)) (u : List ℤ) (front : List Addend) → (front ++ row_addends w d n t h g us) ++ row_addends w d n t h g (u ∷ []) ≡ front ++ row_addends w d n t h g (us ++ u ∷ [])
  front-next us u front = append_assoc front (row_addends w d n t h g us) (row_addends w d n t h g (u ∷ [])) ∙ ap (λ x. front ++ x) (sym (rows-append w d n t h g us (u ∷ [])))

  pub rows-next : (us vs : List (List ℤ)) (u : List ℤ) (f e x : Family A) → vs ≡ us ++ u ∷ [] → KeepsRows IsValue r w d n t h g us f e → KeepsRows IsValue r w d n t h g (u ∷ []) e x → KeepsRows IsValue r w d n t h g vs f x
  rows-next us vs u f e x is before one front held =
      subst (λ (z : List Addend). Holding IsValue r w d n (suc t) (after_of w t h g) z x) (front-next us u front ∙ ap (λ z. front ++ row_addends w d n t h g z) (sym is)) (one (front ++ row_addends w d n t h g us) (before front held))

  pub rows-crowded : (us later all : List (List ℤ)) (u v : List ℤ) (f e : Family A) → all ≡ (us ++ u ∷ []) ++ later → KeepsRows IsValue r w d n t h g us f e → IsCrowdedBy IsValue r w d n t h g (u ∷ []) e v → IsCrowdedBy IsValue r w d n t h g all f v
  rows-crowded us later all u v f e is before one front held room =
      let whole : front ++ row_addends w d n t h g all ≡ (front ++ row_addends w d n t h g (us ++ u ∷ [])) ++ row_addends w d n t h g later =
      ap (λ z. front ++ row_addends w d n t h g z) is ∙ (ap (λ z. front ++ z) (rows-append w d n t h g (us ++ u ∷ []) later) ∙ sym (append_assoc front (row_addends w d n t h g (us ++ u ∷ [])) (row_addends w d n t h g later))) in
      let fits = room-front w d n (front ++ row_addends w d n t h g (us ++ u ∷ [])) (row_addends w d n t h g later) (subst (HasRoom w d n) whole room) in
      one (front ++ row_addends w d n t h g us) (before front held) (subst (HasRoom w d n) (sym (front-next us u front)) fits)

-- a row of a state has the state's numbers at its class, as far as the state is known
module _ {A : Type 0} {IsValue : A → Type 0} (r : Operations A) (w : Web) (d : ℕ) (n : ℤ) (t : ℕ) (k : List Rows) (f : Family A) (x : Row A) (part : IsPart IsValue r w d n t k f) (there : Contains f.rows x) where
  is-row : IsRow IsValue r f.heights f.top f.upto x
  is-row = all-contains (IsRow IsValue r f.heights f.top f.upto) f.rows x part.family.rows there

  pub row-known : IsOfState r w d n t k x.class f.upto x.series
  row-known i within =
      let most : degree_of w.heights x.class ≤ℤ pos d = rw (← part.shape.heights, ← part.shape.top) is-row.place.within in
      sym (ap (series_coefficient r i) (row_found f.heights f.rows x part.family.rises there)) ∙ part.numbers x.class i within most

  -- and everywhere, where it is known through the greatest exponent kept
  row-whole : f.upto ≡ kept_upto w (no_legs w) d n → (i : ℤ) → coefficient r x.series i ≡ times r (state_number w (no_legs w) d (kept_upto w (no_legs w) d n) t k x.class i)
  row-whole whole i = by_place (i -ℤ f.upto) refl
    where
      by_place : (z : ℤ) → i -ℤ f.upto ≡ z → coefficient r x.series i ≡ times r (state_number w (no_legs w) d (kept_upto w (no_legs w) d n) t k x.class i)
      by_place (pos (suc z)) e =
          let last : upto x.series ≡ f.upto = is-row.known in
          coefficient_beyond r x.series i (omega (arith, ints))
          ∙ sym (ap (times r) (state_within w (no_legs w) d (kept_upto w (no_legs w) d n) t k x.class i (inl (omega (arith, ints)))) ∙ times-none r)
      by_place (pos zero) e = row-known i (omega (arith, ints))
      by_place (negsuc z) e = row-known i (omega (arith, ints))

  pub row-of-state : (m s : ℤ) → Reaches w d n f.upto m s → IsOfState r w d n t k x.class (m -ℤ s) x.series
  row-of-state m s reaches i within = elim reaches [ inl whole ↦ row-whole whole i | inr far ↦ row-known i (omega (arith, ints)) ]

pub row-has : {A : Type 0} {IsValue : A → Type 0} (r : Operations A) (w : Web) (d : ℕ) (n : ℤ) (t : ℕ) (k : List Rows) (f : Family A) (x : Row A) → IsPart IsValue r w d n t k f → Contains f.rows x → HasClass w d t k x.class
row-has r w d n t k f x part there = all-contains (λ (y : Row _). HasClass w d t k y.class) f.rows x (all_classes (HasClass w d t k) f.rows part.each) there

-- row number k
pub row-taken : {A : Type 0} (rows : List (Row A)) (k : ℕ) (x : Row A) → slice_get rows k ≡ Some x → take (k + 1) (classes rows) ≡ take k (classes rows) ++ x.class ∷ []
row-taken [] k x e = absurd (let l = slice_get_within [] k x e in omega arith)
row-taken (y ∷ rows) zero x e = let same : y ≡ x = cc in ap (λ (z : Row _). z.class ∷ []) same
row-taken (y ∷ rows) (suc k) x e = let up : suc k + 1 ≡ suc (k + 1) = omega arith in rw up (ap (λ us. y.class ∷ us) (row-taken rows k x e))

pub row-among : {A : Type 0} (rows : List (Row A)) (k : ℕ) (x : Row A) → slice_get rows k ≡ Some x → Contains rows x
row-among rows k x e = let h = slice_get_within rows k x e in (k, h, get_or_from_slice_get rows k x x e)
