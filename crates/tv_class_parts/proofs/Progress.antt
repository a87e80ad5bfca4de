-- Classes read one after another, to the end or to the first fault.
--
-- IsFront js ks     == the list ks ends with js
-- front-genus, front-down, front-class, front-classes  what is read further stands in front
-- next-of           the next class of a list that is under way
-- Final, final-of   all integers, and what they have in front of those so far
-- steps_on, ends_well, parts_are_wide, reading_is_wide, difference_is_seen  the laws
use Rattle.std.specs.Prelude.{◌≡◌, ◌≢◌, ◌⊎◌, Contains, ℕ, zero, suc, ◌*◌, ◌<◌, ◌≤◌, ℤ, pos, ◌+ℤ◌, ◌*ℤ◌, ◌≤ℤ◌, List, [], ◌∷◌, ◌++◌}
use Rattle.std.specs.List.{AllByRecursion}
use Rattle.std.proofs.Common.{refl, sym, ap, arith, ◌∙◌, inl, inr, append_assoc, append-nil}
use Rattle.std.proofs.lemmas.Int.{ints}
use Rattle.std.proofs.lemmas.List.Elements.{Contains-append_right, Contains-append_cases}
use Rattle.tv_lemmas.proofs.Members.{all-onto, all-append, all-contains, contains-head, contains-cases}
use Rattle.tv_ring.specs.Operations.{limit}
use Rattle.tv_spec_boxes.specs.Classes.{IsBefore}
use Rattle.tv_spec_series.specs.Families.{Family}
use Rattle.tv_spec_katz.specs.Katz.{Integer}
use Rattle.tv_spec_katz.specs.Integers.{with_integer, read_genus, read_down, read_class, read_classes, new_integer, first_genus}
use Rattle.tv_spec_katz.specs.Majorant.{greatest_slope, majorant}
use Rattle.tv_laws_integers.specs.Closed.{IsClassTo, IsClosedList}
use Rattle.tv_laws_integers.specs.Reading.{AgreesThrough, IsBegun, IsSeen}
use Rattle.tv_laws_integers.specs.Laws.{GoesOn}
use Rattle.tv_laws_integers.proofs.Existence.{before_back, agrees_through}
use Rattle.tv_laws_integers.proofs.Mismatches.{normal_through, mismatch_at, mismatch_of}
use Rattle.tv_laws_integers.proofs.Proved.{integers_go_on, slope_of_series}
use Rattle.tv_recurrence.specs.Parts.{parts_size}
use Rattle.tv_recurrence.specs.Products.{exponent_at}
use Rattle.tv_recurrence.proofs.KatzTotals.{sizes_of_katz_parts}
use Rattle.tv_class_integers.specs.Readings.{sign_at}
use Rattle.tv_class_integers.specs.Differences.{AgreeBelow}
use Rattle.tv_class_integers.specs.NextClasses.{series_by_weight, read_onto, product_after, IsNextClass, IsLastOf}
use Rattle.tv_class_integers.proofs.NextClass.{class_is_read, classes_keep, product-read, from-weight, class_agrees, difference_is_first}
use Rattle.tv_class_integers.proofs.Majorants.{size_is_majorant, bound_is_majorant}
use Rattle.tv_class_parts.specs.ReadClasses.{ReadClass, parts_of}
use Rattle.tv_class_parts.specs.Tables.{IsBeforeClass}
use Rattle.tv_class_parts.specs.Progress.{IsLaterRead, IsWidePlace, IsUnequalPlace, StepsOn, EndsWell, PartsAreWide, ReadingIsWide, DifferenceIsSeen}
use Rattle.tv_class_parts.proofs.Tables.{parts_are_katz, table_goes_on}
use Rattle.tv_class_integers.proofs.FirstOrder.{onto-none, onto-one, zero-cases}

pub record IsFront (js ks : List Integer) : Type 0 where
  pub more : List Integer
  pub is : ks ≡ more ++ js

front-same : (js ks : List Integer) → ks ≡ js → IsFront js ks
front-same js ks e = record { more = []; is = e }

front-trans : (js ks ls : List Integer) → IsFront js ks → IsFront ks ls → IsFront js ls
front-trans js ks ls a b = record {
  more = b.more ++ a.more;
  is = b.is ∙ (ap (λ xs. b.more ++ xs) a.is ∙ sym (append_assoc b.more a.more js));
}

front-integer : (v : List ℤ) (g : ℕ) (x : ℤ) (js : List Integer) → IsFront js (with_integer v g x js)
front-integer v g x js = elim (zero-cases x) [
  | inl none ↦ front-same js (with_integer v g x js) (onto-none v g x js none)
  | inr off ↦ record { more = record { class = v; genus = g; value = x } ∷ []; is = onto-one v g x js off }
]

front-down : (f : Family ℤ) (v : List ℤ) (g : ℕ) (js : List Integer) → IsFront js (read_down f v g js)
front-down f v zero js = front-integer v 0 (new_integer f v 0 js) js
front-down f v (suc g) js =
    let ks = read_genus f v (suc g) js in
    front-trans js ks (read_down f v g ks) (front-integer v (suc g) (new_integer f v (suc g) js) js) (front-down f v g ks)

pub front-classes : (f : Family ℤ) (js : List Integer) (vs : List (List ℤ)) → IsFront js (read_classes f js vs)
front-classes f js [] = front-same js js refl
front-classes f js (v ∷ vs) =
    let ks = read_class f js v in
    front-trans js ks (read_classes f ks vs) (front-down f v (first_genus f v js) js) (front-classes f ks vs)

module _ (D : ℕ) (N : ℤ) (f : Family ℤ) (w T : ℕ) (read back : List (List ℤ)) (is : List Integer) (v : List ℤ) (base : ℕ)
    (ls : List ReadClass) (later : IsLaterRead D N f w T read back is v base ls) where
  abbrev hs : List ℤ
  hs = f.heights

  abbrev is' : List Integer
  is' = read_onto f w base is v

  there : Contains (read ++ v ∷ back) v
  there = Contains-append_right read (v ∷ back) v (contains-head v v back refl)

  after : AllByRecursion (λ u. IsBefore hs u v) read
  after = all-onto (λ u. AllByRecursion (IsBefore hs u) (v ∷ back)) (λ u. IsBefore hs u v) (λ u all. all.0) read
      (before_back hs read (v ∷ back) later.way.closed.rises)

  pub next-of : IsNextClass D f w read is v base
  next-of = record {
    begins = later.way.begins;
    begun = later.way.begun;
    class = all-contains (IsClassTo D hs) (read ++ v ∷ back) v later.way.closed.each there;
    after = after;
    place = later.place;
  }

  pub before-of : IsBeforeClass D f w read back is v base
  before-of = record { next = next-of; closed = later.way.closed }

  joined : read ++ v ∷ back ≡ (read ++ v ∷ []) ++ back
  joined = sym (append_assoc read (v ∷ []) back)

  closed-after : IsClosedList D f ((read ++ v ∷ []) ++ back)
  closed-after = rw joined at later.way.closed

  begun-after' : IsBegun D f (read ++ v ∷ []) is'
  begun-after' = class_is_read D f w read is v base next-of

  goes : GoesOn D f (read ++ v ∷ []) back is'
  goes = integers_go_on D f (read ++ v ∷ []) back is' (normal_through
      (pos 1) N f later.way.far later.way.normalized) closed-after begun-after'

  abbrev final : List Integer
  final = read_classes f is' back

  front : IsFront is' final
  front = front-classes f is' back

  slope-is : greatest_slope hs final ≡ w
  slope-is =
      let high = (slope_of_series D f final w goes.are).1 later.way.begins in
      let low = later.way.least (greatest_slope hs final) ((slope_of_series D f final (greatest_slope hs final) goes.are).0
      (omega arith)) in
      omega arith

  last-of : IsLastOf D N f w is v base front.more
  last-of = record {
    ordered = rw front.is at goes.are.ordered;
    slope = rw front.is at slope-is;
    known = later.way.known v;
  }

  room : (t : ℕ) → t ≤ T → pos t ≤ℤ (N +ℤ pos (w * D))
  room t h = let reach = later.way.reach in omega (arith, ints)

  reading-wide : (t : ℕ) → t ≤ T → limit < majorant D N f (front.more ++ is') v (exponent_at hs w v t) →
      IsWidePlace D N f v (exponent_at hs w v t)
  reading-wide t h wide = record { integers = final; are = goes.are; wide = rw front.is wide }

  -- the product agrees at each class that was read, and at this one
  agrees-on : (end : ℕ) → pos end ≡ (N +ℤ pos base) +ℤ pos 1 →
      AgreeBelow base (series_by_weight f w v) (product_after f w base is v) end →
      AllByRecursion (AgreesThrough N f is') (read ++ v ∷ [])
  agrees-on end e agree = all-append (AgreesThrough N f is') read (v ∷ [])
      (still read later.way.agrees after)
      (class_agrees D f w read is v base N end next-of e agree, tt)
    where
      still : (us : List (List ℤ)) → AllByRecursion (AgreesThrough N f is) us → AllByRecursion (λ u. IsBefore hs u v) us →
          AllByRecursion (AgreesThrough N f is') us
      still [] all order = tt
      still (u ∷ us) all order =
          ((λ n h. classes_keep D f w read is v base next-of u n order.0 ∙ all.0 n h), still us all.1 order.1)

  others : (u : List ℤ) → Contains (read ++ v ∷ []) u → (u ≡ v) ⊎ AgreesThrough N f is' u
  others u among = elim (Contains-append_cases read (v ∷ []) u among) as (λ _. (u ≡ v) ⊎ AgreesThrough N f is' u) [
    | inl before ↦
        let order = all-contains (λ y. IsBefore hs y v) read u after before in
        let was = all-contains (AgreesThrough N f is) read u later.way.agrees before in
        inr (λ n h. classes_keep D f w read is v base next-of u n order ∙ was n h)
    | inr here ↦ elim (contains-cases u v [] here) as (λ _. (u ≡ v) ⊎ AgreesThrough N f is' u) [
      | inl same ↦ inl (sym same)
      | inr none ↦ absurd (let no = none.1 in omega arith)
    ]
  ]

  unequal : (t : ℕ) → pos t ≤ℤ (N +ℤ pos base) → AgreeBelow base (series_by_weight f w v) (product_after f w base is v) t →
      series_by_weight f w v t ≢ (sign_at base t *ℤ product_after f w base is v t) →
      IsUnequalPlace D N f v (exponent_at hs w v t) (series_by_weight f w v t) (sign_at base t *ℤ product_after f w base is v t)
  unequal t h agree other =
      let n = exponent_at hs w v t in
      let place = later.place in
      let first = difference_is_first D f w read is v base t next-of agree other in
      let among = Contains-append_right read (v ∷ []) v (contains-head v v [] refl) in
      let seen : IsSeen N f (read ++ v ∷ []) is' v n = record {
        there = among;
        within = omega
            (arith, ints);
        others = others;
        before = first.1;
        differs = first.0;
      } in
      let has = mismatch_at D N f (read ++ v ∷ []) back closed-after is' begun-after' v n seen later.way.far later.way.normalized in
      record {
        integers = final;
        are = goes.are;
        mismatch = mismatch_of D N f final v n goes.are has;
        family = refl;
        katz =
            ap (λ z. sign_at base t *ℤ z) (sym (product-read D f w read is v base next-of t)) ∙
            (from-weight D f w read is v base next-of is' t ∙ sym (goes.kept v among n));
      }

pub steps_on : StepsOn
steps_on D N f w T read back is v base ls l end later after e agree =
    record {
      reach = later.way.reach;
      far = later.way.far;
      normalized = later.way.normalized;
      known = later.way.known;
      begins = later.way.begins;
      least = later.way.least;
      closed = closed-after D N f w T read back is v base ls later;
      begun = begun-after' D N f w T read back is v base ls later;
      agrees = agrees-on D N f w T read back is v base ls later end e agree;
      table = table_goes_on D f w T read back is v base ls l
          (before-of D N f w T read back is v base ls later) later.way.table after;
    }

pub ends_well : EndsWell
ends_well D N f w T read is ls way =
    let goes = integers_go_on D f read [] is (normal_through (pos 1) N f way.far way.normalized) way.closed way.begun in
    let whole = append-nil read in
    record {
      are = goes.are;
      agrees = agrees_through D f N read is (rw whole at way.closed) way.normalized way.begun.listed way.agrees;
    }

pub reading_is_wide : ReadingIsWide
reading_is_wide D N f w T read back is v base ls t later h wide =
    reading-wide D N f w T read back is v base ls later t h
    (size_is_majorant D N f w read is v base (front D N f w T read back is v base ls later).more t
    (next-of D N f w T read back is v base ls later) (last-of D N f w T read back is v base ls later)
    (room D N f w T read back is v base ls later t h) wide)

pub parts_are_wide : PartsAreWide
parts_are_wide D N f w T read back is v base ls d t later degree h wide =
    let before = before-of D N f w T read back is v base ls later in
    let katz_parts = parts_are_katz D f w T read back is v base ls d t before later.way.table degree h in
    reading-wide D N f w T read back is v base ls later t h
    (bound_is_majorant D N f w read is v base (front D N f w T read back is v base ls later).more t (parts_size t
    (parts_of ls v d))
    (next-of D N f w T read back is v base ls later) (last-of D N f w T read back is v base ls later)
    (room D N f w T read back is v base ls later t h)
    (sizes_of_katz_parts f.heights w D T is v t read (parts_of ls v d) katz_parts) wide)

pub difference_is_seen : DifferenceIsSeen
difference_is_seen D N f w T read back is v base ls t later h agree other =
    unequal D N f w T read back is v base ls later t h agree other
