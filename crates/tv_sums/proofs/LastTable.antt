-- The table of the slices whose heights stand in a table where all places are replaced.
--
-- end-start    before any heights are read
-- end-turned   a table where other heights are done
-- end-put      one that gets the row of a slice more
-- end-passed   heights of no slice that has few extras
-- end-whole    when all are read it is the table of what comes to the slices
use Rattle.std.proofs.Common.{◌≡◌, ℕ, suc, ◌+◌, ◌<◌, ◌≤◌, ℤ, pos, ◌+ℤ◌, Bool, true, false, List, [], ◌∷◌, ◌++◌, Option, Some, None, refl, sym, ◌∙◌, ap, subst, arith, inl, inr}
use Rattle.std.specs.Prelude.{cond, ◌⊎◌, ◌||◌, MatchOption, is_some}
use Rattle.std.specs.List.{AllByRecursion}
use Rattle.std.specs.Map.{lookup}
use Rattle.std.proofs.lemmas.Bool.{or_cases}
use Rattle.indexmap.specs.IndexMap.{insert_entry}
use Rattle.tv_ring.specs.Operations.{Operations}
use Rattle.tv_cells.specs.declared.legs.Legs.{Legs}
use Rattle.tv_cells.specs.Extras.{extent, AreDiagrams}
use Rattle.tv_spec_slices.specs.Slices.{Shape, at, reach, same_shape, fits, extras_of}
use Rattle.tv_laws_slices.proofs.Pushed.{same-shape, own-shape}
use Rattle.tv_laws_sums.specs.Mixed.{value}
use Rattle.tv_laws_sums.specs.Laws.{IsLow, AreLow}
use Rattle.tv_slices.specs.declared.row.Row.{Row}
use Rattle.tv_slices.specs.Tables.{known, HasRow, IsTable}
use Rattle.tv_sums.specs.Plans.{plan_for, is_slice}
use Rattle.tv_sums.specs.Keys.{key, IsKey}
use Rattle.tv_sums.specs.Tells.{Tells}
use Rattle.tv_sums.specs.Parts.{kept_in, ways_in, summed, all_done, has_key, IsPart, IsEnd}
use Rattle.tv_sums.proofs.Told.{tells-fewer, tells-row}
use Rattle.tv_sums.proofs.Parted.{all-put}
use Rattle.tv_sums.proofs.Grouped.{found-all}
use Rattle.tv_sums.proofs.Ends.{ending, slice-of-heights, heights-key, heights-test, heights-fit, heights-ending}
use Rattle.tv_sums.proofs.Summed.{few-low, low-or, key-sums, key-kept}

pub has-push : {V : Type 0} (xs : List (Shape × V)) (x : Shape × V) (q : Shape) → has_key (xs ++ x ∷ []) q ≡ true → (has_key xs q || same_shape q x.0) ≡ true
has-push [] x q h = by (same_shape q x.0) h
  where
    by : (b : Bool) → is_some (cond b (Some x.1) None) ≡ true → b ≡ true
    by true h = refl
    by false h = absurd (cc)
has-push {V} (y ∷ xs) x q h = by (same_shape q y.0) h (has-push xs x q)
  where
    by : (b : Bool) → is_some (cond b (Some y.1) (lookup (same_shape q) (xs ++ x ∷ []))) ≡ true → (has_key (xs ++ x ∷ []) q ≡ true → (has_key xs q || same_shape q x.0) ≡ true) →
        (is_some (cond b (Some y.1) (lookup (same_shape q) xs)) || same_shape q x.0) ≡ true
    by true h rest = refl
    by false h rest = rest h

module _ {A : Type 0} (r : Operations A) (legs : Legs) (k : ℕ) (t : ℤ) (top n : ℕ) (slices : List Shape) (are : AreDiagrams legs) (highest : top ≡ suc (k + extent legs)) where
  abbrev u : ℤ
  u = t +ℤ pos 1

  abbrev pub IsSeen : Shape → Type 0
  IsSeen s = (fits legs u s ≡ true) × (IsLow top n s × (extras_of legs u s ≤ k))

  abbrev pub NoneTo : Shape → Type 0
  NoneTo s = (c : ℕ) → c < known legs k u s → summed legs k t slices s c ≡ 0

  abbrev pub SliceAt : (Shape → Bool) → Shape → Option (Row A) → Type 0
  SliceAt done s o = MatchOption o (done (key (value top s) n) ≡ true → NoneTo s) (HasRow r (summed legs k t slices s) (known legs k u s))

  pub end-start : (rows : List (Shape × Row A)) (done : Shape → Bool) → rows ≡ [] → ((q : Shape) → done q ≡ false) → IsEnd r legs t (plan_for k t top n) slices done rows
  end-start rows done e none = subst (IsEnd r legs t (plan_for k t top n) slices done) (sym e) (record { keys = tt; each = λ s f low few h. let off = none (key (value top s) n) in absurd (cc) })

  slice-turned : (old new : Shape → Bool) (s : Shape) (o : Option (Row A)) → (new (key (value top s) n) ≡ true → (old (key (value top s) n) ≡ true) ⊎ NoneTo s) → SliceAt old s o → SliceAt new s o
  slice-turned old new s None turn at_s = λ h. by (turn h)
    where
      by : (old (key (value top s) n) ≡ true) ⊎ NoneTo s → NoneTo s
      by (inl h) = at_s h
      by (inr none) = none
  slice-turned old new s (Some row) turn at_s = at_s

  pub end-turned : (old new : Shape → Bool) (rows : List (Shape × Row A)) → ((s : Shape) → IsSeen s → new (key (value top s) n) ≡ true → (old (key (value top s) n) ≡ true) ⊎ NoneTo s) →
      IsEnd r legs t (plan_for k t top n) slices old rows → IsEnd r legs t (plan_for k t top n) slices new rows
  end-turned old new rows turn end = record { keys = end.keys; each = λ s f low few. slice-turned old new s (lookup (same_shape s) rows) (turn s (f, (low, few))) (end.each s f low few) }

  own : (s h : Shape) → same_shape s h ≡ true → s ≡ h
  own s h e = same-shape s h e

  -- heights that no slice with few extras has
  pub end-passed : (done : Shape → Bool) (h : Shape) (rows : List (Shape × Row A)) → ((s : Shape) → IsSeen s → key (value top s) n ≡ h → ⊥) →
      IsEnd r legs t (plan_for k t top n) slices done rows → IsEnd r legs t (plan_for k t top n) slices (λ q. done q || same_shape q h) rows
  end-passed done h rows never end = end-turned done (λ q. done q || same_shape q h) rows (λ s seen on. by s seen (or_cases (done (key (value top s) n)) (same_shape (key (value top s) n) h) on)) end
    where
      by : (s : Shape) → IsSeen s → (done (key (value top s) n) ≡ true) ⊎ (same_shape (key (value top s) n) h ≡ true) → (done (key (value top s) n) ≡ true) ⊎ NoneTo s
      by s seen (inl on) = inl on
      by s seen (inr e) = absurd (never s seen (own (key (value top s) n) h e))

  pub never-slice : (h : Shape) → is_slice legs (plan_for k t top n) (at h) ≡ false → (s : Shape) → IsSeen s → key (value top s) n ≡ h → ⊥
  never-slice h off s seen e =
      let on = subst (λ a. is_slice legs (plan_for k t top n) (at a) ≡ true) e (heights-test legs k t top n s are seen.0 seen.1.0) in
      absurd (cc)

  pub never-few : (h : Shape) → k < extras_of legs u (ending legs t n h) → (s : Shape) → IsSeen s → key (value top s) n ≡ h → ⊥
  never-few h more s seen e =
      let same : ending legs t n h ≡ s = ap (ending legs t n) (sym e) ∙ heights-ending legs k t top n s are seen.0 seen.1.0 in
      over (extras_of legs u (ending legs t n h)) (extras_of legs u s) (ap (extras_of legs u) same) more seen.1.1
    where
      over : (x y : ℕ) → x ≡ y → k < x → y ≤ k → ⊥
      over x y e l m = omega arith

  module _ (h : Shape) (is : IsKey top n h) (test : is_slice legs (plan_for k t top n) (at h) ≡ true) (few : extras_of legs u (ending legs t n h) ≤ k) where
    some : 0 < top
    some = let e = highest in omega arith

    pub seen-ending : IsSeen (ending legs t n h)
    seen-ending =
        let told = slice-of-heights legs k t top n h are some is test in
        (told.0, (few-low legs k t top n slices are highest (ending legs t n h) told.0 few told.1.0, few))

    pub key-ending : key (value top (ending legs t n h)) n ≡ h
    key-ending = (slice-of-heights legs k t top n h are some is test).1.1

    pub ending-tells : AreLow top n slices → (row : Row A) → HasRow r (ways_in legs t (plan_for k t top n) n slices h) (kept_in legs (plan_for k t top n) n h) row →
        Tells r (summed legs k t slices (ending legs t n h)) (known legs k u (ending legs t n h)) row
    ending-tells all row has =
        let b = ending legs t n h in
        tells-fewer r (ways_in legs t (plan_for k t top n) n slices h) (summed legs k t slices b) (known legs k u b) (kept_in legs (plan_for k t top n) n h) row
        (subst (λ q. known legs k u b ≤ kept_in legs (plan_for k t top n) n q) key-ending (key-kept legs k t top n slices are highest b seen-ending.0 seen-ending.1.0))
        (λ c l. ap (λ q. ways_in legs t (plan_for k t top n) n slices q c) (sym key-ending) ∙ key-sums legs k t top n slices are highest all b seen-ending.0 seen-ending.1.0 c)
        (tells-row r (ways_in legs t (plan_for k t top n) n slices h) (kept_in legs (plan_for k t top n) n h) row has)

    pub end-put : (done : Shape → Bool) (row : Row A) (rows new : List (Shape × Row A)) →
        ((q : Shape) → lookup (same_shape q) new ≡ cond (same_shape (ending legs t n h) q) (Some row) (lookup (same_shape q) rows)) → new ≡ insert_entry same_shape rows (ending legs t n h) row →
        HasRow r (summed legs k t slices (ending legs t n h)) (known legs k u (ending legs t n h)) row →
        IsEnd r legs t (plan_for k t top n) slices done rows → IsEnd r legs t (plan_for k t top n) slices (λ q. done q || same_shape q h) new
    end-put done row rows new put entries has end = record {
      keys = subst (AllByRecursion (λ e. IsSeen e.0)) (sym entries) (all-put IsSeen rows (ending legs t n h) row seen-ending end.keys);
      each = λ s f low few_s. subst (SliceAt (λ q. done q || same_shape q h) s) (sym (put s)) (decided s (f, (low, few_s)) (same_shape (ending legs t n h) s) refl);
    }
      where
        decided : (s : Shape) → IsSeen s → (q : Bool) → same_shape (ending legs t n h) s ≡ q → SliceAt (λ q. done q || same_shape q h) s (cond q (Some row) (lookup (same_shape s) rows))
        decided s seen true e = subst (λ a. HasRow r (summed legs k t slices a) (known legs k u a) row) (same-shape (ending legs t n h) s e) has
        decided s seen false e = slice-turned done (λ q. done q || same_shape q h) s (lookup (same_shape s) rows) (λ on. by (or_cases (done (key (value top s) n)) (same_shape (key (value top s) n) h) on)) (end.each s seen.0 seen.1.0 seen.1.1)
          where
            by : (done (key (value top s) n) ≡ true) ⊎ (same_shape (key (value top s) n) h ≡ true) → (done (key (value top s) n) ≡ true) ⊎ NoneTo s
            by (inl on) = inl on
            by (inr same) =
                let one : ending legs t n h ≡ s = ap (ending legs t n) (sym (own (key (value top s) n) h same)) ∙ heights-ending legs k t top n s are seen.0 seen.1.0 in
                let on : same_shape (ending legs t n h) s ≡ true = subst (λ a. same_shape a s ≡ true) (sym one) (own-shape s) in
                absurd (cc)

  pub end-whole : AreLow top n slices → AllByRecursion (λ a. reach a < n) slices → (es rows : List (Shape × Row A)) → IsPart r legs t (plan_for k t top n) n slices all_done es →
      IsEnd r legs t (plan_for k t top n) slices (has_key es) rows → IsTable r legs k u (summed legs k t slices) rows
  end-whole all short es rows part end = record {
    each = λ s. at_slice s (low-or legs k t top n slices are highest short s) (lookup (same_shape s) rows) refl;
    suits = suit rows end.keys;
  }
    where
      suit : (rows : List (Shape × Row A)) → AllByRecursion (λ e. IsSeen e.0) rows → AllByRecursion (λ e. (fits legs u e.0 ≡ true) × (extras_of legs u e.0 ≤ k)) rows
      suit [] seen = tt
      suit (e ∷ rows) seen = ((seen.0.0, seen.0.1.1), suit rows seen.1)

      none-at : (s : Shape) → IsSeen s → SliceAt (has_key es) s None → NoneTo s
      none-at s seen none = by (lookup (same_shape (key (value top s) n)) es) refl
        where
          q : Shape
          q = key (value top s) n

          fewer : (a b c : ℕ) → c < a → a ≤ b → c < b
          fewer a b c l m = omega arith

          by : (o : Option (Row A)) → lookup (same_shape q) es ≡ o → NoneTo s
          by (Some row) e = none (ap is_some e)
          by None e = λ c l.
              let nothing : all_done q ≡ true → (c : ℕ) → c < kept_in legs (plan_for k t top n) n q → ways_in legs t (plan_for k t top n) n slices q c ≡ 0 =
              subst (λ o. MatchOption o (all_done q ≡ true → (c : ℕ) → c < kept_in legs (plan_for k t top n) n q → ways_in legs t (plan_for k t top n) n slices q c ≡ 0) (HasRow r (ways_in legs t (plan_for k t top n) n slices q) (kept_in legs (plan_for k t top n) n q)))
              e (part.each q (heights-key legs k t top n s are seen.0 seen.1.0) (heights-fit legs k t top n s are seen.0 seen.1.0)) in
              sym (key-sums legs k t top n slices are highest all s seen.0 seen.1.0 c) ∙ nothing refl c (fewer (known legs k u s) (kept_in legs (plan_for k t top n) n q) c l (key-kept legs k t top n slices are highest s seen.0 seen.1.0))

      at_slice : (s : Shape) → IsSeen s ⊎ NoneTo s → (o : Option (Row A)) → lookup (same_shape s) rows ≡ o → MatchOption o (NoneTo s) (HasRow r (summed legs k t slices s) (known legs k u s))
      at_slice s (inr none) None e = none
      at_slice s (inl seen) None e = none-at s seen (subst (SliceAt (has_key es) s) e (end.each s seen.0 seen.1.0 seen.1.1))
      at_slice s which (Some row) e =
          let seen = found-all IsSeen s rows end.keys (ap is_some e) in
          subst (SliceAt (has_key es) s) e (end.each s seen.0 seen.1.0 seen.1.1)
