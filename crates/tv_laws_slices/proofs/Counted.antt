-- As many paths as sets of extras: both are listed once, and the cells of the paths are the sets.
--
-- same-number     lists in which nothing stands twice, with the same members, are equally long
-- sets legs w i   == the sets of i extras in the cube that has all cells of the paths
use Rattle.std.specs.Prelude.{◌≡◌, Contains, ℕ, suc, ◌+◌, ◌<◌, ◌≤◌, Bool, true, false, cond, ◌&&◌, ◌||◌, nat_lt, List, [], ◌∷◌, map, filter, length}
use Rattle.std.specs.List.{AllByRecursion, IsDistinct, list_any}
use Rattle.std.specs.Cmp.{both_ways}
use Rattle.std.specs.Cmp.Lexicographic.{pointwise}
use Rattle.std.proofs.Common.{refl, sym, ap, subst, ◌∙◌, arith, inl, inr}
use Rattle.std.proofs.lemmas.Bool.{and_from, or_cases, or_left, or_right, lt-ltb, false_from_ne_true}
use Rattle.std.proofs.lemmas.List.{length-map}
use Rattle.tv_lemmas.proofs.Members.{all-map, all-filter, all-onto, all-both, all-contains, all-members, contains-head, contains-later, contains-cases, contains-map, contains-filter}
use Rattle.tv_lemmas.proofs.Distinct.{distinct-filter, pointwise-tells}
use Rattle.tv_lemmas.proofs.Permuted.{places, IsEquality, permuted-length}
use Rattle.tv_cells.specs.declared.cell.Cell.{Cell}
use Rattle.tv_cells.specs.declared.legs.Legs.{Legs}
use Rattle.tv_cells.specs.Cells.{same, cube, rises, sublists_of}
use Rattle.tv_cells.specs.Extras.{is_extras, extent, count, AreDiagrams}
use Rattle.tv_cells.proofs.Cubes.{cube-rises, cube-has}
use Rattle.tv_cells.proofs.Rising.{same_itself}
use Rattle.tv_cells.proofs.Sublists.{sublists_of-length}
use Rattle.tv_laws_counts.proofs.Reaching.{extras_within}
use Rattle.tv_laws_counts.proofs.Rises.{same_cell, rises-filter}
use Rattle.tv_laws_counts.proofs.SetsOnce.{sublists-rise, sublist_listed, sublists-once}
use Rattle.tv_laws_counts.proofs.Larger.{larger_count}
use Rattle.tv_spec_slices.specs.Slices.{Shape, same_shape}
use Rattle.tv_laws_slices.specs.Taken.{taken}
use Rattle.tv_laws_slices.specs.Laws.{IsPath, AreAll, PathsAreCounted}
use Rattle.tv_laws_slices.proofs.Pushed.{own-shape}
use Rattle.tv_laws_slices.proofs.Chains.{paths-are-chains}
use Rattle.tv_laws_slices.proofs.Closed.{paths-are-extras}
use Rattle.tv_laws_slices.proofs.Cut.{extras-are-paths}
use Rattle.tv_laws_slices.proofs.Told.{path-told}
use Rattle.tv_lemmas.proofs.Lists.{pointwise-own}

-- ---- lists with the same members

none_plus : (n : ℕ) → 0 + n ≡ n
none_plus n = omega arith

module _ {A : Type 0} (same : A → A → Bool) (equality : IsEquality same) where
  places-none : (y : A) (ys : List A) → AllByRecursion (λ z. same y z ≡ false) ys → places same y ys ≡ 0
  places-none y [] all = refl
  places-none y (z ∷ ys) all = ap (λ b. cond b 1 0 + places same y ys) all.0 ∙ (none_plus (places same y ys) ∙ places-none y ys all.1)

  places-once : (x : A) (ys : List A) → IsDistinct same ys → places same x ys ≡ cond (list_any (same x) ys) 1 0
  unfolding IsDistinct
  places-once x [] once = refl
  places-once x (y ∷ ys) once = by_test (same x y) refl (places-once x ys once.1)
    where
      by_test : (b : Bool) → same x y ≡ b → places same x ys ≡ cond (list_any (same x) ys) 1 0 → cond b 1 0 + places same x ys ≡ cond (b || list_any (same x) ys) 1 0
      by_test true e rest = ap (λ n. 1 + n) (ap (λ z. places same z ys) (equality.tells x y e) ∙ places-none y ys once.0)
      by_test false e rest = none_plus (places same x ys) ∙ rest

  any-from : (x : A) (ys : List A) → Contains ys x → list_any (same x) ys ≡ true
  any-from x [] (k, h, e) = absurd (omega arith)
  any-from x (y ∷ ys) among = elim (contains-cases x y ys among) [
    | inl e ↦ or_left (same x y) (list_any (same x) ys) (ap (same x) e ∙ equality.own x)
    | inr later ↦ or_right (same x y) (list_any (same x) ys) (any-from x ys later)
  ]

  any-to : (x : A) (ys : List A) → list_any (same x) ys ≡ true → Contains ys x
  any-to x [] h = absurd (cc)
  any-to x (y ∷ ys) h = elim (or_cases (same x y) (list_any (same x) ys) h) [
    | inl e ↦ contains-head x y ys (sym (equality.tells x y e))
    | inr later ↦ contains-later x y ys (any-to x ys later)
  ]

  pub same-number : (xs ys : List A) → IsDistinct same xs → IsDistinct same ys → AllByRecursion (Contains ys) xs → AllByRecursion (Contains xs) ys → length xs ≡ length ys
  same-number xs ys once other onto back = permuted-length same equality xs ys (record {
    each = λ x. places-once x xs once
        ∙ (ap (λ b. cond b 1 0) (both_ways (list_any (same x) xs) (list_any (same x) ys)
        (λ h. any-from x ys (all-contains (Contains ys) xs x onto (any-to x xs h)))
        (λ h. any-from x xs (all-contains (Contains xs) ys x back (any-to x ys h))))
        ∙ sym (places-once x ys other));
  })

-- where only members that are so are kept apart
distinct-values : {A B : Type 0} (same : A → A → Bool) (e : B → B → Bool) (P : A → Type 0) (f : A → B) → ((x y : A) → P x → P y → same x y ≡ false → e (f x) (f y) ≡ false) → (xs : List A) → AllByRecursion P xs → IsDistinct same xs → IsDistinct e (map f xs)
unfolding IsDistinct
distinct-values same e P f apart [] all once = tt
distinct-values same e P f apart (x ∷ xs) all once = (
  all-map (λ y. e (f x) (f y) ≡ false) (λ z. e (f x) z ≡ false) f (λ y differ. differ) xs
      (all-both P (λ y. same x y ≡ false) (λ y. e (f x) (f y) ≡ false) (λ y is differ. apart x y all.0 is differ) xs all.1 once.0),
  distinct-values same e P f apart xs all.1 once.1,
)

-- ---- the sets

abbrev sets : Legs → ℕ → ℕ → List (List Cell)
sets legs w i = filter (is_extras legs) (sublists_of i (cube (suc (w + w))))

record IsSet (legs : Legs) (i : ℕ) (cells : List Cell) : Type 0 where
  order : rises cells ≡ true
  many : length cells ≡ i
  extras : is_extras legs cells ≡ true

sets-are : (legs : Legs) (w i : ℕ) → AllByRecursion (IsSet legs i) (sets legs w i)
sets-are legs w i =
    let side = suc (w + w) in
    all-filter (λ s. (rises s ≡ true) × (length s ≡ i)) (IsSet legs i) (is_extras legs) (λ s is on. record { order = is.0; many = is.1; extras = on }) (sublists_of i (cube side))
    (all-both (λ s. rises s ≡ true) (λ (s : List Cell). length s ≡ i) (λ s. (rises s ≡ true) × (length s ≡ i)) (λ s r n. (r, n)) (sublists_of i (cube side)) (sublists-rise i (cube side) (cube-rises side)) (sublists_of-length i (cube side)))

set-listed : (legs : Legs) (w i : ℕ) (cells : List Cell) → AreDiagrams legs → i + extent legs ≤ w → IsSet legs i cells → Contains (sets legs w i) cells
set-listed legs w i cells are l is =
    contains-filter (is_extras legs) cells (sublists_of i (cube (suc (w + w))))
    (subst (λ n. Contains (sublists_of n (cube (suc (w + w)))) cells) is.many
    (sublist_listed cells (cube (suc (w + w))) is.order (cube-rises (suc (w + w))) (λ c m. inside-cube c m))) is.extras
  where
    near : (n x e : ℕ) → n ≡ i → x < n + e → i + e ≤ w → x < suc (w + w)
    near n x e s h m = omega arith

    inside-cube : (c : Cell) → list_any (same c) cells ≡ true → list_any (same c) (cube (suc (w + w))) ≡ true
    inside-cube c m =
        let side = suc (w + w) in
        let r = extras_within legs cells c are is.extras m in
        cube-has side c ∙ and_from (nat_lt c.x side) (nat_lt c.y side && nat_lt c.z side) (lt-ltb c.x side (near (length cells) c.x (extent legs) is.many r.x l))
        (and_from (nat_lt c.y side) (nat_lt c.z side) (lt-ltb c.y side (near (length cells) c.y (extent legs) is.many r.y l)) (lt-ltb c.z side (near (length cells) c.z (extent legs) is.many r.z l)))

sets-number : (legs : Legs) (k i : ℕ) → AreDiagrams legs → i ≤ k → length (sets legs (k + extent legs) i) ≡ count legs i
sets-number legs k i are l =
    ap (λ n. length (filter (is_extras legs) (sublists_of i (cube n)))) (sides (extent legs)) ∙ larger_count legs i (suc ((k + k) + extent legs)) are (less (extent legs))
  where
    sides : (e : ℕ) → suc ((k + e) + (k + e)) ≡ suc ((k + k) + e) + e
    sides e = omega arith

    less : (e : ℕ) → i ≤ suc ((k + k) + e)
    less e = omega arith

-- ---- and the paths

module _ (legs : Legs) (k i : ℕ) (are : AreDiagrams legs) (l : i ≤ k) where
  abbrev cells_of : List Shape → List Cell
  cells_of = taken legs (k + extent legs)

  apart : (xs ys : List Shape) → IsPath legs (k + extent legs) i xs → IsPath legs (k + extent legs) i ys → pointwise same_shape xs ys ≡ false → pointwise same (cells_of xs) (cells_of ys) ≡ false
  apart xs ys p q differ = false_from_ne_true (pointwise same (cells_of xs) (cells_of ys)) (λ h.
      let e = path-told legs k i xs ys are l p q (pointwise-tells same same_cell (cells_of xs) (cells_of ys) h) in
      both (pointwise same_shape xs ys) differ (subst (λ zs. pointwise same_shape xs zs ≡ true) e (pointwise-own same_shape own-shape xs)))
    where
      both : (b : Bool) → b ≡ false → b ≡ true → ⊥
      both b e f = cc

  path-set : (slices : List Shape) → IsPath legs (k + extent legs) i slices → IsSet legs i (cells_of slices)
  path-set slices path =
      let is = paths-are-extras legs k i slices are l path in
      record { order = rises-filter _ (cube (suc ((k + extent legs) + (k + extent legs)))) (cube-rises (suc ((k + extent legs) + (k + extent legs)))); many = is.1; extras = is.0 }

  as-many : (lists : List (List Shape)) → AreAll (IsPath legs (k + extent legs) i) lists → length lists ≡ length (sets legs (k + extent legs) i)
  as-many lists all =
      sym (length-map lists cells_of)
      ∙ same-number (pointwise same) (record { own = pointwise-own same same_itself; tells = pointwise-tells same same_cell }) (map cells_of lists) (sets legs (k + extent legs) i)
      (distinct-values (pointwise same_shape) (pointwise same) (IsPath legs (k + extent legs) i) cells_of apart lists each all.once)
      (distinct-filter (pointwise same) (is_extras legs) (sublists_of i (cube side)) (sublists-once i (cube side) (cube-rises side)))
      (all-map (IsPath legs (k + extent legs) i) (Contains (sets legs (k + extent legs) i)) cells_of (λ slices path. set-listed legs (k + extent legs) i (cells_of slices) are (reach (extent legs)) (path-set slices path)) lists each)
      (all-onto (IsSet legs i) (Contains (map cells_of lists)) found (sets legs (k + extent legs) i) (sets-are legs (k + extent legs) i))
    where
      side : ℕ
      side = suc ((k + extent legs) + (k + extent legs))

      each : AllByRecursion (IsPath legs (k + extent legs) i) lists
      each = all-onto (Contains lists) (IsPath legs (k + extent legs) i) (λ slices among. (all.each slices).0 among) lists (all-members lists)

      reach : (e : ℕ) → i + e ≤ k + e
      reach e = omega arith

      found : (cells : List Cell) → IsSet legs i cells → Contains (map cells_of lists) cells
      found cells is =
          let path = extras-are-paths legs k i cells are l is.order is.extras is.many in
          subst (Contains (map cells_of lists)) path.1.1 (contains-map cells_of path.0 lists ((all.each path.0).1 path.1.0))

pub paths-are-counted : PathsAreCounted
paths-are-counted legs k i are l =
    let all = paths-are-chains legs k i are l in
    sym all.1.1 ∙ (as-many legs k i are l all.0 all.1.0 ∙ sets-number legs k i are l)
