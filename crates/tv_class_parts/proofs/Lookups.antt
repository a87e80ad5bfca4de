-- Looking up the row of a class, and lists that a loop has made.
--
-- found-here, found-later  the class of the next line, and another one
-- IsFound P v ls, IsAbsent v ls    == a line of which P holds has the class v, and its row is found
-- find-cases        a row is found, or the class is not listed and there is none
-- mapped-more, mapped-all  one member more of a list that is made of another one, and all
-- member-holds      what holds of each member holds of the one that was read
-- rows-none, rows-more  no row yet, and one row more of a listed sequence
use Rattle.std.specs.Prelude.{◌≡◌, ◌⊎◌, Contains, ℕ, suc, ◌+◌, ◌<◌, ◌≤◌, ℤ, List, [], ◌∷◌, ◌++◌, length, map}
use Rattle.std.specs.List.{AllByRecursion}
use Rattle.std.proofs.Common.{refl, sym, ap, arith, ◌∙◌, inl, inr, drop, get_or, append_assoc, append-nil}
use Rattle.std.proofs.Math.Seq.{drop-cons}
use Rattle.std.proofs.lemmas.List.{map-append, drop_all}
use Rattle.std.proofs.lemmas.Bool.{cases_Bool}
use Rattle.tv_lemmas.proofs.Members.{all-at, contains-cases}
use Rattle.tv_laws_series.specs.Terms.{listed}
use Rattle.tv_laws_series.proofs.Listed.{listed-none, listed-more}
use Rattle.tv_spec_boxes.specs.Assignments.{same_vector}
use Rattle.tv_spec_boxes.proofs.Vectors.{same_vector_tells}
use Rattle.tv_spec_series.proofs.Order.{same_vector-equal, same_vector-other}
use Rattle.tv_class_parts.specs.ReadClasses.{ReadClass, find_row}

pub find-here : (v : List ℤ) (l : ReadClass) (ls : List ReadClass) → l.class ≡ v → find_row v (l ∷ ls) ≡ l.row
find-here v l ls e = let on = same_vector-equal l.class v e in rw on refl

pub find-later : (v : List ℤ) (l : ReadClass) (ls : List ReadClass) → (l.class ≡ v → ⊥) → find_row v (l ∷ ls) ≡ find_row v ls
find-later v l ls other = let off = same_vector-other l.class v other in rw off refl

module _ (v : List ℤ) (ls : List ReadClass) (i : ℕ) (l : ReadClass) (read : l ≡ get_or ls i l) (within : i < length ls) where
  here : drop i ls ≡ l ∷ drop (suc i) ls
  here = drop-cons ls i l within ∙ ap (λ y. y ∷ drop (suc i) ls) (sym read)

  pub found-here : find_row v ls ≡ find_row v (drop i ls) → l.class ≡ v → l.row ≡ find_row v ls
  found-here was e = sym (was ∙ (ap (find_row v) here ∙ find-here v l (drop (suc i) ls) e))

  pub found-later : find_row v ls ≡ find_row v (drop i ls) → (l.class ≡ v → ⊥) → find_row v ls ≡ find_row v (drop (i + 1) ls)
  found-later was other =
      let one : i + 1 ≡ suc i = omega arith in
      rw one (was ∙ (ap (find_row v) here ∙ find-later v l (drop (suc i) ls) other))

pub record IsFound (P : ReadClass → Type 0) (v : List ℤ) (ls : List ReadClass) : Type 0 where
  pub line : ReadClass
  pub holds : P line
  pub class : line.class ≡ v
  pub row : find_row v ls ≡ line.row

pub record IsAbsent (v : List ℤ) (ls : List ReadClass) : Type 0 where
  pub row : find_row v ls ≡ []
  pub none : Contains (map (λ (l : ReadClass). l.class) ls) v → ⊥

pub find-cases : (P : ReadClass → Type 0) (v : List ℤ) (ls : List ReadClass) → AllByRecursion P ls →
    IsFound P v ls ⊎ IsAbsent v ls
find-cases P v [] all = inr (record { row = refl; none = λ h. let none = h.1 in omega arith })
find-cases P v (l ∷ ls) all = elim (cases_Bool (same_vector l.class v)) as (λ _. IsFound P v (l ∷ ls) ⊎ IsAbsent v (l ∷ ls)) [
  | inl on ↦
      let e = same_vector_tells l.class v on in
      inl (record { line = l; holds = all.0; class = e; row = find-here v l ls e })
  | inr off ↦
      let other : l.class ≡ v → ⊥ = λ e. let on = same_vector-equal l.class v e in cc in
      elim (find-cases P v ls all.1) as (λ _. IsFound P v (l ∷ ls) ⊎ IsAbsent v (l ∷ ls)) [
        | inl found ↦ inl (record { line = found.line; holds = found.holds; class = found.class; row = find-later v l ls other ∙ found.row })
        | inr absent ↦ inr (record {
          row = find-later v l ls other ∙ absent.row;
          none = λ h. elim (contains-cases v l.class (map (λ (k : ReadClass). k.class) ls) h) as (λ _. ⊥) [
            | inl same ↦ other same
            | inr later ↦ absent.none later
          ];
        })
      ]
]

pub rows-none : {A : Type 0} (g : A → List ℤ) (F : ℕ → List ℤ) (xs : List A) → xs ≡ [] → map g xs ≡ listed F 0
rows-none g F xs e = ap (map g) e ∙ sym (listed-none F)

pub rows-more : {A : Type 0} (g : A → List ℤ) (F : ℕ → List ℤ) (n : ℕ) (xs next : List A) (x : A) → map g xs ≡ listed F n →
    next ≡ xs ++ x ∷ [] → g x ≡ F n → map g next ≡ listed F (n + 1)
rows-more g F n xs next x was e here =
    ap (map g) e ∙ (map-append g xs (x ∷ []) ∙ (ap (λ r. r ++ g x ∷ []) was ∙ (ap (λ r. listed F n ++ r ∷ []) here ∙
    sym (listed-more F n))))

-- what a loop has made of a list, with what is left
pub mapped-more : {A B : Type 0} (g : A → B) (ls : List A) (i : ℕ) (l : A) (xs next : List B) (x : B) →
    xs ++ map g (drop i ls) ≡ map g ls → l ≡ get_or ls i l → i < length ls → x ≡ g l → next ≡ xs ++ x ∷ [] →
    next ++ map g (drop (i + 1) ls) ≡ map g ls
mapped-more g ls i l xs next x was read within e grown =
    let one : i + 1 ≡ suc i = omega arith in
    let here : drop i ls ≡ l ∷ drop (suc i) ls = drop-cons ls i l within ∙ ap (λ y. y ∷ drop (suc i) ls) (sym read) in
    let step : xs ++ x ∷ map g (drop (suc i) ls) ≡ map g ls =
    ap (λ y. xs ++ y ∷ map g (drop (suc i) ls)) e ∙ (ap (λ ks. xs ++ map g ks) (sym here) ∙ was) in
    rw (one, grown) (append_assoc xs (x ∷ []) (map g (drop (suc i) ls)) ∙ step)

pub mapped-all : {A B : Type 0} (g : A → B) (ls : List A) (i : ℕ) (xs : List B) → xs ++ map g (drop i ls) ≡ map g ls →
    length ls ≤ i → xs ≡ map g ls
mapped-all g ls i xs was all =
    let none : xs ++ map g (drop i ls) ≡ xs ++ [] = ap (λ ks. xs ++ map g ks) (drop_all i ls all) in
    sym (append-nil xs) ∙ (sym none ∙ was)

pub member-holds : {A : Type 0} (P : A → Type 0) (ls : List A) (i : ℕ) (l : A) → AllByRecursion P ls → l ≡ get_or ls i l →
    i < length ls → P l
member-holds P ls i l all read within = rw (← read) at (all-at P ls l all i within)
