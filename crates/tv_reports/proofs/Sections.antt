-- The terms of a series, and what its section tells.
use Rattle.std.proofs.Common.{◌≡◌, ◌≢◌, ℕ, suc, ◌+◌, ◌<◌, ◌≤◌, ℤ, pos, ◌+ℤ◌, ◌≤ℤ◌, ◌<ℤ◌, List, [], ◌∷◌, ◌++◌, length, take, map, Some, Bool, true, false, if◌then◌else◌, refl, sym, ap, ◌∙◌, arith, subst}
use Rattle.std.proofs.lemmas.Int.{ints, by_lt_z}
use Rattle.std.proofs.lemmas.List.{take_more, take_all, length-take-le, map-append}
use Rattle.std.proofs.lemmas.Option.{slice_get_within, get_or_from_slice_get}
use Rattle.std.specs.List.{AllByRecursion, Contains, slice_get}
use Rattle.tv_ring.specs.Whole.{wholes, is_zero, IsAny}
use Rattle.tv_ring.specs.WholeLaws.{whole_laws}
use Rattle.tv_ring.specs.Sums.{at}
use Rattle.tv_laws_series.specs.Terms.{Terms, above, upto}
use Rattle.tv_laws_series.proofs.Exponents.{above_is, above_adds}
use Rattle.tv_lemmas.proofs.Members.{contains-head, contains-later}
use Rattle.tv_spec_text.specs.Reports.{Term, Section, Rises, IsTerm, AreTerms, IsSmallTerm}
use Rattle.tv_spec_series.specs.Families.{Row, Family, coefficient, IsRow}
use Rattle.tv_laws_series.proofs.Coefficients.{coefficient_below, coefficient_at}
use Rattle.tv_reports.specs.Sections.{terms_from, terms_of, section_of, TellsRow, SectionsTell}

at_head : (x : ℤ) (xs : List ℤ) → at wholes (x ∷ xs) 0 ≡ x
unfolding at
at_head x xs = refl

at_tail : (x : ℤ) (xs : List ℤ) (k : ℕ) → at wholes (x ∷ xs) (suc k) ≡ at wholes xs k
unfolding at
at_tail x xs k = refl

abbrev term : ℤ → ℤ → Term
term n x = record { exponent = n; coefficient = x }

-- the values of a function from an exponent on are those of the list
abbrev Gives : (ℤ → ℤ) → ℤ → List ℤ → Type 0
Gives f low xs = (k : ℕ) → k < length xs → f (low +ℤ pos k) ≡ at wholes xs k

gives_tail : (f : ℤ → ℤ) (low x : ℤ) (xs : List ℤ) → Gives f low (x ∷ xs) → Gives f (low +ℤ pos 1) xs
gives_tail f low x xs g k h = ap f (omega (arith, ints)) ∙ g (suc k) (omega arith) ∙ at_tail x xs k

gives_head : (f : ℤ → ℤ) (low x : ℤ) (xs : List ℤ) → Gives f low (x ∷ xs) → f low ≡ x
gives_head f low x xs g = ap f (omega (arith, ints)) ∙ g 0 (omega arith) ∙ at_head x xs

zero_is : (x : ℤ) → is_zero x ≡ true → x ≡ pos 0
zero_is x h = whole_laws.only_nought x tt h

some_is : (x : ℤ) → is_zero x ≡ false → x ≢ pos 0
some_is x h e = let z : is_zero x ≡ true = ap is_zero e in cc

-- P holds of the terms where it holds in both cases
by_term : (P : List Term → Type 0) (low x : ℤ) (xs : List ℤ) → (x ≡ pos 0 → P (terms_from (low +ℤ pos 1) xs)) → (x ≢ pos 0 → P (term low x ∷ terms_from (low +ℤ pos 1) xs)) → P (terms_from low (x ∷ xs))
by_term P low x xs none some = by (is_zero x) refl
  where
    by : (b : Bool) → is_zero x ≡ b → P (if b then terms_from (low +ℤ pos 1) xs else term low x ∷ terms_from (low +ℤ pos 1) xs)
    by true e = none (zero_is x e)
    by false e = some (some_is x e)

abbrev IsFrom : ℤ → Term → Type 0
IsFrom low t = low ≤ℤ t.exponent

from_earlier : (low m : ℤ) (ts : List Term) → low ≤ℤ m → AllByRecursion (IsFrom m) ts → AllByRecursion (IsFrom low) ts
from_earlier low m [] h all = tt
from_earlier low m (t ∷ ts) h all = let a = all.0 in (omega (arith, ints), from_earlier low m ts h all.1)

all_from : (low : ℤ) (xs : List ℤ) → AllByRecursion (IsFrom low) (terms_from low xs)
all_from low [] = tt
all_from low (x ∷ xs) =
    let later : AllByRecursion (IsFrom low) (terms_from (low +ℤ pos 1) xs) = from_earlier low (low +ℤ pos 1) (terms_from (low +ℤ pos 1) xs) (omega (arith, ints)) (all_from (low +ℤ pos 1) xs) in
    by_term (λ ts. AllByRecursion (IsFrom low) ts) low x xs (λ _. later) (λ _. (omega (arith, ints), later))

rises_onto : (t : Term) (ts : List Term) → AllByRecursion (IsFrom (t.exponent +ℤ pos 1)) ts → Rises ts → Rises (t ∷ ts)
rises_onto t [] all h = tt
rises_onto t (u ∷ ts) all h = let a = all.0 in (omega (arith, ints), h)

rises : (low : ℤ) (xs : List ℤ) → Rises (terms_from low xs)
rises low [] = tt
rises low (x ∷ xs) =
    let later = rises (low +ℤ pos 1) xs in
    by_term Rises low x xs (λ _. later) (λ _. rises_onto (term low x) (terms_from (low +ℤ pos 1) xs) (all_from (low +ℤ pos 1) xs) later)

each_is : (f : ℤ → ℤ) (u low : ℤ) (xs : List ℤ) → (low +ℤ pos (length xs)) ≤ℤ (u +ℤ pos 1) → Gives f low xs → AllByRecursion (IsTerm f u) (terms_from low xs)
each_is f u low [] h g = tt
each_is f u low (x ∷ xs) h g =
    let later = each_is f u (low +ℤ pos 1) xs (omega (arith, ints)) (gives_tail f low x xs g) in
    by_term (λ ts. AllByRecursion (IsTerm f u) ts) low x xs (λ _. later) (λ ne. (record { within = omega (arith, ints); value = sym (gives_head f low x xs g); nonzero = ne }, later))

abbrev exponents : List Term → List ℤ
exponents ts = map (λ (t : Term). t.exponent) ts

among : (f : ℤ → ℤ) (low : ℤ) (xs : List ℤ) (n : ℤ) → Gives f low xs → low ≤ℤ n → n <ℤ (low +ℤ pos (length xs)) → f n ≢ pos 0 → Contains (exponents (terms_from low xs)) n
among f low [] n g l h ne = absurd (omega (arith, ints))
among f low (x ∷ xs) n g l h ne = by_lt_z low n
    (λ less.
    let later = among f (low +ℤ pos 1) xs n (gives_tail f low x xs g) (omega (arith, ints)) (omega (arith, ints)) ne in
    by_term (λ ts. Contains (exponents ts) n) low x xs (λ _. later) (λ _. contains-later n low (exponents (terms_from (low +ℤ pos 1) xs)) later))
    (λ at_low.
    let same : n ≡ low = omega (arith, ints) in
    by_term (λ ts. Contains (exponents ts) n) low x xs (λ z. absurd (ne (ap f same ∙ gives_head f low x xs g ∙ z))) (λ _. contains-head n low (exponents (terms_from (low +ℤ pos 1) xs)) (sym same)))

gives_coefficients : (t : Terms ℤ) → Gives (coefficient wholes t) t.low t.coefficients
gives_coefficients t k h =
    let e : above t.low (t.low +ℤ pos k) ≡ k = omega (arith, ints, above_is t.low (t.low +ℤ pos k)) in
    coefficient_at wholes t (t.low +ℤ pos k) (omega (arith, ints)) ∙ ap (at wholes t.coefficients) e

pub terms_of-are_terms : (t : Terms ℤ) → AreTerms (coefficient wholes t) (upto t) (terms_of t)
terms_of-are_terms t = record {
  rises = rises t.low t.coefficients;
  each = each_is (coefficient wholes t) (upto t) t.low t.coefficients (omega (arith, ints)) (gives_coefficients t);
  whole = λ n h ne. by_lt_z n t.low
      (λ below. absurd (ne (coefficient_below wholes t n below)))
      (λ from_low. among (coefficient wholes t) t.low t.coefficients n (gives_coefficients t) from_low (omega (arith, ints)) ne);
}

tells_rows : (f : Family ℤ) (rows : List (Row ℤ)) → AllByRecursion (IsRow IsAny wholes f.heights f.top f.upto) rows → AllByRecursion (λ row. TellsRow f row (section_of f.heights row)) rows
tells_rows f [] h = tt
tells_rows f (row ∷ rows) h = (
  record {
    degree = refl;
    entries = refl;
    terms = subst (λ (u : ℤ). AreTerms (coefficient wholes row.series) u (terms_of row.series)) h.0.known (terms_of-are_terms row.series);
  },
  tells_rows f rows h.1,
)

pub sections_tell : SectionsTell
sections_tell f h = tells_rows f f.rows h.rows

-- ---- one coefficient more

pub terms_from-append : (low : ℤ) (xs ys : List ℤ) → terms_from low (xs ++ ys) ≡ terms_from low xs ++ terms_from (low +ℤ pos (length xs)) ys
terms_from-append low [] ys = ap (λ n. terms_from n ys) (omega (arith, ints))
terms_from-append low (x ∷ xs) ys =
    let later : terms_from (low +ℤ pos 1) (xs ++ ys) ≡ terms_from (low +ℤ pos 1) xs ++ terms_from (low +ℤ pos (length (x ∷ xs))) ys = terms_from-append (low +ℤ pos 1) xs ys ∙ ap (λ n. terms_from (low +ℤ pos 1) xs ++ terms_from n ys) (omega (arith, ints)) in
    by (is_zero x) later
  where
    by : (b : Bool) → terms_from (low +ℤ pos 1) (xs ++ ys) ≡ terms_from (low +ℤ pos 1) xs ++ terms_from (low +ℤ pos (length (x ∷ xs))) ys →
        (if b then terms_from (low +ℤ pos 1) (xs ++ ys) else term low x ∷ terms_from (low +ℤ pos 1) (xs ++ ys)) ≡ (if b then terms_from (low +ℤ pos 1) xs else term low x ∷ terms_from (low +ℤ pos 1) xs) ++ terms_from (low +ℤ pos (length (x ∷ xs))) ys
    by true e = e
    by false e = ap (λ ts. term low x ∷ ts) e

-- what is kept after the exponents below n
pub record AreKept (t : Terms ℤ) (n : ℤ) (ts : List Term) : Type 0 where
  pub from_low : t.low ≤ℤ n
  pub through : n ≤ℤ (upto t +ℤ pos 1)
  pub value : ts ≡ terms_from t.low (take (above t.low n) t.coefficients)
  pub small : AllByRecursion IsSmallTerm ts

pub none_kept : (t : Terms ℤ) (n : ℤ) (ts : List Term) → n ≡ t.low → ts ≡ [] → AreKept t n ts
none_kept t n ts e z =
    let none : above t.low n ≡ 0 = omega (arith, ints, above_is t.low n) in
    rw z (record {
      from_low = omega (arith, ints);
      through = omega (arith, ints);
      value = rw none refl;
      small = tt;
    })

pub one_kept : (t : Terms ℤ) (n m : ℤ) (ts us : List Term) → n ≤ℤ upto t → m ≡ n +ℤ pos 1 → AreKept t n ts → us ≡ ts ++ terms_from n (at wholes t.coefficients (above t.low n) ∷ []) → (AllByRecursion IsSmallTerm ts → AllByRecursion IsSmallTerm us) → AreKept t m us
unfolding at
one_kept t n m ts us h e kept more small =
    let l = kept.from_low in
    let i = above t.low n in
    let within : i < length t.coefficients = omega (arith, ints, above_is t.low n) in
    let next : above t.low m ≡ i + 1 = omega (arith, ints, above_is t.low n, above_is t.low m) in
    let x = at wholes t.coefficients i in
    let count : length (take i t.coefficients) ≡ i = length-take-le i t.coefficients (omega arith) in
    let last : t.low +ℤ pos (length (take i t.coefficients)) ≡ n = rw count (above_adds t.low n l) in
    record {
      from_low = omega (arith, ints);
      through = omega (arith, ints);
      value = more ∙ ap (λ us. us ++ terms_from n (x ∷ [])) kept.value ∙ ap (λ k. terms_from t.low (take i t.coefficients) ++ terms_from k (x ∷ [])) (sym last)
          ∙ sym (terms_from-append t.low (take i t.coefficients) (x ∷ []))
          ∙ ap (terms_from t.low) (sym (take_more t.coefficients i (pos 0) within) ∙ ap (λ k. take k t.coefficients) (sym next));
      small = small kept.small;
    }

pub all_kept : (t : Terms ℤ) (n : ℤ) (ts : List Term) → (upto t +ℤ pos 1) ≤ℤ n → AreKept t n ts → ts ≡ terms_of t
all_kept t n ts h kept =
    let all : length t.coefficients ≤ above t.low n = omega (arith, ints, above_is t.low n) in
    kept.value ∙ ap (terms_from t.low) (take_all (above t.low n) t.coefficients all)

-- ---- one section more

pub sections_more : (hs : List ℤ) (rows : List (Row ℤ)) (k : ℕ) (row : Row ℤ) (ss us : List Section) → slice_get rows k ≡ Some row → ss ≡ map (section_of hs) (take k rows) → us ≡ ss ++ section_of hs row ∷ [] → us ≡ map (section_of hs) (take (k + 1) rows)
sections_more hs rows k row ss us e h n =
    let within = slice_get_within rows k row e in
    let last : take (k + 1) rows ≡ take k rows ++ row ∷ [] = take_more rows k row within ∙ ap (λ x. take k rows ++ x ∷ []) (get_or_from_slice_get rows k row row e) in
    n ∙ ap (λ ss. ss ++ section_of hs row ∷ []) h ∙ sym (ap (map (section_of hs)) last ∙ map-append (section_of hs) (take k rows) (row ∷ []))
