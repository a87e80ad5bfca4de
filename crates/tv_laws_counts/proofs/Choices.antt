-- The listed assignments: one diagram for each degree, whose sizes times degrees add up to at most the bound; those
-- within a lesser bound are among them.
--
-- degree_by gs a  == the sum of sizes times degrees
-- IsChoice gs d a == a has a diagram for each degree, and that sum is at most d
use Rattle.std.specs.Prelude.{◌≡◌, ℕ, zero, suc, ◌+◌, ◌-◌, ◌*◌, ◌≤◌, ◌<◌, Bool, true, false, cond, nat_eq, nat_le, List, [], ◌∷◌, ◌++◌, map, filter, length}
use Rattle.std.specs.List.{flat_map, AllByRecursion, range_with_len}
use Rattle.std.specs.Cmp.Lexicographic.{pointwise}
use Rattle.std.proofs.Common.{refl, sym, ap, ◌∙◌, arith, eq-eqb}
use Rattle.std.proofs.lemmas.Bool.Decides.{nat_tests}
use Rattle.tv_spec_plane.specs.Web.{below}
use Rattle.tv_partition.specs.Rows.{IsDiagram, size, diagrams}
use Rattle.tv_partition.proofs.Members.{diagrams-are-all}
use Rattle.tv_spec_boxes.specs.Assignments.{Rows, Assignment, choices}
use Rattle.tv_lemmas.proofs.Lists.{flat_map-none}
use Rattle.tv_laws_counts.specs.Ways.{IsAtMost}
use Rattle.tv_lemmas.proofs.Lists.{flat_map-same, flat_map-same_on, flat_map-filter, filter-map, filter-flat_map, filter-same_on, filter-none}
use Rattle.tv_lemmas.proofs.Members.{all-flat_map, all-map, all-any, all-filter, all-found}

abbrev pub degree_by : List ℕ → Assignment → ℕ
degree_by [] a = 0
degree_by (g ∷ gs) [] = 0
degree_by (g ∷ gs) (rows ∷ a) = size rows * g + degree_by gs a

pub record IsChoice (gs : List ℕ) (d : ℕ) (a : Assignment) : Type 0 where
  pub one_each : length a ≡ length gs
  pub diagrams : AllByRecursion IsDiagram a
  pub within : degree_by gs a ≤ d

-- a diagram of that size
abbrev pub HasSize : ℕ → Rows → Type 0
HasSize n rows = IsDiagram rows × (size rows ≡ n)

pub own : (rows : Rows) → pointwise nat_eq rows rows ≡ true
own [] = refl
own (row ∷ rows) = let e : nat_eq row row ≡ true = eq-eqb row row refl in rw e (own rows)

pub diagrams_are : (n : ℕ) → AllByRecursion (HasSize n) (diagrams n)
diagrams_are n = all-found (HasSize n) (pointwise nat_eq) own (diagrams n) (λ rows among. (diagrams-are-all n rows).0 among)

one_more : (g : ℕ) (gs : List ℕ) (d n : ℕ) (rows : Rows) (a : Assignment) → nat_le (n * g) d ≡ true → HasSize n rows → IsChoice gs (d - (n * g)) a → IsChoice (g ∷ gs) d (rows ∷ a)
one_more g gs d n rows a fits is rest =
    let few : n * g ≤ d = grind (arith, nat_tests) in
    let cells : size rows * g ≡ n * g = ap (λ k. k * g) is.1 in
    record { one_each = ap suc rest.one_each; diagrams = (is.0, rest.diagrams); within = omega (arith, rest.within) }

pub choices_are : (gs : List ℕ) (d : ℕ) → AllByRecursion (IsChoice gs d) (choices gs d)
unfolding choices
choices_are [] d = (record { one_each = refl; diagrams = tt; within = omega arith }, tt)
choices_are (g ∷ gs) d =
    all-flat_map (λ (n : ℕ). nat_le (n * g) d ≡ true) (IsChoice (g ∷ gs) d) (λ (n : ℕ). flat_map (λ rows. map (λ a. rows ∷ a) (choices gs (d - (n * g)))) (diagrams n))
    (λ n fits. all-flat_map (HasSize n) (IsChoice (g ∷ gs) d) (λ (rows : Rows). map (λ a. rows ∷ a) (choices gs (d - (n * g))))
    (λ rows is. all-map (IsChoice gs (d - (n * g))) (IsChoice (g ∷ gs) d) (λ (a : Assignment). rows ∷ a) (λ a rest. one_more g gs d n rows a fits is rest) (choices gs (d - (n * g))) (choices_are gs (d - (n * g))))
    (diagrams n) (diagrams_are n))
    (filter (λ n. nat_le (n * g) d) (below (suc d)))
    (all-filter (λ (n : ℕ). Unit {0}) (λ (n : ℕ). nat_le (n * g) d ≡ true) (λ n. nat_le (n * g) d) (λ n none e. e) (below (suc d)) (all-any (λ (n : ℕ). Unit {0}) (λ n. tt) (below (suc d))))

-- where each degree is at least 1, no diagram has more than d cells
pub times-more : (n g : ℕ) → 0 < g → n ≤ n * g
times-more n zero h = absurd (omega arith)
times-more n (suc g) h = omega arith

pub choice_small : (gs : List ℕ) (d : ℕ) (a : Assignment) → AllByRecursion (λ g. 0 < g) gs → length a ≡ length gs → AllByRecursion IsDiagram a → degree_by gs a ≤ d → AllByRecursion (IsAtMost d) a
choice_small gs d [] one e all h = tt
choice_small [] d (rows ∷ a) one e all h = absurd (omega arith)
choice_small (g ∷ gs) d (rows ∷ a) one e all h =
    let few = times-more (size rows) g one.0 in
    ((all.0, omega arith), choice_small gs d a one.1 (omega arith) all.1 (omega arith))

-- within a lesser bound
abbrev within : List ℕ → ℕ → Assignment → Bool
within gs m a = nat_le (degree_by gs a) m

-- the assignments whose first diagram has n cells
abbrev starting : ℕ → List ℕ → ℕ → ℕ → List Assignment
starting g gs d n = flat_map (λ rows. map (λ a. rows ∷ a) (choices gs (d - (n * g)))) (diagrams n)

cut : ℕ → List ℕ → ℕ → ℕ → List Assignment
cut g gs d n = cond (nat_le (n * g) d) (starting g gs d n) []

choices-cut : (g : ℕ) (gs : List ℕ) (d : ℕ) → choices (g ∷ gs) d ≡ flat_map (cut g gs d) (below (suc d))
unfolding choices cut
choices-cut g gs d = flat_map-filter (λ n. nat_le (n * g) d) (starting g gs d) (below (suc d))

below-more : {B : Type 0} (f : ℕ → List B) (k m n : ℕ) → m ≤ n → ((j : ℕ) → k + m ≤ j → f j ≡ []) → flat_map f (range_with_len k n) ≡ flat_map f (range_with_len k m)
below-more f k zero zero h none = refl
below-more f k zero (suc n) h none = ap (λ ys. ys ++ flat_map f (range_with_len (k + 1) n)) (none k (omega arith)) ∙ below-more f (k + 1) zero n (omega arith) (λ j p. none j (omega arith))
below-more f k (suc m) zero h none = absurd (omega arith)
below-more f k (suc m) (suc n) h none = ap (λ ys. f k ++ ys) (below-more f (k + 1) m n (omega arith) (λ j p. none j (omega arith)))

cut-past : (g : ℕ) (gs : List ℕ) (d n : ℕ) → 0 < g → d < n → cut g gs d n ≡ []
unfolding cut
cut-past g gs d n one past = let more = times-more n g one in let no : nat_le (n * g) d ≡ false = grind (arith, nat_tests) in rw no refl

-- of the assignments whose first diagram has n cells
filter-starting : (g : ℕ) (gs : List ℕ) (m d n : ℕ) → filter (within (g ∷ gs) m) (starting g gs d n) ≡ flat_map (λ rows. map (λ a. rows ∷ a) (filter (λ a. within (g ∷ gs) m (rows ∷ a)) (choices gs (d - (n * g))))) (diagrams n)
filter-starting g gs m d n =
    filter-flat_map (within (g ∷ gs) m) (λ rows. map (λ a. rows ∷ a) (choices gs (d - (n * g)))) (diagrams n)
    ∙ flat_map-same (λ rows. filter (within (g ∷ gs) m) (map (λ a. rows ∷ a) (choices gs (d - (n * g))))) (λ rows. map (λ a. rows ∷ a) (filter (λ a. within (g ∷ gs) m (rows ∷ a)) (choices gs (d - (n * g)))))
    (λ rows. filter-map (within (g ∷ gs) m) (λ a. within (g ∷ gs) m (rows ∷ a)) (λ a. rows ∷ a) (λ a. refl) (choices gs (d - (n * g)))) (diagrams n)

test-rest : (x y m c : ℕ) → x ≡ c → c ≤ m → nat_le (x + y) m ≡ nat_le y (m - c)
test-rest x y m c e h = grind (arith, nat_tests)

test-past : (x y m c : ℕ) → x ≡ c → m < c → nat_le (x + y) m ≡ false
test-past x y m c e h = grind (arith, nat_tests)

abbrev Within : List ℕ → Type 0
Within gs = (m d : ℕ) → m ≤ d → choices gs m ≡ filter (within gs m) (choices gs d)

starting-within : (g : ℕ) (gs : List ℕ) (m d n : ℕ) → Within gs → m ≤ d → n * g ≤ m → filter (within (g ∷ gs) m) (starting g gs d n) ≡ starting g gs m n
starting-within g gs m d n rest h fits =
    filter-starting g gs m d n
    ∙ flat_map-same_on (HasSize n) (λ rows. map (λ a. rows ∷ a) (filter (λ a. within (g ∷ gs) m (rows ∷ a)) (choices gs (d - (n * g))))) (λ rows. map (λ a. rows ∷ a) (choices gs (m - (n * g))))
    (λ rows is. ap (map (λ a. rows ∷ a))
    (filter-same_on (λ (a : Assignment). Unit {0}) (λ a. within (g ∷ gs) m (rows ∷ a)) (within gs (m - (n * g))) (λ a none. test-rest (size rows * g) (degree_by gs a) m (n * g) (ap (λ k. k * g) is.1) fits) (choices gs (d - (n * g))) (all-any (λ (a : Assignment). Unit {0}) (λ a. tt) (choices gs (d - (n * g))))
    ∙ sym (rest (m - (n * g)) (d - (n * g)) (omega arith))))
    (diagrams n) (diagrams_are n)

starting-past : (g : ℕ) (gs : List ℕ) (m d n : ℕ) → m < n * g → filter (within (g ∷ gs) m) (starting g gs d n) ≡ []
starting-past g gs m d n past =
    filter-starting g gs m d n
    ∙ (flat_map-same_on (HasSize n) (λ rows. map (λ a. rows ∷ a) (filter (λ a. within (g ∷ gs) m (rows ∷ a)) (choices gs (d - (n * g))))) (λ rows. [])
    (λ rows is. ap (map (λ a. rows ∷ a)) (filter-none (λ a. within (g ∷ gs) m (rows ∷ a)) (λ a. test-past (size rows * g) (degree_by gs a) m (n * g) (ap (λ k. k * g) is.1) past) (choices gs (d - (n * g)))))
    (diagrams n) (diagrams_are n)
    ∙ flat_map-none (diagrams n))

-- by the two tests
cut-by : (g : ℕ) (gs : List ℕ) (m d n : ℕ) (b c : Bool) → nat_le (n * g) m ≡ b → nat_le (n * g) d ≡ c → Within gs → m ≤ d → filter (within (g ∷ gs) m) (cond c (starting g gs d n) []) ≡ cond b (starting g gs m n) []
cut-by g gs m d n true true e f rest h = starting-within g gs m d n rest h (let k : n * g ≤ m = grind (arith, nat_tests) in k)
cut-by g gs m d n false true e f rest h = starting-past g gs m d n (let k : m < n * g = grind (arith, nat_tests) in k)
cut-by g gs m d n false false e f rest h = refl
cut-by g gs m d n true false e f rest h = absurd (let k : ⊥ = grind (arith, nat_tests) in k)

cut-within : (g : ℕ) (gs : List ℕ) (m d n : ℕ) → Within gs → m ≤ d → filter (within (g ∷ gs) m) (cut g gs d n) ≡ cut g gs m n
unfolding cut
cut-within g gs m d n rest h = cut-by g gs m d n (nat_le (n * g) m) (nat_le (n * g) d) refl refl rest h

choices-none : (m d : ℕ) → choices [] m ≡ filter (λ a. nat_le (degree_by [] a) m) (choices [] d)
unfolding choices
choices-none m d = let e : nat_le 0 m ≡ true = grind (arith, nat_tests) in rw e refl

pub choices-within : (gs : List ℕ) → AllByRecursion (λ g. 0 < g) gs → (m d : ℕ) → m ≤ d → choices gs m ≡ filter (λ a. nat_le (degree_by gs a) m) (choices gs d)
choices-within [] one m d h = choices-none m d
choices-within (g ∷ gs) one m d h =
    choices-cut g gs m
    ∙ (sym (below-more (cut g gs m) 0 (suc m) (suc d) (omega arith) (λ n past. cut-past g gs m n one.0 (omega arith)))
    ∙ (sym (flat_map-same (λ n. filter (within (g ∷ gs) m) (cut g gs d n)) (cut g gs m) (λ n. cut-within g gs m d n (choices-within gs one.1) h) (below (suc d)))
    ∙ (sym (filter-flat_map (within (g ∷ gs) m) (cut g gs d) (below (suc d)))
    ∙ ap (filter (within (g ∷ gs) m)) (sym (choices-cut g gs d)))))
