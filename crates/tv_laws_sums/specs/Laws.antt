-- Running sums between the slices of neighbouring diagonals, as laws.
--
-- IsLow top n s     == the slice has no place from n on, and its heights are below top
-- AreLow top n rows == each slice of the rows is so
-- RunningSums       == where place p is replaced, the ways up to each height that it can get are the running sums of the ways up to
--                      the heights it had, from one end of its range to the other, when the extras of the new height are paid
-- NoneOutside       == no ways lead up to another height
-- FirstIsSame       == where no place is replaced, h is mixed with a slice only if it has the heights of that slice
-- LastInterlaces    == where all places are replaced, h is mixed with exactly the slices with which it interlaces
-- LastSpends        == then what is spent are its extras
-- LastSums          == so the ways up to a slice are the sum of those up to the slices with which it interlaces, when its extras are paid
-- SumsAreWays       == and where all slices that fit are summed, these are the ways up to it
-- LeftBegins        == where no place is replaced, at least the completion of the slice is left
-- LeftSteps         == when a place is replaced, what is left and what is spent are together no less than what was left before
-- LeftRises         == of the heights that are met one after the other, a later one leaves no less
-- LeftEnds          == where all places are replaced, at most the completion of the slice is left
use Rattle.std.specs.Prelude.{◌≡◌, ℕ, suc, ◌+◌, ◌<◌, ◌≤◌, ℤ, pos, ◌+ℤ◌, ◌⊎◌, neg_ℤ, ◌≤ℤ◌, Bool, true, cond, nat_eq, List}
use Rattle.std.specs.List.{AllByRecursion}
use Rattle.tv_lemmas.specs.Sums.{sum_of}
use Rattle.tv_cells.specs.declared.legs.Legs.{Legs}
use Rattle.tv_cells.specs.Cells.{below}
use Rattle.tv_cells.specs.Extras.{extent, AreDiagrams}
use Rattle.tv_spec_slices.specs.Slices.{Shape, at, reach, all_below, interlaces, over, fits, extras_of, completion}
use Rattle.tv_spec_slices.specs.Paths.{fitting, ways_at}
use Rattle.tv_laws_sums.specs.Mixed.{grows, value, place, mixed, put, lowest, highest, nth}
use Rattle.tv_laws_sums.specs.Sums.{charged, spent, left, through}

pub record IsLow (top n : ℕ) (s : Shape) : Type 0 where
  pub short : reach s ≤ n
  pub low : (d : ℕ) → at s d < top

abbrev pub AreLow : ℕ → ℕ → List Shape → Type 0
AreLow top n slices = AllByRecursion (IsLow top n) slices

-- a height at the place that is replaced next, where m others are met before
abbrev pub met : ℤ → ℕ → ℕ → ℕ → (ℕ → ℕ) → ℕ → ℕ
met t top n i h m = nth (grows t) (lowest h (place (grows t) n i)) (highest top h (place (grows t) n i)) m

abbrev pub RunningSums : Type 0
RunningSums =
    (legs : Legs) (k : ℕ) (t : ℤ) (top n i : ℕ) (slices : List Shape) (h : ℕ → ℕ) (j c : ℕ) → AreLow top n slices → i < n → h n ≡ 0 → lowest h (place (grows t) n i) + j ≤ highest top h (place (grows t) n i) →
    through legs k t top n (suc i) slices (put h (place (grows t) n i) (met t top n i h j)) c
    ≡ charged (λ e. sum_of (λ m. through legs k t top n i slices (put h (place (grows t) n i) (met t top n i h m)) e) (below (suc j))) (over legs (t +ℤ pos 1) (met t top n i h j) (place (grows t) n i)) c

abbrev pub NoneOutside : Type 0
NoneOutside =
    (legs : Legs) (k : ℕ) (t : ℤ) (top n i : ℕ) (slices : List Shape) (h : ℕ → ℕ) (y c : ℕ) → AreLow top n slices → i < n → h n ≡ 0 → (y < lowest h (place (grows t) n i)) ⊎ (highest top h (place (grows t) n i) < y) →
    through legs k t top n (suc i) slices (put h (place (grows t) n i) y) c ≡ 0

abbrev pub FirstIsSame : Type 0
FirstIsSame = (g : Bool) (top n : ℕ) (a h : ℕ → ℕ) → mixed g top n 0 a h ≡ all_below n (λ d. nat_eq (h d) (a d))

abbrev pub LastInterlaces : Type 0
LastInterlaces = (t : ℤ) (top n : ℕ) (a b : Shape) → IsLow top n a → IsLow top n b → mixed (grows t) top n n (value top a) (value top b) ≡ interlaces t a b

abbrev pub LastSpends : Type 0
LastSpends = (legs : Legs) (t : ℤ) (top n : ℕ) (b : Shape) → AreDiagrams legs → fits legs (t +ℤ pos 1) b ≡ true → IsLow top n b → spent legs t n n (value top b) ≡ extras_of legs (t +ℤ pos 1) b

abbrev pub LastSums : Type 0
LastSums =
    (legs : Legs) (k : ℕ) (t : ℤ) (top n : ℕ) (slices : List Shape) (b : Shape) (c : ℕ) → AreDiagrams legs → fits legs (t +ℤ pos 1) b ≡ true → IsLow top n b → AreLow top n slices →
    through legs k t top n n slices (value top b) c ≡ sum_of (λ a. cond (interlaces t a b) (charged (ways_at legs k t a) (extras_of legs (t +ℤ pos 1) b) c) 0) slices

abbrev pub SumsAreWays : Type 0
SumsAreWays =
    (legs : Legs) (k : ℕ) (t : ℤ) (top n : ℕ) (b : Shape) (c : ℕ) → AreDiagrams legs → neg_ℤ (pos (k + extent legs)) ≤ℤ t → fits legs (t +ℤ pos 1) b ≡ true → IsLow top n b → AreLow top n (fitting legs t k) →
    through legs k t top n n (fitting legs t k) (value top b) c ≡ ways_at legs k (t +ℤ pos 1) b c

abbrev pub LeftBegins : Type 0
LeftBegins = (legs : Legs) (t : ℤ) (top n : ℕ) (a : Shape) → IsLow top n a → completion legs t a ≤ left legs t n 0 (value top a)

abbrev pub LeftSteps : Type 0
LeftSteps =
    (legs : Legs) (t : ℤ) (top n i : ℕ) (h : ℕ → ℕ) (j : ℕ) → i < n → lowest h (place (grows t) n i) + j ≤ highest top h (place (grows t) n i) →
    left legs t n i (put h (place (grows t) n i) (met t top n i h j)) ≤ left legs t n (suc i) (put h (place (grows t) n i) (met t top n i h j)) + over legs (t +ℤ pos 1) (met t top n i h j) (place (grows t) n i)

abbrev pub LeftRises : Type 0
LeftRises =
    (legs : Legs) (t : ℤ) (top n i : ℕ) (h : ℕ → ℕ) (m j : ℕ) → i < n → m ≤ j →
    left legs t n i (put h (place (grows t) n i) (met t top n i h m)) ≤ left legs t n i (put h (place (grows t) n i) (met t top n i h j))

abbrev pub LeftEnds : Type 0
LeftEnds = (legs : Legs) (t : ℤ) (top n : ℕ) (b : Shape) → AreDiagrams legs → fits legs (t +ℤ pos 1) b ≡ true → IsLow top n b → left legs t n n (value top b) ≤ completion legs (t +ℤ pos 1) b
