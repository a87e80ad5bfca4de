-- The least of a list, one member after the other.
use Rattle.std.specs.Prelude.{◌≡◌, Contains, ◌≤◌, ℤ, pos, ◌≤ℤ◌, List, [], ◌∷◌, unsigned_abs}
use Rattle.std.specs.Int.{int_min}
use Rattle.std.specs.List.{AllByRecursion}
use Rattle.std.proofs.Common.{refl, sym, ap, subst, ◌∙◌, arith, ℕ}
use Rattle.std.proofs.lemmas.Int.{ints, clamps}
use Rattle.tv_lemmas.proofs.Members.{all-members}
use Rattle.tv_spec_plane.specs.Web.{Web}
use Rattle.tv_spec_boxes.specs.Assignments.{Assignment, assignments, no_legs}
use Rattle.tv_spec_boxes.specs.Numbers.{least, low_of, lowest}

least-step : {A : Type 0} (f : A → ℤ) (x : A) (xs : List A) → least f (x ∷ xs) ≡ int_min (f x) (least f xs)
unfolding least
least-step f x xs = refl

least-none : {A : Type 0} (f : A → ℤ) → least f [] ≡ pos 0
unfolding least
least-none f = refl

least-low : {A : Type 0} (f : A → ℤ) (xs : List A) → least f xs ≤ℤ pos 0
unfolding least
least-low f [] = omega (arith, ints)
least-low f (x ∷ xs) = let rest = least-low f xs in omega (arith, ints, clamps)

pub least-first : (w : Web) (d : ℕ) (coming : List Assignment) → coming ≡ assignments w d → int_min (pos 0) (least (low_of w (no_legs w)) coming) ≡ lowest w (no_legs w) d
unfolding lowest
least-first w d coming e =
    let low = least-low (low_of w (no_legs w)) coming in
    lesser (least (low_of w (no_legs w)) coming) low ∙ ap (least (low_of w (no_legs w))) e
  where
    lesser : (z : ℤ) → z ≤ℤ pos 0 → int_min (pos 0) z ≡ z
    lesser z h = omega (arith, ints, clamps)

pub all-listed : (w : Web) (d : ℕ) (coming : List Assignment) → coming ≡ assignments w d → AllByRecursion (Contains (assignments w d)) coming
all-listed w d coming e = subst (AllByRecursion (Contains (assignments w d))) (sym e) (all-members (assignments w d))

pub least-bound : (now x next : ℤ) → next ≡ int_min now x → unsigned_abs now ≤ 10000000 → unsigned_abs x ≤ 10000000 → now ≤ℤ pos 0 → (next ≤ℤ pos 0) × (unsigned_abs next ≤ 10000000)
least-bound now x next e hn hx low = (omega (arith, ints, clamps), omega (arith, ints, clamps))

pub least-next : {A : Type 0} (f : A → ℤ) (coming later : List A) (a : A) (now next x whole : ℤ) → coming ≡ a ∷ later → x ≡ f a → next ≡ int_min now x → int_min now (least f coming) ≡ whole → int_min next (least f later) ≡ whole
least-next f coming later a now next x whole is value taken before =
    let step : least f coming ≡ int_min (f a) (least f later) = ap (least f) is ∙ least-step f a later in
    omega (arith, ints, clamps)

pub least-last : {A : Type 0} (f : A → ℤ) (coming : List A) (now whole : ℤ) → coming ≡ [] → now ≤ℤ pos 0 → int_min now (least f coming) ≡ whole → now ≡ whole
least-last f coming now whole none low e =
    let zero : least f coming ≡ pos 0 = ap (least f) none ∙ least-none f in
    omega (arith, ints, clamps)

pub lowest-low : (w : Web) (d : ℕ) → lowest w (no_legs w) d ≤ℤ pos 0
unfolding lowest
lowest-low w d = least-low (low_of w (no_legs w)) (assignments w d)
