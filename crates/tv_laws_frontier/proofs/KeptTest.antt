-- The test of what is kept is the relation, and a test of the extras of one assignment.
use Rattle.std.specs.Prelude.{◌≡◌, ℕ, zero, suc, ◌≤◌, Bool, true, ◌&&◌, int_le, ℤ, pos, ◌+ℤ◌, ◌≤ℤ◌, List, [], ◌∷◌, length, take}
use Rattle.std.proofs.Common.{refl, sym, ap, ◌∙◌, arith, inl, inr}
use Rattle.std.proofs.lemmas.Int.{ints}
use Rattle.std.proofs.lemmas.Bool.{and_parts, cases_eq}
use Rattle.tv_spec_plane.specs.Web.{Web}
use Rattle.tv_cells.specs.declared.cell.Cell.{Cell}
use Rattle.tv_spec_boxes.specs.Assignments.{Assignment, no_legs}
use Rattle.tv_spec_boxes.specs.Configurations.{Configuration, boxes_of}
use Rattle.tv_spec_partial.specs.Partial.{partial_chi}
use Rattle.tv_laws_frontier.specs.Frontier.{start_after}
use Rattle.tv_laws_frontier.specs.Kept.{restricted, is_low, is_kept}
use Rattle.tv_laws_frontier.specs.Laws.{KeptIsTold}
use Rattle.tv_lemmas.proofs.Tests.{most_tells, most-true}

kept-each : (w : Web) (m : ℤ) (t : ℕ) (c : Configuration) → is_kept w m t c ≡ true → (s : ℕ) → s ≤ t → is_low w m s c ≡ true
unfolding is_kept
kept-each w m zero c h s le = let e : s ≡ 0 = omega arith in rw e h
kept-each w m (suc t) c h s le =
    let parts = and_parts (is_kept w m t c) (is_low w m (suc t) c) h in
    elim (cases_eq s (suc t)) [ inl e ↦ rw e parts.1 | inr ne ↦ kept-each w m t c parts.0 s (omega (arith, ne)) ]

each-kept : (w : Web) (m : ℤ) (t : ℕ) (c : Configuration) → ((s : ℕ) → s ≤ t → is_low w m s c ≡ true) → is_kept w m t c ≡ true
unfolding is_kept
each-kept w m zero c each = each 0 (omega arith)
each-kept w m (suc t) c each = let first = each-kept w m t c (λ s le. each s (omega arith)) in let last = each (suc t) (omega arith) in rw (first, last) refl

pub kept_is_told : KeptIsTold
kept_is_told w m t c =
    ((λ h s le. most_tells (partial_chi w s (restricted w s c)) m (kept-each w m t c h s le)), (λ each. each-kept w m t c (λ s le. most-true (partial_chi w s (restricted w s c)) m (each s le))))

-- ---- the test on the extras of one assignment

unfoldable pub passes : Web → ℤ → ℕ → Assignment → List (List Cell) → Bool
passes w m zero a sets = int_le (start_after w (no_legs w) 0 a +ℤ pos (boxes_of (take 0 sets))) m
passes w m (suc t) a sets = passes w m t a sets && int_le (start_after w (no_legs w) (suc t) a +ℤ pos (boxes_of (take (suc t) sets))) m

pub take-take : {A : Type 0} (s t : ℕ) (xs : List A) → s ≤ t → take s (take t xs) ≡ take s xs
take-take zero t xs h = refl
take-take (suc s) zero xs h = absurd (omega arith)
take-take (suc s) (suc t) [] h = refl
take-take (suc s) (suc t) (x ∷ xs) h = ap (λ ys. x ∷ ys) (take-take s t xs (omega arith))

pub passes-front : (w : Web) (m : ℤ) (s t : ℕ) (a : Assignment) (sets : List (List Cell)) → s ≤ t → passes w m s a sets ≡ passes w m s a (take t sets)
unfolding passes
passes-front w m zero t a sets h = refl
passes-front w m (suc s) t a sets h =
    ap (λ b. b && int_le (start_after w (no_legs w) (suc s) a +ℤ pos (boxes_of (take (suc s) sets))) m) (passes-front w m s t a sets (omega arith))
    ∙ ap (λ x. passes w m s a (take t sets) && int_le (start_after w (no_legs w) (suc s) a +ℤ pos (boxes_of x)) m) (sym (take-take (suc s) t sets h))

take-whole : {A : Type 0} (t : ℕ) (xs : List A) → length xs ≤ t → take t xs ≡ xs
take-whole zero [] h = refl
take-whole zero (x ∷ xs) h = absurd (omega arith)
take-whole (suc t) [] h = refl
take-whole (suc t) (x ∷ xs) h = ap (λ ys. x ∷ ys) (take-whole t xs (omega arith))

pub passes-last : (w : Web) (m : ℤ) (t : ℕ) (a : Assignment) (sets : List (List Cell)) (b : ℕ) → length sets ≤ suc t → boxes_of sets ≡ b → (passes w m t a sets && int_le (start_after w (no_legs w) (suc t) a +ℤ pos b) m) ≡ passes w m (suc t) a sets
unfolding passes
passes-last w m t a sets b h e = ap (λ n. passes w m t a sets && int_le (start_after w (no_legs w) (suc t) a +ℤ pos n) m) (sym e ∙ ap boxes_of (sym (take-whole (suc t) sets h)))
