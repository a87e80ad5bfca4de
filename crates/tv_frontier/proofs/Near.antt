-- What is picked by truths is what the corner and the choices are: the diagrams on the pending edges, the degrees, and the class
-- of what a corner sees.
use Rattle.std.specs.Prelude.{◌≡◌, ℕ, zero, suc, Bool, true, false, cond, ◌&&◌, ◌||◌, not, nat_lt, ℤ, pos, ◌+ℤ◌, List, [], ◌∷◌, map, filter, length, slice_index_or}
use Rattle.std.proofs.Common.{refl, sym, ap, ◌∙◌, arith}
use Rattle.std.proofs.lemmas.Int.{ints}
use Rattle.tv_lemmas.specs.Sums.{plus}
use Rattle.tv_spec_plane.specs.declared.records.CompactEdge.{CompactEdge}
use Rattle.tv_spec_plane.specs.Web.{Web, compact}
use Rattle.tv_spec_boxes.specs.Assignments.{Rows, Assignment, class_of}
use Rattle.tv_spec_boxes.proofs.Vectors.{length-class_of, length-plus}
use Rattle.tv_spec_partial.specs.Partial.{is_met, is_pending, is_empty, rests_on, chosen}
use Rattle.tv_laws_frontier.specs.Steps.{put, nothing, new_part, near_part}
use Rattle.tv_laws_frontier.proofs.Classes.{entries-same, class-entry}
use Rattle.tv_laws_frontier.proofs.First.{nothing-long}
use Rattle.tv_laws_frontier.proofs.Placed.{put-long}
use Rattle.tv_frontier.specs.Picks.{picks}

pub pending-picks : (t : ℕ) (es : List CompactEdge) (a : Assignment) → picks (map (is_pending t) es) a ≡ chosen t es a
pending-picks t [] a = refl
pending-picks t (e ∷ es) [] = refl
pending-picks t (e ∷ es) (d ∷ a) = rw (pending-picks t es a) refl

pub mapped-picks : {A : Type 0} (p : CompactEdge → Bool) (f : CompactEdge → A) (es : List CompactEdge) → picks (map p es) (map f es) ≡ map f (filter p es)
mapped-picks p f [] = refl
mapped-picks p f (e ∷ es) = by_test (p e) (mapped-picks p f es)
  where
    by_test : (b : Bool) → picks (map p es) (map f es) ≡ map f (filter p es) → cond b (f e ∷ picks (map p es) (map f es)) (picks (map p es) (map f es)) ≡ map f (cond b (e ∷ filter p es) (filter p es))
    by_test true rest = ap (λ xs. f e ∷ xs) rest
    by_test false rest = rest

-- ---- the class of what a corner sees

at-plus : (u v : List ℤ) → length u ≡ length v → (k : ℕ) → slice_index_or (plus u v) k (pos 0) ≡ slice_index_or u k (pos 0) +ℤ slice_index_or v k (pos 0)
at-plus [] [] e k = omega (arith, ints)
at-plus [] (y ∷ v) e k = absurd (omega arith)
at-plus (x ∷ u) [] e k = absurd (omega arith)
at-plus (x ∷ u) (y ∷ v) e zero = refl
at-plus (x ∷ u) (y ∷ v) e (suc k) = at-plus u v (omega arith) k

met-pending : (t : ℕ) (e : CompactEdge) → is_pending t e ≡ true → is_met t e ≡ true
met-pending t e on = by_tests (nat_lt e.corner_c t) (nat_lt e.corner_d t) on
  where
    by_tests : (b c : Bool) → cond b (not c) c ≡ true → (b || c) ≡ true
    by_tests true c p = refl
    by_tests false true p = refl
    by_tests false false p = p

rests-nothing : (t : ℕ) (es : List CompactEdge) → rests_on t es (nothing es) ≡ true
rests-nothing t [] = refl
rests-nothing t (e ∷ es) = by_test (is_met t e) (rests-nothing t es)
  where
    by_test : (b : Bool) → rests_on t es (nothing es) ≡ true → ((b || is_empty []) && rests_on t es (nothing es)) ≡ true
    by_test true rest = rest
    by_test false rest = rest

rests-put : (t : ℕ) (es : List CompactEdge) (h : List Rows) → rests_on t es (put (is_pending t) es h (nothing es)) ≡ true
rests-put t [] h = refl
rests-put t (e ∷ es) [] = rests-nothing t (e ∷ es)
rests-put t (e ∷ es) (x ∷ h) = by_test (is_pending t e) refl (rests-put t es h) (rests-put t es (x ∷ h))
  where
    both : (b c : Bool) → b ≡ true → c ≡ true → (b && c) ≡ true
    both b c p q = rw (p, q) refl

    first : (b : Bool) (d : Rows) → b ≡ true → (b || is_empty d) ≡ true
    first b d p = rw p refl

    last : (b : Bool) → (b || is_empty []) ≡ true
    last true = refl
    last false = refl

    by_test : (b : Bool) → is_pending t e ≡ b → rests_on t es (put (is_pending t) es h (nothing es)) ≡ true → rests_on t es (put (is_pending t) es (x ∷ h) (nothing es)) ≡ true →
        rests_on t (e ∷ es) (cond b (x ∷ put (is_pending t) es h (nothing es)) ([] ∷ put (is_pending t) es (x ∷ h) (nothing es))) ≡ true
    by_test true on taken left = both (is_met t e || is_empty x) (rests_on t es (put (is_pending t) es h (nothing es))) (first (is_met t e) x (met-pending t e on)) taken
    by_test false off taken left = both (is_met t e || is_empty []) (rests_on t es (put (is_pending t) es (x ∷ h) (nothing es))) (last (is_met t e)) left

pub near-class : (w : Web) (t : ℕ) (h g : List Rows) → class_of w (near_part w t h g) ≡ plus (class_of w (put (is_pending t) (compact w) h (nothing (compact w)))) (class_of w (new_part w t g))
near-class w t h g =
    let base = put (is_pending t) (compact w) h (nothing (compact w)) in
    let long : length base ≡ length (compact w) = put-long (is_pending t) (compact w) h (nothing (compact w)) ∙ nothing-long (compact w) in
    let same : length (class_of w base) ≡ length (class_of w (new_part w t g)) = length-class_of w base ∙ sym (length-class_of w (new_part w t g)) in
    entries-same (class_of w (near_part w t h g)) (plus (class_of w base) (class_of w (new_part w t g)))
    (length-class_of w (near_part w t h g) ∙ sym (length-plus (class_of w base) (class_of w (new_part w t g)) same ∙ length-class_of w (new_part w t g)))
    (λ k. class-entry w t g base long (rests-put t (compact w) h) k ∙ sym (at-plus (class_of w base) (class_of w (new_part w t g)) same k))
