-- Each step leaves fewer.
use Rattle.std.specs.Prelude.{◌≡◌, ℕ, zero, suc, ◌+◌, ◌-◌, ◌*◌, ◌<◌, ◌≤◌, [], ◌∷◌, length, drop}
use Rattle.std.specs.List.{range_with_len}
use Rattle.std.proofs.Common.{ap, ◌∙◌, arith, add-one, length-drop}
use Rattle.tv_lemmas.specs.Sums.{sum_of}
use Rattle.tv_partition.specs.Rows.{diagrams}
use Rattle.tv_class_assignments.specs.Remaining.{Left}
use Rattle.tv_class_assignments.specs.Steps.{branch, options, steps}
use Rattle.tv_class_assignments.specs.Moves.{new_frame, larger, later}
use Rattle.tv_class_assignments.specs.declared.frame.Frame.{Frame}

options-larger : (count n k : ℕ) → suc n < count → options count (suc n) 0 < options count n k
unfolding options
options-larger count n k h =
    let size : ℕ → ℕ = λ m. suc (length (diagrams m)) in
    let rest : ℕ = sum_of size (range_with_len (suc (suc n)) (count - suc (suc n))) in
    let left : count - suc n ≡ suc (count - suc (suc n)) = omega arith in
    let split : sum_of size (range_with_len (suc n) (count - suc n)) ≡ suc (length (diagrams (suc n))) + rest =
    ap (λ m. sum_of size (range_with_len (suc n) m)) left ∙ ap (λ m. size (suc n) + sum_of size (range_with_len m (count - suc (suc n)))) (add-one (suc n)) in
    fewer (length (drop k (diagrams n))) (sum_of size (range_with_len (suc n) (count - suc n))) (length (diagrams (suc n))) rest split
  where
    fewer : (a b c d : ℕ) → b ≡ suc c + d → c + d < a + b
    fewer a b c d e = omega arith

options-later : (count n k : ℕ) → k < length (diagrams n) → options count n k ≡ suc (options count n (k + 1))
unfolding options
options-later count n k h =
    one_more (length (drop k (diagrams n))) (length (drop (k + 1) (diagrams n))) (sum_of (λ m. suc (length (diagrams m))) (range_with_len (suc n) (count - suc n)))
    (let a = length-drop k (diagrams n) in let b = length-drop (k + 1) (diagrams n) in omega arith)
  where
    one_more : (a b c : ℕ) → a ≡ suc b → a + c ≡ suc (b + c)
    one_more a b c e = omega arith

-- a frame that is left
pub steps-left : (count r : ℕ) (f : Frame) → steps count r [] < steps count r (f ∷ [])
steps-left count zero f = omega arith
steps-left count (suc r) f = omega arith

fewer_options : (o p b : ℕ) → o < p → suc (o * suc b) + 0 < suc (p * suc b) + 0
fewer_options zero p b h = omega arith
fewer_options (suc o) zero b h = absurd (omega arith)
fewer_options (suc o) (suc p) b h = let rest = fewer_options o p b (omega arith) in omega arith

pub steps-larger : (count r : ℕ) (f : Frame) → suc f.size < count → steps count (suc r) (larger f ∷ []) < steps count (suc r) (f ∷ [])
steps-larger count r f h =
    let next : f.size + 1 ≡ suc f.size = omega arith in
    rw next (fewer_options (options count (suc f.size) 0) (options count f.size f.place) (branch count r) (options-larger count f.size f.place h))

steps-new : (count r : ℕ) (l : Left) → steps count r (new_frame l ∷ []) ≤ branch count r
unfolding branch
steps-new count zero l = omega arith
steps-new count (suc r) l = omega arith

entered : (o p b s : ℕ) → p ≡ suc o → s ≤ b → suc (o * suc b) + s < suc (p * suc b) + 0
entered o p b s e h = rw e (plain o b s h)
  where
    plain : (o b s : ℕ) → s ≤ b → suc (o * suc b) + s < suc (suc o * suc b) + 0
    plain o b s h = omega arith

pub steps-later : (count r : ℕ) (f : Frame) (l : Left) → f.place < length (diagrams f.size) → steps count (suc r) (later f ∷ new_frame l ∷ []) < steps count (suc r) (f ∷ [])
steps-later count r f l h = entered (options count f.size (f.place + 1)) (options count f.size f.place) (branch count r) (steps count r (new_frame l ∷ [])) (options-later count f.size f.place h) (steps-new count r l)
