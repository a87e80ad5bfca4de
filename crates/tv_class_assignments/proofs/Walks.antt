-- What is to come changes with the last frame alone; behind the last edge the choices are an assignment.
use Rattle.std.specs.Prelude.{◌≡◌, ℕ, zero, suc, ◌+◌, ◌*◌, ◌<◌, List, [], ◌∷◌, ◌++◌, map, length, drop}
use Rattle.std.proofs.Common.{refl, ap, arith}
use Rattle.tv_spec_plane.specs.declared.records.CompactEdge.{CompactEdge}
use Rattle.tv_spec_plane.specs.Web.{Web}
use Rattle.tv_class_assignments.specs.Walk.{with_left, from, chosen, to_come}
use Rattle.tv_class_assignments.specs.Steps.{branch, options, steps}
use Rattle.tv_class_assignments.specs.declared.frame.Frame.{Frame}

pub to_come-end : (w : Web) (es : List CompactEdge) (fs gs hs : List Frame) → to_come w (drop (length fs) es) gs ≡ to_come w (drop (length fs) es) hs → to_come w es (fs ++ gs) ≡ to_come w es (fs ++ hs)
to_come-end w es [] gs hs same = same
to_come-end w [] (f ∷ fs) gs hs same = refl
to_come-end w (e ∷ es) (f ∷ fs) gs hs same = ap (λ xs. map (λ a. chosen f ∷ a) xs ++ from w e es f.left f.size f.place) (to_come-end w es fs gs hs same)

pub to_come-found : (w : Web) (es : List CompactEdge) (fs : List Frame) (f : Frame) → length fs ≡ length es → with_left w [] f.left ≡ [] ∷ [] → to_come w es (fs ++ f ∷ []) ≡ map chosen fs ∷ to_come w es fs
to_come-found w [] [] f count leaf = leaf
to_come-found w (e ∷ es) [] f count leaf = absurd (omega arith)
to_come-found w [] (g ∷ fs) f count leaf = absurd (omega arith)
to_come-found w (e ∷ es) (g ∷ fs) f count leaf = ap (λ xs. map (λ a. chosen g ∷ a) xs ++ from w e es g.left g.size g.place) (to_come-found w es fs f (omega arith) leaf)

more : (a b c : ℕ) → b < c → a + b < a + c
more a b c h = omega arith

pub steps-end : (count i r : ℕ) (fs gs hs : List Frame) → i ≡ length fs + r → steps count r gs < steps count r hs → steps count i (fs ++ gs) < steps count i (fs ++ hs)
steps-end count i r [] gs hs is fewer = let same : i ≡ r = omega arith in rw same fewer
steps-end count zero r (f ∷ fs) gs hs is fewer = absurd (omega arith)
steps-end count (suc i) r (f ∷ fs) gs hs is fewer = more (suc (options count f.size f.place * suc (branch count i))) (steps count i (fs ++ gs)) (steps count i (fs ++ hs)) (steps-end count i r fs gs hs (omega arith) fewer)
