-- Each change of the last frame as a move.
use Rattle.std.specs.Prelude.{◌≡◌, ℕ, suc, ◌+◌, ◌-◌, ◌<◌, ◌≤◌, Bool, true, false, cond, nat_lt, List, [], ◌∷◌, ◌++◌, map, length, drop, slice_index_or}
use Rattle.std.proofs.Common.{refl, sym, ap, ◌∙◌, arith, append-nil, append_assoc, length-append, subst}
use Rattle.std.proofs.Math.Seq.{drop-cons}
use Rattle.std.proofs.lemmas.List.{drop_all}
use Rattle.std.proofs.lemmas.Bool.Decides.{nat_tests}
use Rattle.tv_lemmas.specs.Naturals.{as_natural}
use Rattle.tv_lemmas.proofs.Members.{all-append, all-front, all-back}
use Rattle.tv_spec_plane.specs.declared.records.CompactEdge.{CompactEdge}
use Rattle.tv_spec_plane.specs.Web.{Web, compact, edge_class, edge_degree, no_edge}
use Rattle.tv_partition.specs.Rows.{diagrams}
use Rattle.tv_spec_boxes.specs.Assignments.{Assignment, zeros, same_vector}
use Rattle.tv_degrees.specs.Edges.{edge_at}
use Rattle.tv_degrees.proofs.Entries.{length-edge_class}
use Rattle.tv_class_assignments.specs.Remaining.{Left}
use Rattle.tv_class_assignments.specs.Walk.{with_left, with_diagrams, from, chosen, to_come, IsOpen, IsWalk, IsFurther, IsFound}
use Rattle.tv_class_assignments.specs.Steps.{steps}
use Rattle.tv_class_assignments.specs.Moves.{new_frame, larger, later, IsBehind}
use Rattle.tv_class_assignments.specs.declared.frame.Frame.{Frame}
use Rattle.tv_class_assignments.proofs.Lefts.{with_left-last}
use Rattle.tv_class_assignments.proofs.Edges.{from-first, from-next, from-larger, from-last}
use Rattle.tv_class_assignments.proofs.Less.{length-beside}
use Rattle.tv_class_assignments.proofs.Walks.{to_come-end, to_come-found, steps-end}
use Rattle.tv_class_assignments.proofs.Counted.{steps-left, steps-larger, steps-later}

-- the edge of the last frame, and those behind it
at_edge : (w : Web) (e : ℕ) → e < length (compact w) → drop e (compact w) ≡ edge_at w e ∷ drop (suc e) (compact w)
at_edge w e h = drop-cons (compact w) e no_edge h

on_edge : (w : Web) (e : ℕ) (front gs hs : List Frame) → length front ≡ e → e < length (compact w)
    → to_come w (edge_at w e ∷ drop (suc e) (compact w)) gs ≡ to_come w (edge_at w e ∷ drop (suc e) (compact w)) hs
    → to_come w (compact w) (front ++ gs) ≡ to_come w (compact w) (front ++ hs)
on_edge w e front gs hs is h same =
    let here : drop (length front) (compact w) ≡ edge_at w e ∷ drop (suc e) (compact w) = ap (λ k. drop k (compact w)) is ∙ at_edge w e h in
    to_come-end w (compact w) front gs hs (ap (λ es. to_come w es gs) here ∙ (same ∙ sym (ap (λ es. to_come w es hs) here)))

front-walk : (w : Web) (count : ℕ) (front gs : List Frame) → IsWalk w count (front ++ gs) → IsWalk w count front
front-walk w count front gs valid = record { few = (let n = length-append front gs in let h = valid.few in omega arith); frames = all-front (IsOpen w count) front gs valid.frames }

pub last_open : (w : Web) (count : ℕ) (front : List Frame) (f : Frame) → IsWalk w count (front ++ f ∷ []) → IsOpen w count f
last_open w count front f valid = (all-back (IsOpen w count) front (f ∷ []) valid.frames).0

-- ---- a frame is left

-- nothing more is to come on its edge
moved_left : (w : Web) (count e : ℕ) (front : List Frame) (f : Frame) → length front ≡ e → e < length (compact w) → from w (edge_at w e) (drop (suc e) (compact w)) f.left f.size f.place ≡ [] → IsWalk w count (front ++ f ∷ []) → IsFurther w count (front ++ f ∷ []) front
moved_left w count e front f is h none valid = record {
  valid = front-walk w count front (f ∷ []) valid;
  same = sym (ap (to_come w (compact w)) (append-nil front)) ∙ on_edge w e front [] (f ∷ []) is h (sym none);
  fewer = subst (λ gs. steps count (length (compact w)) gs < steps count (length (compact w)) (front ++ f ∷ [])) (append-nil front) (steps-end count (length (compact w)) (length (compact w) - e) front [] (f ∷ []) (omega arith) (steps-left count (length (compact w) - e) f));
}

pub left_many : (w : Web) (count e : ℕ) (fs front : List Frame) (f : Frame) → fs ≡ front ++ f ∷ [] → length fs ≡ e + 1 → e < length (compact w) → from w (edge_at w e) (drop (suc e) (compact w)) f.left f.size f.place ≡ [] → IsWalk w count fs → IsFurther w count fs front
left_many w count e fs front f was top h none valid =
    let n = length-append front (f ∷ []) in let m = ap length was in
    subst (λ gs. IsFurther w count gs front) (sym was) (moved_left w count e front f (omega arith) h none (subst (IsWalk w count) was valid))

-- the class is not spent behind the last edge
behind_all : (w : Web) (front : List Frame) → length (compact w) ≡ length front → drop (length front) (compact w) ≡ []
behind_all w front is = drop_all (length front) (compact w) (omega arith)

pub left_unspent : (w : Web) (count : ℕ) (fs front : List Frame) (f : Frame) → fs ≡ front ++ f ∷ [] → length (compact w) ≡ length front → with_left w [] f.left ≡ [] → IsWalk w count fs → IsFurther w count fs front
left_unspent w count fs front f was all none valid =
    subst (λ gs. IsFurther w count gs front) (sym was) (record {
      valid = front-walk w count front (f ∷ []) (subst (IsWalk w count) was valid);
      same = sym (ap (to_come w (compact w)) (append-nil front))
          ∙ to_come-end w (compact w) front [] (f ∷ []) (sym (ap (λ es. to_come w es (f ∷ [])) (behind_all w front all) ∙ none));
      fewer = subst (λ gs. steps count (length (compact w)) gs < steps count (length (compact w)) (front ++ f ∷ [])) (append-nil front) (steps-end count (length (compact w)) 0 front [] (f ∷ []) (omega arith) (steps-left count 0 f));
    })

-- it is spent
pub left_found : (w : Web) (count : ℕ) (fs front : List Frame) (f : Frame) (a : Assignment) → fs ≡ front ++ f ∷ [] → length (compact w) ≡ length front → with_left w [] f.left ≡ [] ∷ [] → a ≡ map chosen front → IsWalk w count fs → IsFound w count fs a front
left_found w count fs front f a was all leaf is valid = record {
  valid = front-walk w count front (f ∷ []) (subst (IsWalk w count) was valid);
  next = ap (to_come w (compact w)) was ∙ (to_come-found w (compact w) front f (sym all) leaf ∙ ap (λ b. b ∷ to_come w (compact w) front) (sym is));
}

-- all edges have a diagram
pub all_chosen : (w : Web) (count : ℕ) (fs front : List Frame) (f : Frame) (top : ℕ) → fs ≡ front ++ f ∷ [] → length fs ≡ top + 1 → length (compact w) ≤ top → IsWalk w count fs → length (compact w) ≡ length front
all_chosen w count fs front f top was is edges valid = let n = length-append front (f ∷ []) in let m = ap length was in let k = valid.few in omega arith

pub leaf_by : (w : Web) (count : ℕ) (fs front : List Frame) (f : Frame) (b : Bool) → fs ≡ front ++ f ∷ [] → IsWalk w count fs → b ≡ same_vector (zeros (length f.left.class)) f.left.class → with_left w [] f.left ≡ cond b ([] ∷ []) []
leaf_by w count fs front f b was valid test =
    let known = last_open w count front f (subst (IsWalk w count) was valid) in
    with_left-last w f.left known.asked ∙ ap (λ c. cond c ([] ∷ []) []) (sym test)

-- ---- at the start

pub new_same : (w : Web) (es : List CompactEdge) (l : Left) → length l.class ≤ length w.points → to_come w es (new_frame l ∷ []) ≡ with_left w es l
new_same w [] l asked = refl
new_same w (e ∷ es) l asked = from-first w e es l asked

pub first_all : (w : Web) (l : Left) (fs : List Frame) → fs ≡ new_frame l ∷ [] → length l.class ≤ length w.points → to_come w (compact w) fs ≡ with_left w (compact w) l
first_all w l fs is asked = ap (to_come w (compact w)) is ∙ new_same w (compact w) l asked

-- ---- the next size

larger_same : (w : Web) (e : CompactEdge) (es : List CompactEdge) (f : Frame) → with_diagrams w e es f.left f.size (drop f.place (diagrams f.size)) ≡ [] → f.size < f.left.degree → to_come w (e ∷ es) (larger f ∷ []) ≡ to_come w (e ∷ es) (f ∷ [])
larger_same w e es f none more =
    let up : f.size + 1 ≡ suc f.size = omega arith in
    ap (λ n. from w e es f.left n 0) up ∙ sym (from-larger w e es f.left f.size f.place none more)

moved_larger : (w : Web) (count e : ℕ) (front : List Frame) (f : Frame) → length front ≡ e → e < length (compact w) → with_diagrams w (edge_at w e) (drop (suc e) (compact w)) f.left f.size (drop f.place (diagrams f.size)) ≡ [] → f.size < f.left.degree → IsWalk w count (front ++ f ∷ []) → IsFurther w count (front ++ f ∷ []) (front ++ larger f ∷ [])
moved_larger w count e front f is h none more valid =
    let open_one = last_open w count front f valid in
    let r : ℕ = length (compact w) - suc e in
    record {
      valid = record {
        few = (let n = length-append front (f ∷ []) in let m = length-append front (larger f ∷ []) in let k = valid.few in omega arith);
        frames = all-append (IsOpen w count) front (larger f ∷ []) (all-front (IsOpen w count) front (f ∷ []) valid.frames) (record { asked = open_one.asked; size = omega arith; listed = open_one.listed }, tt);
      };
      same = on_edge w e front (larger f ∷ []) (f ∷ []) is h (larger_same w (edge_at w e) (drop (suc e) (compact w)) f none more);
      fewer = steps-end count (length (compact w)) (suc r) front (larger f ∷ []) (f ∷ []) (omega arith) (steps-larger count r f (let k = open_one.listed in omega arith));
    }

enlarged_by : (w : Web) (count e : ℕ) (front : List Frame) (f : Frame) (b : Bool) → nat_lt f.size f.left.degree ≡ b → length front ≡ e → e < length (compact w) → with_diagrams w (edge_at w e) (drop (suc e) (compact w)) f.left f.size (drop f.place (diagrams f.size)) ≡ [] → IsWalk w count (front ++ f ∷ []) → IsFurther w count (front ++ f ∷ []) (cond b (front ++ larger f ∷ []) front)
enlarged_by w count e front f true test is h none valid = moved_larger w count e front f is h none (let k : f.size < f.left.degree = grind (arith, nat_tests) in k) valid
enlarged_by w count e front f false test is h none valid =
    moved_left w count e front f is h (from-last w (edge_at w e) (drop (suc e) (compact w)) f.left f.size f.place none (let k : f.left.degree ≤ f.size = grind (arith, nat_tests) in k)) valid

pub enlarged : (w : Web) (count e : ℕ) (fs gs front : List Frame) (f : Frame) → fs ≡ front ++ f ∷ [] → gs ≡ cond (nat_lt f.size f.left.degree) (front ++ larger f ∷ []) front → length fs ≡ e + 1 → e < length (compact w) → with_diagrams w (edge_at w e) (drop (suc e) (compact w)) f.left f.size (drop f.place (diagrams f.size)) ≡ [] → IsWalk w count fs → IsFurther w count fs gs
enlarged w count e fs gs front f was is top h none valid =
    let n = length-append front (f ∷ []) in let m = ap length was in
    rw (was, is) (enlarged_by w count e front f (nat_lt f.size f.left.degree) refl (omega arith) h none (subst (IsWalk w count) was valid))

-- ---- the next diagram

later_same : (w : Web) (count e : ℕ) (f : Frame) (l : Left) → e < length (compact w) → IsOpen w count (new_frame l) → IsBehind w e f l → to_come w (edge_at w e ∷ drop (suc e) (compact w)) (later f ∷ new_frame l ∷ []) ≡ to_come w (edge_at w e ∷ drop (suc e) (compact w)) (f ∷ [])
later_same w count e f l h new_open behind =
    let es : List CompactEdge = drop (suc e) (compact w) in
    let place : (f.place + 1) - 1 ≡ f.place = omega arith in
    ap (λ k. map (λ a. slice_index_or (diagrams f.size) k [] ∷ a) (to_come w es (new_frame l ∷ [])) ++ from w (edge_at w e) es f.left f.size (f.place + 1)) place
    ∙ (ap (λ xs. map (λ a. slice_index_or (diagrams f.size) f.place [] ∷ a) xs ++ from w (edge_at w e) es f.left f.size (f.place + 1)) (new_same w es l new_open.asked ∙ ap (with_left w es) behind.left)
    ∙ sym (from-next w (edge_at w e) es f.left f.size f.place behind.fits behind.within))

pub behind_open : (w : Web) (count e : ℕ) (f : Frame) (l : Left) → IsOpen w count f → IsBehind w e f l → IsOpen w count (new_frame l)
behind_open w count e f l known behind =
    let entries = length-beside f.size (as_natural (edge_degree w (edge_at w e))) (edge_class w (edge_at w e)) f.left (let n = length-edge_class w (edge_at w e) in let k = known.asked in omega arith) in
    let degree = ap (λ r. r.degree) behind.left in
    record {
      asked = (let n = ap (λ r. length r.class) behind.left in let k = known.asked in omega arith);
      size = omega arith;
      listed = (let h = known.listed in omega arith);
    }

pub entered : (w : Web) (count e : ℕ) (fs gs front : List Frame) (f : Frame) (l : Left) → fs ≡ front ++ f ∷ [] → gs ≡ (front ++ later f ∷ []) ++ new_frame l ∷ [] → length fs ≡ e + 1 → e < length (compact w) → IsOpen w count (new_frame l) → IsBehind w e f l → IsWalk w count fs → IsFurther w count fs gs
entered w count e fs gs front f l was is top h new_open behind valid =
    let n = length-append front (f ∷ []) in let m = ap length was in
    let known = subst (IsWalk w count) was valid in
    let open_one = last_open w count front f known in
    let r : ℕ = length (compact w) - suc e in
    rw (was, is, append_assoc front (later f ∷ []) (new_frame l ∷ [])) (record {
      valid = record {
        few = (let k = length-append front (later f ∷ new_frame l ∷ []) in omega arith);
        frames = all-append (IsOpen w count) front (later f ∷ new_frame l ∷ []) (all-front (IsOpen w count) front (f ∷ []) known.frames) (record { asked = open_one.asked; size = open_one.size; listed = open_one.listed }, (new_open, tt));
      };
      same = on_edge w e front (later f ∷ new_frame l ∷ []) (f ∷ []) (omega arith) h (later_same w count e f l h new_open behind);
      fewer = steps-end count (length (compact w)) (suc r) front (later f ∷ new_frame l ∷ []) (f ∷ []) (omega arith) (steps-later count r f l behind.within);
    })
