-- What the assignments ask for: what is put in for one of them, and what a number that is too great means.
use Rattle.std.proofs.Common.{◌≡◌, ℕ, zero, suc, ◌<◌, ◌*◌, ◌^◌, List, [], ◌∷◌, length, get_or, refl, sym, ◌∙◌, ap, subst, inl, inr}
use Rattle.std.specs.Prelude.{ℤ, pos, ◌+ℤ◌, ◌-ℤ◌, ◌≤ℤ◌, Contains, slice_get, Some, None}
use Rattle.std.proofs.Common.{arith}
use Rattle.std.proofs.lemmas.Int.{ints}
use Rattle.tv_ring.specs.Operations.{Operations, limit}
use Rattle.tv_spec_plane.specs.Web.{Web}
use Rattle.tv_cells.specs.declared.legs.Legs.{Legs}
use Rattle.tv_spec_boxes.specs.Assignments.{Assignment, assignments, class_of, all_legs, no_legs, edge_costs, overlaps_of}
use Rattle.tv_images.specs.Least.{least, HasCountsOf}
use Rattle.tv_glue.specs.declared.asked.Most.{Most}
use Rattle.tv_glue.specs.Asked.{IsAsked, AreAsked, IsRaised, IsWideAt, IsTooManyOf}
use Rattle.tv_assigned_series.proofs.Inserted.{each-insert}

module _ (w : Web) (d : ℕ) (n : ℤ) where
  -- a corner of an assignment asks for the boxes that are left to it
  pub asks : (a : Assignment) (legs : List Legs) (corner : Legs) (i : ℕ) (start : ℤ) (left : ℕ) → Contains (assignments w d) a → legs ≡ all_legs w a (no_legs w) → i < length legs → corner ≡ get_or legs i corner → start ≡ edge_costs w a -ℤ pos (overlaps_of legs) → start +ℤ pos left ≡ n → left < 2 ^ 29 →
      (image : Legs) → image ≡ least corner → HasCountsOf corner image → IsAsked w d n image (record { boxes = left; by = class_of w a })
  asks a legs corner i start left listed are within at begins ends few image is counts = record {
    assignment = a;
    listed = listed;
    class = refl;
    corner = corner;
    among = subst (λ ls. Contains ls corner) are (i, within, sym at);
    least = is;
    counts = counts;
    few = few;
    left = boxes (edge_costs w a) (pos (overlaps_of (all_legs w a (no_legs w)))) (begins ∙ ap (λ ls. edge_costs w a -ℤ pos (overlaps_of ls)) are);
  } where
    boxes : (costs overlaps : ℤ) → start ≡ costs -ℤ overlaps → pos left ≤ℤ ((n -ℤ costs) +ℤ overlaps)
    boxes costs overlaps e = omega (arith, ints)

  pub still-asked : (es new : List (Legs × Most)) (legs : Legs) (most : Most) → IsAsked w d n legs most → IsRaised es legs most new → AreAsked w d n es → AreAsked w d n new
  still-asked es new legs most here raised asked = elim raised [
    | inl stays ↦ subst (AreAsked w d n) (sym stays) asked
    | inr put ↦ subst (AreAsked w d n) (sym put) (each-insert (IsAsked w d n) es legs most here asked)
  ]

  -- what stands at a place of the entries
  pub entry-asked : (es : List (Legs × Most)) (i : ℕ) (legs : Legs) (most : Most) → slice_get es i ≡ Some (legs, most) → AreAsked w d n es → IsAsked w d n legs most
  entry-asked [] i legs most read asked = absurd (let e : None ≡ Some (legs, most) = read in cc)
  entry-asked (e ∷ es) zero legs most read asked =
      let one : e ≡ (legs, most) = let both : Some e ≡ Some (legs, most) = read in cc in
      subst (λ f. IsAsked w d n f.0 f.1) one asked.0
  entry-asked (e ∷ es) (suc i) legs most read asked = entry-asked es i legs most read asked.1

  -- more boxes than are asked for at a corner are too many at the assignment that asks for them
  pub wide-by : {A : Type 0} (r : Operations A) (legs : Legs) (most : Most) (v : List ℤ) → IsAsked w d n legs most → IsWideAt r legs most v → IsTooManyOf r w d n v
  wide-by r legs most v asked wide = record {
    assignment = asked.assignment;
    listed = asked.listed;
    class = wide.0 ∙ asked.class;
    beyond = record { left = most.boxes; boxes = asked.left; beyond = inr (record { corner = asked.corner; listed = asked.among; boxes = wide.1.0; within = wide.1.1; beyond = subst (λ c. limit < c * r.size r.unit) (asked.counts wide.1.0) wide.1.2 }) };
  }
