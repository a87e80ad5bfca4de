-- No state is joined where the diagrams at the corner have too great a degree.
use Rattle.std.specs.Prelude.{◌≡◌, Contains, ℕ, zero, suc, ◌+◌, ◌*◌, ◌<◌, Bool, true, false, cond, not, ℤ, pos, ◌-ℤ◌, ◌≤ℤ◌, ◌<ℤ◌, List, [], ◌∷◌, map, length, filter}
use Rattle.std.proofs.Common.{refl, sym, ap, ◌∙◌, arith}
use Rattle.std.proofs.lemmas.Int.{ints}
use Rattle.tv_lemmas.specs.Naturals.{as_natural}
use Rattle.tv_lemmas.proofs.Members.{all-filter, all-members}
use Rattle.tv_ring.specs.Sums.{total_below}
use Rattle.tv_ring.proofs.Sums.{total_below-none, total_below-more}
use Rattle.tv_partition.specs.Rows.{size}
use Rattle.tv_spec_plane.specs.declared.records.CompactEdge.{CompactEdge}
use Rattle.tv_spec_plane.specs.Graded.{IsGraded}
use Rattle.tv_spec_plane.specs.Web.{Web, compact, edge_degree, degree_of}
use Rattle.tv_cells.specs.Extras.{count}
use Rattle.tv_spec_boxes.specs.Assignments.{Rows, Assignment, sum_on, class_of, assignments, class_difference}
use Rattle.tv_spec_partial.specs.Partial.{is_pending}
use Rattle.tv_laws_counts.proofs.Choices.{degree_by}
use Rattle.tv_laws_counts.proofs.Degrees.{weights, class_of-degree}
use Rattle.tv_laws_frontier.specs.Frontier.{only, kept_at, is_of_state, of_state, state_number}
use Rattle.tv_laws_frontier.specs.Steps.{is_new, picked, put, nothing, options, new_part, near_part, near_legs, before}
use Rattle.tv_laws_frontier.specs.StepLaws.{JoinsWithin}
use Rattle.tv_laws_frontier.proofs.Classes.{class-after}
use Rattle.tv_laws_frontier.proofs.Crowded.{none-of}
use Rattle.tv_laws_frontier.proofs.First.{nothing-long}
use Rattle.tv_laws_frontier.proofs.Listed.{listed-long}
use Rattle.tv_laws_frontier.proofs.Placed.{Stays, put-skip, put-long, sum-put, only-degree}
use Rattle.tv_laws_frontier.proofs.Regrouped.{Goes, goes-is}
use Rattle.tv_laws_frontier.proofs.Resting.{pending-apart, put-stays, stays-more, rests-bare}
use Rattle.tv_laws_frontier.proofs.StateClasses.{option-is}
use Rattle.tv_lemmas.proofs.Tests.{not-off}

-- ---- degrees as sums

abbrev spent : (CompactEdge → ℕ) → CompactEdge → Rows → ℤ
spent f e d = pos (size d * f e)

spent-empty : (f : CompactEdge → ℕ) (e : CompactEdge) → spent f e [] ≡ pos 0
spent-empty f e = let none : 0 * f e ≡ 0 = omega arith in ap pos none

spent-degree : (f : CompactEdge → ℕ) (es : List CompactEdge) (a : Assignment) → sum_on (spent f) es a ≡ pos (degree_by (map f es) a)
spent-degree f [] a = refl
spent-degree f (e ∷ es) [] = refl
spent-degree f (e ∷ es) (d ∷ a) = omega (arith, ints, spent-degree f es a)

degree-put : (p : CompactEdge → Bool) (f : CompactEdge → ℕ) (es : List CompactEdge) (g : List Rows) (b : Assignment) → length b ≡ length es → Stays (λ e. not (p e)) es b → degree_by (map f es) (put p es g b) ≡ degree_by (map f es) b + degree_by (map f es) (put p es g (nothing es))
degree-put p f es g b long bare =
    let both = sum-put p (spent f) (spent-empty f) es g b long bare in
    let whole = spent-degree f es (put p es g b) in
    let first = spent-degree f es b in
    let added = spent-degree f es (put p es g (nothing es)) in
    omega (arith, ints)

placed-degree-head : (p : CompactEdge → Bool) (f : CompactEdge → ℕ) (e : CompactEdge) (es : List CompactEdge) (g : List Rows) (c : Bool) → p e ≡ c → length g ≡ length (cond c (e ∷ filter p es) (filter p es)) → ((h : List Rows) → length h ≡ length (filter p es) → degree_by (map f es) (put p es h (nothing es)) ≡ degree_by (map f (filter p es)) h) → degree_by (map f (e ∷ es)) (put p (e ∷ es) g ([] ∷ nothing es)) ≡ degree_by (map f (cond c (e ∷ filter p es) (filter p es))) g
placed-degree-head p f e es [] true is long rest = absurd (omega arith)
placed-degree-head p f e es (x ∷ g) true is long rest = rw is (ap (λ n. size x * f e + n) (rest g (omega arith)))
placed-degree-head p f e es g false is long rest = rw (put-skip p e es g [] (nothing es) is) (let none : 0 * f e ≡ 0 = omega arith in let same = rest g long in omega arith)

placed-degree : (p : CompactEdge → Bool) (f : CompactEdge → ℕ) (es : List CompactEdge) (g : List Rows) → length g ≡ length (filter p es) → degree_by (map f es) (put p es g (nothing es)) ≡ degree_by (map f (filter p es)) g
placed-degree p f [] g long = refl
placed-degree p f (e ∷ es) g long = placed-degree-head p f e es g (p e) refl long (placed-degree p f es)

-- ---- what is picked, and nothing else

picked-only-head : (q : CompactEdge → Bool) (e : CompactEdge) (es : List CompactEdge) (d : Rows) (b : Assignment) (c : Bool) → q e ≡ c → put q (e ∷ es) (picked q (e ∷ es) (d ∷ b)) ([] ∷ nothing es) ≡ cond c d [] ∷ put q es (picked q es b) (nothing es)
picked-only-head q e es d b true on = rw (on, on) refl
picked-only-head q e es d b false off = ap (λ k. put q (e ∷ es) k ([] ∷ nothing es)) (ap (λ c. cond c (d ∷ picked q es b) (picked q es b)) off) ∙ put-skip q e es (picked q es b) [] (nothing es) off

picked-only : (q : CompactEdge → Bool) (es : List CompactEdge) (b : Assignment) → length b ≡ length es → put q es (picked q es b) (nothing es) ≡ only q es b
picked-only q [] b long = refl
picked-only q (e ∷ es) [] long = absurd (omega arith)
picked-only q (e ∷ es) (d ∷ b) long = picked-only-head q e es d b (q e) refl ∙ ap (λ a. cond (q e) d [] ∷ a) (picked-only q es b (omega arith))

nothing-stays : (es : List CompactEdge) → Stays (λ e. false) es (nothing es)
nothing-stays [] = tt
nothing-stays (e ∷ es) = ((λ off. refl), nothing-stays es)

pending-bare : (t : ℕ) (es : List CompactEdge) (h : List Rows) → Stays (λ e. not (is_new t e)) es (put (is_pending t) es h (nothing es))
pending-bare t es h =
    stays-more (is_pending t) (λ e. not (is_new t e)) (λ e off. apart e (not-off (is_new t e) off)) es (put (is_pending t) es h (nothing es))
    (put-stays (is_pending t) (λ e. false) (is_pending t) (λ e on. on) (λ e on. cc) (λ e off none. off) es h (nothing es) (nothing-stays es))
  where
    apart : (e : CompactEdge) → is_new t e ≡ true → is_pending t e ≡ false
    apart e new = by_test (is_pending t e) refl
      where
        by_test : (b : Bool) → is_pending t e ≡ b → b ≡ false
        by_test false off = refl
        by_test true on = absurd (let no : true ≡ false = sym new ∙ pending-apart t e on in cc)

-- the degree of what a corner sees is that of both choices together
pub near-degree : (w : Web) (t : ℕ) (h g : List Rows) → IsGraded w → length h ≡ length (filter (is_pending t) (compact w)) → length g ≡ length (filter (is_new t) (compact w)) → degree_of w.heights (class_of w (near_part w t h g)) ≡ pos (degree_by (weights w (filter (is_pending t) (compact w))) h + degree_by (weights w (filter (is_new t) (compact w))) g)
near-degree w t h g graded first new =
    let f : CompactEdge → ℕ = λ e. as_natural (edge_degree w e) in
    let base = put (is_pending t) (compact w) h (nothing (compact w)) in
    let base_long : length base ≡ length (compact w) = put-long (is_pending t) (compact w) h (nothing (compact w)) ∙ nothing-long (compact w) in
    let both = degree-put (is_new t) f (compact w) g base base_long (pending-bare t (compact w) h) in
    let old = placed-degree (is_pending t) f (compact w) h first in
    let added = placed-degree (is_new t) f (compact w) g new in
    class_of-degree w graded (near_part w t h g) ∙ ap pos (omega arith)

-- ---- joins

module _ (w : Web) (d t : ℕ) (h g : List Rows) (v : List ℤ) (graded : IsGraded w) (most : degree_of w.heights v ≤ℤ pos d) (within : t < length w.triangles) (new : Contains (options w d t) g) (great : pos d <ℤ degree_of w.heights (class_of w (near_part w t h g))) where
  abbrev degree : Assignment → ℕ
  degree a = degree_by (weights w (compact w)) a

  pub none-there : (b : Assignment) → Contains (assignments w d) b → is_of_state w t h (class_difference v (class_of w (new_part w t g))) b ≡ true → ⊥
  none-there b among on =
      let is : Goes w d t [] h g v graded most within (option-is w d t g new) b = goes-is w d t [] h g v graded most within (option-is w d t g new) b among on in
      let long = listed-long w d b among in
      let f : CompactEdge → ℕ = λ e. as_natural (edge_degree w e) in
      let base = put (is_pending t) (compact w) h (nothing (compact w)) in
      let base_long : length base ≡ length (compact w) = put-long (is_pending t) (compact w) h (nothing (compact w)) ∙ nothing-long (compact w) in
      let whole = degree-put (is_new t) f (compact w) g b long (rests-bare t (compact w) b is.rests) in
      let near = degree-put (is_new t) f (compact w) g base base_long (pending-bare t (compact w) h) in
      let same : base ≡ only (is_pending t) (compact w) b = ap (λ k. put (is_pending t) (compact w) k (nothing (compact w))) (sym is.choice) ∙ picked-only (is_pending t) (compact w) b long in
      let fewer = only-degree (is_pending t) f (compact w) b in
      let first : degree base ≡ degree (only (is_pending t) (compact w) b) = ap (degree_by (weights w (compact w))) same in
      let class : class_of w (put (is_new t) (compact w) g b) ≡ v = class-after w t g b v long is.rests is.class in
      let total : degree_of w.heights v ≡ pos (degree (put (is_new t) (compact w) g b)) = ap (degree_of w.heights) (sym class) ∙ class_of-degree w graded (put (is_new t) (compact w) g b) in
      let seen = class_of-degree w graded (near_part w t h g) in
      omega (arith, ints)

  none-joined : (fixed : List Rows) (m i : ℤ) → state_number w fixed d m t h (class_difference v (class_of w (new_part w t g))) i ≡ 0
  unfolding state_number
  none-joined fixed m i =
      none-of (λ a. kept_at w fixed m t a i) (of_state w d t h (class_difference v (class_of w (new_part w t g))))
      (all-filter (Contains (assignments w d)) (λ (a : Assignment). ⊥) (is_of_state w t h (class_difference v (class_of w (new_part w t g)))) none-there (assignments w d) (all-members (assignments w d)))

zero-terms : (c f : ℕ → ℕ) → ((j : ℕ) → f j ≡ 0) → (n : ℕ) → total_below (λ j. c j * f j) n ≡ 0
zero-terms c f none zero = total_below-none (λ j. c j * f j)
zero-terms c f none (suc n) =
    let rest = zero-terms c f none n in
    let more = total_below-more (λ j. c j * f j) n in
    let last : c n * f n ≡ 0 = ap (λ x. c n * x) (none n) ∙ omega arith in
    omega arith

pub joins_within : JoinsWithin
joins_within w fixed d t n h g v m i graded most within new great =
    zero-terms (count (near_legs w fixed t h g)) (λ j. state_number w fixed d m t h (class_difference v (class_of w (new_part w t g))) (before w fixed t h g i -ℤ pos j))
    (λ j. none-joined w d t h g v graded most within new great fixed m (before w fixed t h g i -ℤ pos j)) (suc n)
