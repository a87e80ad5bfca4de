-- One state and one choice on the new edges: what is computed of them is what the corner has.
use Rattle.std.specs.Prelude.{◌≡◌, Contains, ℕ, suc, ◌<◌, ◌≤◌, Bool, false, ℤ, pos, ◌≤ℤ◌, ◌<ℤ◌, List, [], ◌++◌, map, filter, length}
use Rattle.std.specs.List.{AllByRecursion, IsDistinct}
use Rattle.std.proofs.Common.{refl, sym, ap, subst, ◌∙◌, le_trans, get_or, inl, inr, arith}
use Rattle.std.proofs.Math.ListN.{set}
use Rattle.tv_lemmas.specs.Sums.{plus}
use Rattle.tv_lemmas.proofs.Members.{all-filter, all-contains, all-any, all-onto}
use Rattle.tv_ring.specs.Operations.{Operations}
use Rattle.tv_spec_series.specs.Families.{Family}
use Rattle.tv_spec_plane.specs.Graded.{HasDegree, IsGraded}
use Rattle.tv_spec_plane.specs.Web.{Web, compact, degree_of}
use Rattle.tv_lattice.specs.Limits.{HasCoordinates}
use Rattle.tv_lattice.specs.Classes.{IsEntry}
use Rattle.tv_laws_edges.specs.Rule.{HasEdgeRule}
use Rattle.tv_spec_boxes.specs.Assignments.{Rows, Assignment, class_of, same_choice}
use Rattle.tv_spec_boxes.proofs.Vectors.{length-class_of}
use Rattle.tv_spec_partial.specs.Partial.{is_pending, chosen}
use Rattle.tv_laws_counts.proofs.Choices.{IsChoice, choices_are}
use Rattle.tv_laws_counts.proofs.Degrees.{weights, weights_positive}
use Rattle.tv_laws_frontier.specs.Steps.{is_new, put, nothing, states, options, new_part, near_part}
use Rattle.tv_assignment.specs.Size.{cells_of}
use Rattle.tv_assignment.proofs.Listed.{cells-few}
use Rattle.tv_frontier.specs.Picks.{picks, put_by}
use Rattle.tv_frontier.specs.Sums.{Addend}
use Rattle.tv_frontier.specs.Rows.{after_of, HasRoom, Holding, KeepsRows, IsCrowdedBy}
use Rattle.tv_frontier.specs.Bounds.{GoesNowhere, IsAfter}
use Rattle.tv_frontier.specs.Layers.{pair_addends, GrowsBy, CrowdedIn}
use Rattle.tv_frontier.proofs.Grown.{stays, grows, crowded-at, pair-none, pair-great, pair-here}
use Rattle.tv_frontier.proofs.Classes.{class-small, sum-entries}
use Rattle.tv_frontier.proofs.Near.{pending-picks, near-class}
use Rattle.tv_frontier.proofs.Spread.{put-by-is, spread-few, new-small}

pub state-few : (w : Web) (d t : ℕ) (h : List Rows) → IsGraded w → Contains (states w d t) h → cells_of h ≤ d
state-few w d t h graded first =
    let is = all-contains (IsChoice (weights w (filter (is_pending t) (compact w))) d) (states w d t) h (choices_are (weights w (filter (is_pending t) (compact w))) d) first in
    le_trans (cells-few (weights w (filter (is_pending t) (compact w))) h (weights_positive w (filter (is_pending t) (compact w)) (all-filter (HasDegree w) (HasDegree w) (is_pending t) (λ e has on. has) (compact w) graded)) is.one_each) is.within

module _ (w : Web) (d t : ℕ) (h g : List Rows) (base added : Assignment) (c e v : List ℤ) (flags : List Bool) (fresh : flags ≡ map (is_new t) (compact w)) (part : base ≡ put (is_pending t) (compact w) h (nothing (compact w))) (class : c ≡ class_of w base) (spread : added ≡ put_by flags g (nothing (compact w))) (also : e ≡ class_of w added) where
  pub added-is : added ≡ new_part w t g
  added-is = spread ∙ (ap (λ fs. put_by fs g (nothing (compact w))) fresh ∙ sym (put-by-is (is_new t) (compact w) g (nothing (compact w))))

  pub seen-is : (seen : Assignment) → seen ≡ put_by flags g base → seen ≡ near_part w t h g
  seen-is seen is = is ∙ (ap (λ fs. put_by fs g base) fresh ∙ (sym (put-by-is (is_new t) (compact w) g base) ∙ ap (put (is_new t) (compact w) g) part))

  pub after-is : (seen : Assignment) (after : List Bool) (k : List Rows) → seen ≡ near_part w t h g → after ≡ map (is_pending (suc t)) (compact w) → k ≡ picks after seen → k ≡ after_of w t h g
  after-is seen after k both flag is = is ∙ (ap (λ fs. picks fs seen) flag ∙ (pending-picks (suc t) (compact w) seen ∙ ap (chosen (suc t) (compact w)) both))

  pub near-is : v ≡ plus c e → v ≡ class_of w (near_part w t h g)
  near-is sum = sum ∙ (ap (λ z. plus z e) (class ∙ ap (class_of w) part) ∙ (ap (plus (class_of w (put (is_pending t) (compact w) h (nothing (compact w))))) (also ∙ ap (class_of w) added-is) ∙ sym (near-class w t h g)))

  pub both-long : length c ≡ length e
  both-long = ap length class ∙ (length-class_of w base ∙ sym (ap length also ∙ length-class_of w added))

  pub sum-long : v ≡ plus c e → length v ≡ length w.points
  sum-long sum = ap length (near-is sum) ∙ length-class_of w (near_part w t h g)

  pub both-small : IsGraded w → AllByRecursion HasCoordinates w.points → HasEdgeRule w → d ≤ 24 → Contains (states w d t) h → Contains (options w d t) g → AllByRecursion IsEntry (plus c e)
  both-small graded coordinates rule degree first new =
      let few = spread-few w (map (is_pending t) (compact w)) h base (part ∙ put-by-is (is_pending t) (compact w) h (nothing (compact w))) (le_trans (state-few w d t h graded first) degree) in
      sum-entries c e (class-small w d c base coordinates rule few (sym class)) (new-small w d t g added graded degree new added-is coordinates rule e also)

module _ (w : Web) (d t : ℕ) (h g : List Rows) where
  pub absent-after : (ks : List (List Rows)) (x : List Rows) → ks ≡ states w d (suc t) → x ≡ after_of w t h g → AllByRecursion (λ k. same_choice x k ≡ false) ks → AllByRecursion (λ k. same_choice (after_of w t h g) k ≡ false) (states w d (suc t))
  absent-after ks x is after absent =
      subst (λ (zs : List (List Rows)). AllByRecursion (λ k. same_choice (after_of w t h g) k ≡ false) zs) is (subst (λ (z : List Rows). AllByRecursion (λ k. same_choice z k ≡ false) ks) after absent)

  pub is-after : (ks : List (List Rows)) (p : ℕ) (x : List Rows) → ks ≡ states w d (suc t) → x ≡ after_of w t h g → degree_of w.heights (class_of w (near_part w t h g)) ≤ℤ pos d → p < length ks → get_or ks p [] ≡ x → IsAfter w d t h g p
  is-after ks p x is after most within read = record {
    within = most;
    place = (let e = ap length is in omega arith);
    choice = ap (λ zs. get_or zs p []) (sym is) ∙ (read ∙ after);
  }

-- ---- the families of the choices

module _ {A : Type 0} (IsValue : A → Type 0) (r : Operations A) (w : Web) (d : ℕ) (n : ℤ) (t : ℕ) (h g : List Rows) (us : List (List ℤ)) (keys : List (List Rows)) (parts : List (Family A)) where
  abbrev adds : List Rows → List Addend
  adds = pair_addends w d n t h g us

  great-stays : pos d <ℤ degree_of w.heights (class_of w (near_part w t h g)) → GrowsBy IsValue r w d n (suc t) (pair_addends w d n t h g us) keys parts parts
  great-stays great = stays IsValue r w d n (suc t) adds keys parts (all-any (λ (k : List Rows). adds k ≡ []) (λ k. pair-great w d n t h g us k great) keys)

  absent-stays : (x : List Rows) → x ≡ after_of w t h g → AllByRecursion (λ k. same_choice x k ≡ false) keys → GrowsBy IsValue r w d n (suc t) (pair_addends w d n t h g us) keys parts parts
  absent-stays x is absent = stays IsValue r w d n (suc t) adds keys parts (all-onto (λ k. same_choice x k ≡ false) (λ (k : List Rows). adds k ≡ []) (λ k off. pair-none w d n t h g us k (ap (λ y. same_choice y k) (sym is) ∙ off)) keys absent)

  pub nowhere-stays : keys ≡ states w d (suc t) → GoesNowhere w d t h g → GrowsBy IsValue r w d n (suc t) (pair_addends w d n t h g us) keys parts parts
  nowhere-stays is nowhere = elim nowhere [
    | inl great ↦ great-stays great
    | inr absent ↦ absent-stays (after_of w t h g) refl (subst (λ (ks : List (List Rows)). AllByRecursion (λ k. same_choice (after_of w t h g) k ≡ false) ks) (sym is) absent)
  ]

  module _ (p : ℕ) (x a b : List Rows) (f e : Family A) (within : p < length keys) (there : get_or keys p [] ≡ x) (is : x ≡ after_of w t h g) (at_part : get_or parts p f ≡ f) (first : a ≡ h) (new : b ≡ g) (most : degree_of w.heights (class_of w (near_part w t h g)) ≤ℤ pos d) where
    pub pair-grows : IsDistinct same_choice keys → KeepsRows IsValue r w d n t a b us f e → GrowsBy IsValue r w d n (suc t) (pair_addends w d n t h g us) keys parts (set parts p e)
    pair-grows distinct keeps =
        let P : List Rows → Type 0 = λ z. KeepsRows IsValue r w d n t z b us f e in
        let Q : List Rows → Type 0 = λ z. KeepsRows IsValue r w d n t h z us f e in
        let kept : KeepsRows IsValue r w d n t h g us f e = subst Q new (subst P first keeps) in
        grows IsValue r w d n (suc t) adds keys parts p (after_of w t h g) f e within (there ∙ is) at_part distinct (λ y off. pair-none w d n t h g us y off)
        (λ front held. subst (λ (z : List Addend). Holding IsValue r w d n (suc t) (after_of w t h g) (front ++ z) e) (sym (pair-here w d n t h g us most)) (kept front held))

    pub pair-crowded : (v : List ℤ) → IsCrowdedBy IsValue r w d n t a b us f v → CrowdedIn IsValue r w d n (suc t) (pair_addends w d n t h g us) keys parts v
    pair-crowded v crowded =
        let P : List Rows → Type 0 = λ z. IsCrowdedBy IsValue r w d n t z b us f v in
        let Q : List Rows → Type 0 = λ z. IsCrowdedBy IsValue r w d n t h z us f v in
        let by : IsCrowdedBy IsValue r w d n t h g us f v = subst Q new (subst P first crowded) in
        crowded-at IsValue r w d n (suc t) adds keys parts p (after_of w t h g) f v within (there ∙ is) at_part
        (λ front held room. by front held (subst (λ (z : List Addend). HasRoom w d n (front ++ z)) (pair-here w d n t h g us most) room))
