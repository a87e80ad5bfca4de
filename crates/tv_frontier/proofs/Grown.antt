-- One family among those of the choices after a corner grows, and the others stay.
use Rattle.std.specs.Prelude.{◌≡◌, ℕ, zero, suc, ◌<◌, Bool, true, false, cond, ◌&&◌, int_le, ℤ, pos, ◌≤ℤ◌, ◌<ℤ◌, List, [], ◌∷◌, ◌++◌, length}
use Rattle.std.specs.List.{AllByRecursion, IsDistinct}
use Rattle.std.proofs.Common.{refl, sym, ap, subst, ◌∙◌, arith, append-nil, get_or}
use Rattle.std.proofs.Math.ListN.{set}
use Rattle.std.proofs.lemmas.Int.{ints}
use Rattle.tv_lemmas.proofs.Members.{all-at}
use Rattle.tv_ring.specs.Operations.{Operations}
use Rattle.tv_spec_plane.specs.Web.{Web, degree_of}
use Rattle.tv_spec_boxes.specs.Assignments.{Rows, class_of, same_choice}
use Rattle.tv_spec_series.specs.Families.{Family}
use Rattle.tv_laws_frontier.specs.Steps.{near_part}
use Rattle.tv_laws_frontier.proofs.Listed.{choice_equality}
use Rattle.tv_assigned_series.specs.FamilyFaults.{IsCrowded}
use Rattle.tv_frontier.specs.Sums.{Addend}
use Rattle.tv_frontier.specs.Rows.{after_of, row_addends, HasRoom, Holding}
use Rattle.tv_frontier.specs.Layers.{AllHold, pair_addends, GrowsBy, CrowdedIn}

off-and : (a b : Bool) → b ≡ false → (a && b) ≡ false
off-and true b e = e
off-and false b e = refl

module _ {A : Type 0} (IsValue : A → Type 0) (r : Operations A) (w : Web) (d : ℕ) (n : ℤ) (t : ℕ) where
  -- nothing is added where the addends are none
  same-front : (front : List Addend) (adds : List Addend) → adds ≡ [] → front ≡ front ++ adds
  same-front front adds e = sym (ap (λ x. front ++ x) e ∙ append-nil front)

  pub stays : (adds : List Rows → List Addend) (keys : List (List Rows)) (parts : List (Family A)) → AllByRecursion (λ (k : List Rows). adds k ≡ []) keys → GrowsBy IsValue r w d n t adds keys parts parts
  stays adds [] [] none fronts held = tt
  stays adds (k ∷ keys) [] none fronts held = held
  stays adds [] (f ∷ parts) none fronts held = held
  stays adds (k ∷ keys) (f ∷ parts) none fronts held =
      (subst (λ (x : List Addend). Holding IsValue r w d n t k x f) (same-front (fronts k) (adds k) none.0) held.0, stays adds keys parts none.1 fronts held.1)

  -- one family grows
  pub grows : (adds : List Rows → List Addend) (keys : List (List Rows)) (parts : List (Family A)) (p : ℕ) (k : List Rows) (f e : Family A) → p < length keys → get_or keys p [] ≡ k → get_or parts p f ≡ f → IsDistinct same_choice keys →
      ((y : List Rows) → same_choice k y ≡ false → adds y ≡ []) → ((front : List Addend) → Holding IsValue r w d n t k front f → Holding IsValue r w d n t k (front ++ adds k) e) → GrowsBy IsValue r w d n t adds keys parts (set parts p e)
  unfolding IsDistinct
  grows adds [] parts p k f e h at_key at_part distinct other more fronts held = absurd (omega arith)
  grows adds (y ∷ keys) [] p k f e h at_key at_part distinct other more fronts held = absurd held
  grows adds (y ∷ keys) (x ∷ parts) zero k f e h at_key at_part distinct other more fronts held =
      let P : List Rows → Type 0 = λ z. Holding IsValue r w d n t z (fronts z ++ adds z) e in
      let here : Holding IsValue r w d n t k (fronts k) f = subst (λ (z : List Rows). Holding IsValue r w d n t z (fronts z) f) at_key (subst (λ (z : Family A). Holding IsValue r w d n t y (fronts y) z) at_part held.0) in
      (subst P (sym at_key) (more (fronts k) here), stays adds keys parts (others keys distinct.0) fronts held.1)
    where
      others : (ks : List (List Rows)) → AllByRecursion (λ z. same_choice y z ≡ false) ks → AllByRecursion (λ (z : List Rows). adds z ≡ []) ks
      others [] all = tt
      others (z ∷ ks) all = (other z (ap (λ q. same_choice q z) (sym at_key) ∙ all.0), others ks all.1)
  grows adds (y ∷ keys) (x ∷ parts) (suc p) k f e h at_key at_part distinct other more fronts held =
      let apart : same_choice y (get_or keys p []) ≡ false = all-at (λ (z : List Rows). same_choice y z ≡ false) keys [] distinct.0 p (omega arith) in
      let off : same_choice k y ≡ false = turned (same_choice k y) refl (ap (same_choice y) (sym at_key) ∙ apart) in
      (subst (λ (z : List Addend). Holding IsValue r w d n t y z x) (same-front (fronts y) (adds y) (other y off)) held.0, grows adds keys parts p k f e (omega arith) at_key at_part distinct.1 other more fronts held.1)
    where
      turned : (b : Bool) → same_choice k y ≡ b → same_choice y k ≡ false → b ≡ false
      turned false e differs = refl
      turned true e differs = absurd (let same = choice_equality.tells k y e in let own = choice_equality.own y in let yes : same_choice y k ≡ true = ap (same_choice y) same ∙ own in let bad : true ≡ false = sym yes ∙ differs in cc)

  -- what one family holds
  pub held-at : (fronts : List Rows → List Addend) (keys : List (List Rows)) (parts : List (Family A)) (p : ℕ) (k : List Rows) (f : Family A) → p < length keys → get_or keys p [] ≡ k → get_or parts p f ≡ f → AllHold IsValue r w d n t fronts keys parts → Holding IsValue r w d n t k (fronts k) f
  held-at fronts [] parts p k f h at_key at_part held = absurd (omega arith)
  held-at fronts (y ∷ keys) [] p k f h at_key at_part held = absurd held
  held-at fronts (y ∷ keys) (x ∷ parts) zero k f h at_key at_part held = subst (λ (z : List Rows). Holding IsValue r w d n t z (fronts z) f) at_key (subst (λ (z : Family A). Holding IsValue r w d n t y (fronts y) z) at_part held.0)
  held-at fronts (y ∷ keys) (x ∷ parts) (suc p) k f h at_key at_part held = held-at fronts keys parts p k f (omega arith) at_key at_part held.1

  pub crowded-at : (adds : List Rows → List Addend) (keys : List (List Rows)) (parts : List (Family A)) (p : ℕ) (k : List Rows) (f : Family A) (v : List ℤ) → p < length keys → get_or keys p [] ≡ k → get_or parts p f ≡ f → ((front : List Addend) → Holding IsValue r w d n t k front f → HasRoom w d n (front ++ adds k) → IsCrowded r w d n v) → CrowdedIn IsValue r w d n t adds keys parts v
  crowded-at adds keys parts p k f v h at_key at_part crowded fronts held room =
      let there : HasRoom w d n (fronts (get_or keys p []) ++ adds (get_or keys p [])) = all-at (λ (z : List Rows). HasRoom w d n (fronts z ++ adds z)) keys [] room p h in
      crowded (fronts k) (held-at fronts keys parts p k f h at_key at_part held) (subst (λ (z : List Rows). HasRoom w d n (fronts z ++ adds z)) at_key there)

-- ---- what one pair adds

pub pair-none : (w : Web) (d : ℕ) (n : ℤ) (t : ℕ) (h g : List Rows) (us : List (List ℤ)) (k : List Rows) → same_choice (after_of w t h g) k ≡ false → pair_addends w d n t h g us k ≡ []
pair-none w d n t h g us k off = ap (λ b. cond b (row_addends w d n t h g us) []) (off-and (int_le (degree_of w.heights (class_of w (near_part w t h g))) (pos d)) (same_choice (after_of w t h g) k) off)

pub pair-great : (w : Web) (d : ℕ) (n : ℤ) (t : ℕ) (h g : List Rows) (us : List (List ℤ)) (k : List Rows) → pos d <ℤ degree_of w.heights (class_of w (near_part w t h g)) → pair_addends w d n t h g us k ≡ []
pair-great w d n t h g us k great =
    let off : int_le (degree_of w.heights (class_of w (near_part w t h g))) (pos d) ≡ false = grind (arith, ints) in
    ap (λ b. cond (b && same_choice (after_of w t h g) k) (row_addends w d n t h g us) []) off

pub pair-here : (w : Web) (d : ℕ) (n : ℤ) (t : ℕ) (h g : List Rows) (us : List (List ℤ)) → degree_of w.heights (class_of w (near_part w t h g)) ≤ℤ pos d → pair_addends w d n t h g us (after_of w t h g) ≡ row_addends w d n t h g us
pair-here w d n t h g us most =
    let on : int_le (degree_of w.heights (class_of w (near_part w t h g))) (pos d) ≡ true = grind (arith, ints) in
    ap (λ b. cond (b && same_choice (after_of w t h g) (after_of w t h g)) (row_addends w d n t h g us) []) on
    ∙ ap (λ b. cond b (row_addends w d n t h g us) []) (choice_equality.own (after_of w t h g))
