-- The families of the choices after a corner, one for each, and what the states before it add to them.
--
-- AllHold IsValue r w d n t fronts keys parts == for each choice the family holds its addends, and there are as many families
-- AllShaped w d bs parts   == each family has the shape, its exponents to its bound, and there are as many bounds
-- AreWithout w d bs parts  == each family is the one that has no class, its exponents to its bound, and there are as many bounds
-- pair_addends w d n t h g us k == what h, with the classes us, and g add to the family of k: where both are of degree at most d
--                             together and k is the choice after them, the addends of the classes, else nothing
-- GrowsBy .. adds keys olds news == whatever the families hold, each holds its addends besides then
-- CrowdedIn .. adds keys olds v == v is crowded, if the families hold some addends and there is room for the further ones
-- state_addends w d n t gs h k == what a state h with its classes adds to the family of k with all of the choices gs on the new edges
-- classed keys parts       == each state with the classes of its family
-- layer_addends w d n t gs hs k == what all of these states add
-- AreParts IsValue r w d n t keys parts == for each choice there is a family, which is the part of its state
-- IsLayer IsValue r w d n t ks fs == so it is of all states after t corners, in their order
-- IsStep w d t olds news lasts gs ks == which edges are pending before corner t, which are met first there, and which are
--                             pending after it, one truth for each; the choices on the new edges, and the states after it
use Rattle.std.specs.Prelude.{◌≡◌, ℕ, suc, ℤ, pos, List, [], ◌∷◌, ◌++◌, cond, ◌&&◌, int_le, map, Bool, ⊤}
use Rattle.std.specs.List.{AllByRecursion, flat_map}
use Rattle.tv_ring.specs.Operations.{Operations}
use Rattle.tv_spec_plane.specs.Web.{Web, compact, degree_of}
use Rattle.tv_spec_boxes.specs.Assignments.{Rows, class_of, same_choice}
use Rattle.tv_spec_partial.specs.Partial.{is_pending}
use Rattle.tv_spec_series.specs.Families.{Family, classes, without_rows}
use Rattle.tv_laws_frontier.specs.Steps.{is_new, states, options, near_part}
use Rattle.tv_assigned_series.specs.FamilyFaults.{IsCrowded}
use Rattle.tv_frontier.specs.Sums.{Addend}
use Rattle.tv_frontier.specs.Rows.{after_of, row_addends, HasRoom, HasShape, Holding, IsPart}

abbrev pub AllHold : {A : Type 0} → (A → Type 0) → Operations A → Web → ℕ → ℤ → ℕ → (List Rows → List Addend) → List (List Rows) → List (Family A) → Type 0
AllHold IsValue r w d n t fronts [] [] = ⊤
AllHold IsValue r w d n t fronts (k ∷ ks) (f ∷ fs) = Holding IsValue r w d n t k (fronts k) f × AllHold IsValue r w d n t fronts ks fs
AllHold IsValue r w d n t fronts _ _ = ⊥

abbrev pub AllShaped : {A : Type 0} → Web → ℕ → List ℤ → List (Family A) → Type 0
AllShaped w d [] [] = ⊤
AllShaped w d (b ∷ bs) (f ∷ fs) = HasShape w d b f × AllShaped w d bs fs
AllShaped w d _ _ = ⊥

abbrev pub AreWithout : {A : Type 0} → Web → ℕ → List ℤ → List (Family A) → Type 0
AreWithout w d [] [] = ⊤
AreWithout w d (b ∷ bs) (f ∷ fs) = (f ≡ without_rows w.heights (pos d) b) × AreWithout w d bs fs
AreWithout w d _ _ = ⊥

abbrev pub pair_addends : Web → ℕ → ℤ → ℕ → List Rows → List Rows → List (List ℤ) → List Rows → List Addend
pair_addends w d n t h g us k =
    cond (int_le (degree_of w.heights (class_of w (near_part w t h g))) (pos d) && same_choice (after_of w t h g) k)
    (row_addends w d n t h g us) []

abbrev pub GrowsBy : {A : Type 0} → (A → Type 0) → Operations A → Web → ℕ → ℤ → ℕ → (List Rows → List Addend) → List (List Rows) → List (Family A) → List (Family A) → Type 0
GrowsBy IsValue r w d n t adds keys olds news =
    (fronts : List Rows → List Addend) → AllHold IsValue r w d n t fronts keys olds →
    AllHold IsValue r w d n t (λ k. fronts k ++ adds k) keys news

abbrev pub CrowdedIn : {A : Type 0} → (A → Type 0) → Operations A → Web → ℕ → ℤ → ℕ → (List Rows → List Addend) → List (List Rows) → List (Family A) → List ℤ → Type 0
CrowdedIn IsValue r w d n t adds keys olds v =
    (fronts : List Rows → List Addend) → AllHold IsValue r w d n t fronts keys olds →
    AllByRecursion (λ (k : List Rows). HasRoom w d n (fronts k ++ adds k)) keys → IsCrowded r w d n v

abbrev pub state_addends : Web → ℕ → ℤ → ℕ → List (List Rows) → List Rows × List (List ℤ) → List Rows → List Addend
state_addends w d n t gs h k = flat_map (λ g. pair_addends w d n t h.0 g h.1 k) gs

abbrev pub classed : {A : Type 0} → List (List Rows) → List (Family A) → List (List Rows × List (List ℤ))
classed (k ∷ keys) (f ∷ parts) = (k, classes f.rows) ∷ classed keys parts
classed _ _ = []

abbrev pub layer_addends : Web → ℕ → ℤ → ℕ → List (List Rows) → List (List Rows × List (List ℤ)) → List Rows → List Addend
layer_addends w d n t gs hs k = flat_map (λ h. state_addends w d n t gs h k) hs

abbrev pub AreParts : {A : Type 0} → (A → Type 0) → Operations A → Web → ℕ → ℤ → ℕ → List (List Rows) → List (Family A) → Type 0
AreParts IsValue r w d n t [] [] = ⊤
AreParts IsValue r w d n t (k ∷ keys) (f ∷ parts) = IsPart IsValue r w d n t k f × AreParts IsValue r w d n t keys parts
AreParts IsValue r w d n t _ _ = ⊥

pub record IsLayer {A : Type 0} (IsValue : A → Type 0) (r : Operations A) (w : Web) (d : ℕ) (n : ℤ) (t : ℕ) (ks : List (List Rows)) (fs : List (Family A)) : Type 0 where
  pub keys : ks ≡ states w d t
  pub parts : AreParts IsValue r w d n t ks fs

pub record IsStep (w : Web) (d t : ℕ) (olds news lasts : List Bool) (gs ks : List (List Rows)) : Type 0 where
  pub pending : olds ≡ map (is_pending t) (compact w)
  pub fresh : news ≡ map (is_new t) (compact w)
  pub after : lasts ≡ map (is_pending (suc t)) (compact w)
  pub options : gs ≡ options w d t
  pub keys : ks ≡ states w d (suc t)
