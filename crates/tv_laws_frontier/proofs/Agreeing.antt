-- Assignments that have the same diagrams on the edges that a test picks.
--
-- Agrees p es a b == on each edge that p picks both have the same diagram; each has a diagram for each edge
use Rattle.std.specs.Prelude.{◌≡◌, ℕ, zero, suc, ◌<◌, Bool, true, false, cond, List, [], ◌∷◌, length, slice_index_or, ⊤}
use Rattle.std.proofs.Common.{refl, ap, ◌∙◌, arith}
use Rattle.tv_spec_plane.specs.declared.records.CompactEdge.{CompactEdge}
use Rattle.tv_spec_plane.specs.Web.{no_edge}
use Rattle.tv_spec_boxes.specs.Assignments.{Rows, Assignment}
use Rattle.tv_laws_frontier.specs.Frontier.{only}

abbrev pub Agrees : (CompactEdge → Bool) → List CompactEdge → Assignment → Assignment → Type 0
Agrees p [] a b = ⊤
Agrees p (e ∷ es) (x ∷ a) (y ∷ b) = (p e ≡ true → x ≡ y) × Agrees p es a b
Agrees p (e ∷ es) _ _ = ⊥

pub agrees-at : (p : CompactEdge → Bool) (es : List CompactEdge) (a b : Assignment) → Agrees p es a b → (k : ℕ) → k < length es → p (slice_index_or es k no_edge) ≡ true → slice_index_or a k [] ≡ slice_index_or b k []
agrees-at p [] a b same k h on = absurd (omega arith)
agrees-at p (e ∷ es) [] b same k h on = absurd same
agrees-at p (e ∷ es) (x ∷ a) [] same k h on = absurd same
agrees-at p (e ∷ es) (x ∷ a) (y ∷ b) same zero h on = same.0 on
agrees-at p (e ∷ es) (x ∷ a) (y ∷ b) same (suc k) h on = agrees-at p es a b same.1 k (omega arith) on

pub agrees-fewer : (p q : CompactEdge → Bool) → ((e : CompactEdge) → q e ≡ true → p e ≡ true) → (es : List CompactEdge) (a b : Assignment) → Agrees p es a b → Agrees q es a b
agrees-fewer p q also [] a b same = same
agrees-fewer p q also (e ∷ es) [] b same = absurd same
agrees-fewer p q also (e ∷ es) (x ∷ a) [] same = absurd same
agrees-fewer p q also (e ∷ es) (x ∷ a) (y ∷ b) same = ((λ on. same.0 (also e on)), agrees-fewer p q also es a b same.1)

same-kept : (c : Bool) (x y : Rows) → (c ≡ true → x ≡ y) → cond c x [] ≡ cond c y []
same-kept true x y same = same refl
same-kept false x y same = refl

pub agrees-only : (p : CompactEdge → Bool) (es : List CompactEdge) (a b : Assignment) → Agrees p es a b → only p es a ≡ only p es b
agrees-only p [] a b same = refl
agrees-only p (e ∷ es) [] b same = absurd same
agrees-only p (e ∷ es) (x ∷ a) [] same = absurd same
agrees-only p (e ∷ es) (x ∷ a) (y ∷ b) same = ap (λ z. z ∷ only p es a) (same-kept (p e) x y same.0) ∙ ap (λ c. cond (p e) y [] ∷ c) (agrees-only p es a b same.1)
