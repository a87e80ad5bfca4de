-- What is added of a list of things, one after the other.
use Rattle.std.specs.Prelude.{◌≡◌, ℕ, ℤ, List, [], ◌∷◌, ◌++◌}
use Rattle.std.specs.List.{flat_map}
use Rattle.std.proofs.Common.{refl, sym, ap, subst, ◌∙◌, append_assoc, append-nil}
use Rattle.std.proofs.lemmas.Grind.{flat_map-append}
use Rattle.tv_lemmas.proofs.Members.{all-onto, all-any}
use Rattle.tv_ring.specs.Operations.{Operations}
use Rattle.tv_spec_plane.specs.Web.{Web}
use Rattle.tv_spec_boxes.specs.Assignments.{Rows}
use Rattle.tv_spec_series.specs.Families.{Family}
use Rattle.tv_frontier.specs.Sums.{Addend}
use Rattle.tv_frontier.specs.Rows.{HasRoom, Holding}
use Rattle.tv_frontier.specs.Layers.{AllHold, GrowsBy, CrowdedIn}
use Rattle.tv_frontier.proofs.Grown.{stays}
use Rattle.tv_frontier.proofs.RowAdded.{room-front}

module _ {A : Type 0} (IsValue : A → Type 0) (r : Operations A) (w : Web) (d : ℕ) (n : ℤ) (t : ℕ) where
  pub held-onto : (a b : List Rows → List Addend) → ((k : List Rows) → a k ≡ b k) → (keys : List (List Rows)) (parts : List (Family A)) → AllHold IsValue r w d n t a keys parts → AllHold IsValue r w d n t b keys parts
  held-onto a b same [] [] held = tt
  held-onto a b same (k ∷ keys) [] held = held
  held-onto a b same [] (f ∷ parts) held = held
  held-onto a b same (k ∷ keys) (f ∷ parts) held = (subst (λ (x : List Addend). Holding IsValue r w d n t k x f) (same k) held.0, held-onto a b same keys parts held.1)

  module _ {X : Type 0} (f : X → List Rows → List Addend) (keys : List (List Rows)) where
    abbrev pub all_of : List X → List Rows → List Addend
    all_of xs k = flat_map (λ x. f x k) xs

    pub grows-none : (parts : List (Family A)) → GrowsBy IsValue r w d n t (all_of []) keys parts parts
    grows-none parts = stays IsValue r w d n t (all_of []) keys parts (all-any (λ (k : List Rows). all_of [] k ≡ []) (λ k. refl) keys)

    one-more : (xs : List X) (x : X) (k : List Rows) (front : List Addend) → (front ++ all_of xs k) ++ f x k ≡ front ++ all_of (xs ++ x ∷ []) k
    one-more xs x k front =
        append_assoc front (all_of xs k) (f x k)
        ∙ ap (λ z. front ++ z) (ap (λ z. all_of xs k ++ z) (sym (append-nil (f x k))) ∙ sym (flat_map-append (λ y. f y k) xs (x ∷ [])))

    pub grows-next : (xs zs : List X) (x : X) (olds mids news : List (Family A)) → zs ≡ xs ++ x ∷ [] → GrowsBy IsValue r w d n t (all_of xs) keys olds mids → GrowsBy IsValue r w d n t (f x) keys mids news → GrowsBy IsValue r w d n t (all_of zs) keys olds news
    grows-next xs zs x olds mids news is before one fronts held =
        held-onto (λ k. (fronts k ++ all_of xs k) ++ f x k) (λ k. fronts k ++ all_of zs k) (λ k. one-more xs x k (fronts k) ∙ ap (λ ys. fronts k ++ all_of ys k) (sym is)) keys news
        (one (λ k. fronts k ++ all_of xs k) (before fronts held))

    pub crowded-among : (xs later all : List X) (x : X) (olds mids : List (Family A)) (v : List ℤ) → all ≡ (xs ++ x ∷ []) ++ later → GrowsBy IsValue r w d n t (all_of xs) keys olds mids → CrowdedIn IsValue r w d n t (f x) keys mids v → CrowdedIn IsValue r w d n t (all_of all) keys olds v
    crowded-among xs later all x olds mids v is before one fronts held room =
        one (λ k. fronts k ++ all_of xs k) (before fronts held)
        (all-onto (λ (k : List Rows). HasRoom w d n (fronts k ++ all_of all k)) (λ (k : List Rows). HasRoom w d n ((fronts k ++ all_of xs k) ++ f x k)) fits keys room)
      where
        fits : (k : List Rows) → HasRoom w d n (fronts k ++ all_of all k) → HasRoom w d n ((fronts k ++ all_of xs k) ++ f x k)
        fits k most =
            let whole : fronts k ++ all_of all k ≡ (fronts k ++ all_of (xs ++ x ∷ []) k) ++ all_of later k =
            ap (λ ys. fronts k ++ all_of ys k) is ∙ (ap (λ z. fronts k ++ z) (flat_map-append (λ y. f y k) (xs ++ x ∷ []) later) ∙ sym (append_assoc (fronts k) (all_of (xs ++ x ∷ []) k) (all_of later k))) in
            subst (HasRoom w d n) (sym (one-more xs x k (fronts k))) (room-front w d n (fronts k ++ all_of (xs ++ x ∷ []) k) (all_of later k) (subst (HasRoom w d n) whole most))

-- one place more of a list
