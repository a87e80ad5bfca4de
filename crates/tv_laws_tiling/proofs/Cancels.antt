-- Sums over lists in which no member stands twice: they depend on the members alone, and a member and its opposite
-- cancel.
use Rattle.std.specs.Prelude.{◌≡◌, ℤ, pos, ◌+ℤ◌, neg_ℤ, ◌⊎◌, List, [], ◌∷◌, ◌++◌, map}
use Rattle.std.proofs.Common.{refl, ap, sym, subst, ◌∙◌, arith, inl, inr}
use Rattle.std.proofs.lemmas.Int.{ints}
use Rattle.tv_laws_tiling.specs.Members.{Among, Once}
use Rattle.tv_laws_tiling.proofs.Members.{among-append, append-among_left, append-among_right, once-append}
use Rattle.tv_lemmas.specs.Sums.{total}
use Rattle.tv_lemmas.proofs.Sums.{total-append, total-map, total-neg}

-- a list of sums without its member x
record IsRest {A : Type 0} (f : A → ℤ) (x : A) (ys zs : List A) : Type 0 where
  sum : total f ys ≡ f x +ℤ total f zs
  once : Once zs
  within : (z : A) → Among z zs → Among z ys
  without : Among x zs → ⊥
  covers : (z : A) → Among z ys → (z ≡ x) ⊎ Among z zs

rest-of : {A : Type 0} (f : A → ℤ) (x : A) (ys : List A) → Among x ys → Once ys → (zs : List A) × IsRest f x ys zs
rest-of f x [] m once = elim m [ ]
rest-of f x (y ∷ ys) (inl e) once = (
  ys,
  record {
    sum = ap (λ t. f t +ℤ total f ys) (sym e);
    once = once.1;
    within = λ z m. inr m;
    without = λ m. once.0 (subst (λ t. Among t ys) e m);
    covers = λ z m. elim m [ inl h ↦ inl (h ∙ sym e) | inr h ↦ inr h ];
  },
)
rest-of f x (y ∷ ys) (inr m) once =
    let r = rest-of f x ys m once.1 in (
      y ∷ r.0,
      record {
        sum = omega (arith, ints, r.1.sum);
        once = (λ h. once.0 (r.1.within y h), r.1.once);
        within = λ z h. elim h [ inl e ↦ inl e | inr k ↦ inr (r.1.within z k) ];
        without = λ h. elim h [ inl e ↦ once.0 (subst (λ t. Among t ys) e m) | inr k ↦ r.1.without k ];
        covers = λ z h. elim h [ inl e ↦ inr (inl e) | inr k ↦ elim (r.1.covers z k) [ inl e ↦ inl e | inr l ↦ inr (inr l) ] ];
      },
    )

pub total-same : {A : Type 0} (f : A → ℤ) (xs ys : List A) → Once xs → Once ys → ((z : A) → Among z xs → Among z ys) → ((z : A) → Among z ys → Among z xs) → total f xs ≡ total f ys
total-same f [] [] once_xs once_ys to from = refl
total-same f [] (y ∷ ys) once_xs once_ys to from = absurd (from y (inl refl))
total-same f (x ∷ xs) ys once_xs once_ys to from =
    let r = rest-of f x ys (to x (inl refl)) once_ys in
    let same : total f xs ≡ total f r.0 = total-same f xs r.0 once_xs.1 r.1.once
    (λ z m. elim (r.1.covers z (to z (inr m))) [ inl e ↦ absurd (once_xs.0 (subst (λ t. Among t xs) e m)) | inr k ↦ k ])
    (λ z m. elim (from z (r.1.within z m)) [ inl e ↦ absurd (r.1.without (subst (λ t. Among t r.0) e m)) | inr k ↦ k ]) in
    ap (λ s. f x +ℤ s) same ∙ sym r.1.sum

-- with an opposite for each member, whose opposite is the member itself
module _ {A : Type 0} (back : A → A) (twice : (z : A) → back (back z) ≡ z) where
  among-back : (z : A) (xs : List A) → Among z (map back xs) → Among (back z) xs
  among-back z [] m = elim m [ ]
  among-back z (x ∷ xs) (inl e) = inl (ap back e ∙ twice x)
  among-back z (x ∷ xs) (inr m) = inr (among-back z xs m)

  back-among : (z : A) (xs : List A) → Among (back z) xs → Among z (map back xs)
  back-among z [] m = elim m [ ]
  back-among z (x ∷ xs) (inl e) = inl (sym (twice z) ∙ ap back e)
  back-among z (x ∷ xs) (inr m) = inr (back-among z xs m)

  once-back : (xs : List A) → Once xs → Once (map back xs)
  once-back [] once = tt
  once-back (x ∷ xs) once = (λ m. once.0 (subst (λ t. Among t xs) (twice x) (among-back (back x) xs m)), once-back xs once.1)

  module _ (f : A → ℤ) (opposite : (z : A) → f (back z) ≡ neg_ℤ (f z)) where
    total-back : (xs : List A) → total f (map back xs) ≡ neg_ℤ (total f xs)
    total-back xs = total-map f back xs ∙ total-neg f (λ z. f (back z)) opposite xs

    total-closed : (xs : List A) → Once xs → ((z : A) → Among z xs → Among (back z) xs) → total f xs ≡ pos 0
    total-closed xs once closed =
        let same : total f xs ≡ total f (map back xs) = total-same f xs (map back xs) once (once-back xs once)
        (λ z m. back-among z xs (closed z m))
        (λ z m. subst (λ t. Among t xs) (twice z) (closed (back z) (among-back z xs m))) in
        omega (arith, ints, total-back xs)

    -- where each opposite of an edge is an edge, but for the edges of the hull
    pub total-cancels : (edges hull : List A) → Once edges → Once hull → ((z : A) → Among z edges → Among (back z) edges ⊎ Among z hull) → ((z : A) → Among z hull → Among z edges) → ((z : A) → Among z hull → Among (back z) edges → ⊥) → total f edges ≡ total f hull
    total-cancels edges hull once_edges once_hull matched covered outer =
        let apart : (z : A) → Among z edges → Among z (map back hull) → ⊥ = λ z m h. outer (back z) (among-back z hull h) (subst (λ t. Among t edges) (sym (twice z)) m) in
        let closed : (z : A) → Among z (edges ++ map back hull) → Among (back z) (edges ++ map back hull) = λ z m. elim (among-append z edges (map back hull) m) [
          | inl h ↦ elim (matched z h) [
            | inl k ↦ append-among_left (back z) edges (map back hull) k
            | inr k ↦ append-among_right (back z) edges (map back hull) (back-among (back z) hull (subst (λ t. Among t hull) (sym (twice z)) k))
          ]
          | inr h ↦ append-among_left (back z) edges (map back hull) (covered (back z) (among-back z hull h))
        ] in
        let none : total f (edges ++ map back hull) ≡ pos 0 = total-closed (edges ++ map back hull) (once-append edges (map back hull) once_edges (once-back hull once_hull) apart) closed in
        omega (arith, ints, total-append f edges (map back hull), total-back hull)
