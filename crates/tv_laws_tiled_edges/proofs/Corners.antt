-- Where two points of a triangle stand, and on which side of them the third is.
use Rattle.std.proofs.Common.{◌≡◌, ◌≢◌, ℕ, ◌<◌, ℤ, pos, negsuc, neg_ℤ, List, length, Bool, true, false, cond, ◌||◌, nat_eq, unsigned_abs, ◌⊎◌, inl, inr, refl, ap, sym, ◌∙◌, arith, subst}
use Rattle.std.specs.Prelude.{int_lt}
use Rattle.std.proofs.lemmas.Bool.{eqb-true, eq-eqb, ne_eqb, or_cases, or_from, or_left, or_right}
use Rattle.tv_spec_plane.specs.declared.records.Triple.{Triple}
use Rattle.tv_spec_plane.specs.Plane.{Point, at, turn}
use Rattle.tv_spec_plane.specs.Web.{has, opposite}
use Rattle.tv_laws_tiling.specs.Members.{Among}
use Rattle.tv_laws_tiling.specs.Edges.{sides, IsListed, IsTurned}
use Rattle.tv_triangulation.specs.Turned.{turn_of, turned_of, IsUnit}
use Rattle.tv_spec_plane.proofs.Turns.{turn-rotate, turn-exchange, turn-first, turn-last, turn-return}
use Rattle.tv_triangulation.proofs.Turning.{turned-one}

abbrev Names : ℕ → ℕ → ℕ → ℕ → ℕ → ℕ → Type 0
Names p q r a b o = (p ≡ a) × (q ≡ b) × (r ≡ o)

-- a, b and o are the points of t in their order, from any of them on
abbrev pub InOrder : Triple → ℕ → ℕ → ℕ → Type 0
InOrder t a b o = Names t.a t.b t.c a b o ⊎ (Names t.b t.c t.a a b o ⊎ Names t.c t.a t.b a b o)

-- in that order or in the other
abbrev pub Stands : Triple → ℕ → ℕ → ℕ → Type 0
Stands t a b o = InOrder t a b o ⊎ InOrder (record { a = t.a; b = t.c; c = t.b }) a b o

-- ---- the third point
either : (x a b : ℕ) → (x ≡ a) ⊎ (x ≡ b) → (nat_eq x a || nat_eq x b) ≡ true
either x a b (inl e) = or_left (nat_eq x a) (nat_eq x b) (eq-eqb x a e)
either x a b (inr e) = or_right (nat_eq x a) (nat_eq x b) (eq-eqb x b e)

neither : (x a b : ℕ) → x ≢ a → x ≢ b → (nat_eq x a || nat_eq x b) ≡ false
neither x a b f g = or_from (nat_eq x a) (nat_eq x b) (ne_eqb x a f) (ne_eqb x b g)

third_by : (p q : Bool) (t : Triple) (x y : Bool) → p ≡ x → q ≡ y → cond p (cond q t.c t.b) t.a ≡ cond x (cond y t.c t.b) t.a
third_by p q t x y e f = rw (e, f) refl

has_cases : (t : Triple) (a : ℕ) → has t a ≡ true → (t.a ≡ a) ⊎ ((t.b ≡ a) ⊎ (t.c ≡ a))
has_cases t a h = elim (or_cases (nat_eq t.a a) (nat_eq t.b a || nat_eq t.c a) h) [
  | inl e ↦ inl (eqb-true t.a a e)
  | inr k ↦ elim (or_cases (nat_eq t.b a) (nat_eq t.c a) k) [ inl e ↦ inr (inl (eqb-true t.b a e)) | inr e ↦ inr (inr (eqb-true t.c a e)) ]
]

module _ (t : Triple) (a b : ℕ) (ab : t.a ≢ t.b) (bc : t.b ≢ t.c) (ca : t.c ≢ t.a) (apart : a ≢ b) where
  last : (t.a ≡ a) ⊎ (t.a ≡ b) → (t.b ≡ a) ⊎ (t.b ≡ b) → t.c ≡ opposite t a b
  last e f = sym (third_by _ _ t true true (either t.a a b e) (either t.b a b f))

  middle : (t.a ≡ a) ⊎ (t.a ≡ b) → t.b ≢ a → t.b ≢ b → t.b ≡ opposite t a b
  middle e f g = sym (third_by _ _ t true false (either t.a a b e) (neither t.b a b f g))

  first : t.a ≢ a → t.a ≢ b → t.a ≡ opposite t a b
  first f g = sym (third_by _ _ t false (nat_eq t.b a || nat_eq t.b b) (neither t.a a b f g) refl)

  stands_by : (t.a ≡ a) ⊎ ((t.b ≡ a) ⊎ (t.c ≡ a)) → (t.a ≡ b) ⊎ ((t.b ≡ b) ⊎ (t.c ≡ b)) → Stands t a b (opposite t a b)
  stands_by (inl e) (inl f) = absurd (apart (sym e ∙ f))
  stands_by (inl e) (inr (inl f)) = inl (inl (e, f, last (inl e) (inr f)))
  stands_by (inl e) (inr (inr f)) = inr (inl (e, f, middle (inl e) (λ g. ab (e ∙ sym g)) (λ g. bc (g ∙ sym f))))
  stands_by (inr (inl e)) (inl f) = inr (inr (inr (e, f, last (inr f) (inl e))))
  stands_by (inr (inl e)) (inr (inl f)) = absurd (apart (sym e ∙ f))
  stands_by (inr (inl e)) (inr (inr f)) = inl (inr (inl (e, f, first (λ g. ab (g ∙ sym e)) (λ g. ca (f ∙ sym g)))))
  stands_by (inr (inr e)) (inl f) = inl (inr (inr (e, f, middle (inr f) (λ g. bc (g ∙ sym e)) (λ g. ab (f ∙ sym g)))))
  stands_by (inr (inr e)) (inr (inl f)) = inr (inr (inl (e, f, first (λ g. ca (e ∙ sym g)) (λ g. ab (g ∙ sym f)))))
  stands_by (inr (inr e)) (inr (inr f)) = absurd (apart (sym e ∙ f))

-- ---- what the order says
module _ (ps : List Point) (t : Triple) (a b o : ℕ) where
  order_turn : InOrder t a b o → turn (at ps a) (at ps b) (at ps o) ≡ turn_of ps t
  order_turn (inl e) = rw (e.0, e.1, e.2) refl
  order_turn (inr (inl e)) = rw (e.0, e.1, e.2) (turn-rotate (at ps o) (at ps a) (at ps b))
  order_turn (inr (inr e)) = rw (e.0, e.1, e.2) (sym (turn-rotate (at ps a) (at ps b) (at ps o)))

  order_side : InOrder t a b o → Among (a, b) (sides t)
  order_side (inl e) = inl (rw (e.0, e.1) refl)
  order_side (inr (inl e)) = inr (inl (rw (e.0, e.1) refl))
  order_side (inr (inr e)) = inr (inr (inl (rw (e.0, e.1) refl)))

  other_side : InOrder (record { a = t.a; b = t.c; c = t.b }) a b o → Among (b, a) (sides t)
  other_side (inl e) = inr (inr (inl (rw (e.0, e.1) refl)))
  other_side (inr (inl e)) = inr (inl (rw (e.0, e.1) refl))
  other_side (inr (inr e)) = inl (rw (e.0, e.1) refl)

-- listed, and on the one side or on the other
pub record IsBeside (ps : List Point) (t : Triple) (a b o : ℕ) : Type 0 where
  pub a_listed : a < length ps
  pub b_listed : b < length ps
  pub o_listed : o < length ps
  pub place : ((turn (at ps a) (at ps b) (at ps o) ≡ pos 1) × Among (a, b) (sides t)) ⊎ ((turn (at ps a) (at ps b) (at ps o) ≡ negsuc 0) × Among (b, a) (sides t))

abbrev AllListed : List Point → ℕ → ℕ → ℕ → Type 0
AllListed ps a b o = (a < length ps) × (b < length ps) × (o < length ps)

names_listed : (ps : List Point) (p q r a b o : ℕ) → Names p q r a b o → AllListed ps p q r → AllListed ps a b o
names_listed ps p q r a b o e l = rw (e.0, e.1, e.2) at l

order_listed : (ps : List Point) (t : Triple) (a b o : ℕ) → InOrder t a b o → IsListed ps t → AllListed ps a b o
order_listed ps t a b o (inl e) l = names_listed ps t.a t.b t.c a b o e (l.a, l.b, l.c)
order_listed ps t a b o (inr (inl e)) l = names_listed ps t.b t.c t.a a b o e (l.b, l.c, l.a)
order_listed ps t a b o (inr (inr e)) l = names_listed ps t.c t.a t.b a b o e (l.c, l.a, l.b)

beside : (ps : List Point) (t : Triple) (a b o : ℕ) → IsTurned ps t → Stands t a b o → IsBeside ps t a b o
beside ps t a b o h (inl s) = let l = order_listed ps t a b o s h.listed in
    record { a_listed = l.0; b_listed = l.1; o_listed = l.2; place = inl (order_turn ps t a b o s ∙ h.turned, order_side ps t a b o s) }
beside ps t a b o h (inr s) = let l = order_listed ps (record { a = t.a; b = t.c; c = t.b }) a b o s (record { a = h.listed.a; b = h.listed.c; c = h.listed.b }) in
    record { a_listed = l.0; b_listed = l.1; o_listed = l.2; place = inr (order_turn ps (record { a = t.a; b = t.c; c = t.b }) a b o s ∙ (turn-exchange (at ps t.a) (at ps t.b) (at ps t.c) ∙ ap neg_ℤ h.turned), other_side ps t a b o s) }

-- ---- of a unimodular triangle
stands_turned : (t : Triple) (a b o : ℕ) (x : Bool) → Stands t a b o → Stands (cond x (record { a = t.a; b = t.c; c = t.b }) t) a b o
stands_turned t a b o true (inl s) = inr s
stands_turned t a b o true (inr s) = inl s
stands_turned t a b o false s = s

not_flat : (z : ℤ) → unsigned_abs z ≡ 1 → z ≢ pos 0
not_flat z u e = let m : unsigned_abs z ≡ 0 = ap unsigned_abs e in omega (arith, u, m)

module _ (ps : List Point) (t : Triple) (u : IsUnit ps t) where
  pub a_not_b : t.a ≢ t.b
  a_not_b e = not_flat (turn_of ps t) u (subst (λ k. turn (at ps t.a) (at ps k) (at ps t.c) ≡ pos 0) e (turn-first (at ps t.a) (at ps t.c)))

  pub b_not_c : t.b ≢ t.c
  b_not_c e = not_flat (turn_of ps t) u (subst (λ k. turn (at ps t.a) (at ps t.b) (at ps k) ≡ pos 0) e (turn-last (at ps t.a) (at ps t.b)))

  pub c_not_a : t.c ≢ t.a
  c_not_a e = not_flat (turn_of ps t) u (subst (λ k. turn (at ps t.a) (at ps t.b) (at ps k) ≡ pos 0) (sym e) (turn-return (at ps t.a) (at ps t.b)))

pub beside_edge : (ps : List Point) (t : Triple) (a b : ℕ) → IsListed ps t → IsUnit ps t → a ≢ b → has t a ≡ true → has t b ≡ true → IsBeside ps (turned_of ps t) a b (opposite t a b)
beside_edge ps t a b l u apart ha hb = beside ps (turned_of ps t) a b (opposite t a b) (turned-one ps t l u) (stands_turned t a b (opposite t a b) (int_lt (turn_of ps t) (pos 0)) (stands_by t a b (a_not_b ps t u) (b_not_c ps t u) (c_not_a ps t u) apart (has_cases t a ha) (has_cases t b hb)))
