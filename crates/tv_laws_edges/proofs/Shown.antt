-- The pairs of parities that the four points of an edge show.
use Rattle.std.specs.Prelude.{◌≡◌, ℕ, zero, suc, ◌<◌, Bool, true, false, cond, ◌||◌, ℤ, pos, ◌-ℤ◌, ◌⊎◌, unsigned_abs, nat_eq}
use Rattle.std.proofs.Common.{refl, sym, ap, ◌∙◌, inl, inr, arith}
use Rattle.std.proofs.lemmas.Bool.{and_parts, and_from, or_cases, or_left, or_right}
use Rattle.tv_spec_plane.specs.declared.records.CompactEdge.{CompactEdge}
use Rattle.tv_spec_plane.specs.Plane.{Point, at}
use Rattle.tv_spec_plane.specs.Web.{Web, edge_ratio, normal_a, parity}
use Rattle.tv_laws_edges.specs.Rule.{HasSides, IsRule, HasRule}
use Rattle.tv_laws_edges.specs.Laws.{HasParities, ShowAllParities, FourParities}
use Rattle.tv_laws_edges.proofs.Parity.{is_even, eqv, is_even-sub, remainder-is}
use Rattle.tv_laws_edges.proofs.Bits.{all, inverse, shows, all_shown, from_all, eqv-same, same-eqv, missing-is}
use Rattle.tv_laws_edges.proofs.Classes.{even_turn, odd_turn, rule_even_by, even_normal_a, ratio_holds}

-- ---- the parity of a number by the test that it is even
abbrev bit : Bool → ℕ
bit p = cond p 0 1

bit-same : (p q : Bool) → bit p ≡ bit q → p ≡ q
bit-same true true e = refl
bit-same true false e = absurd (omega arith)
bit-same false true e = absurd (omega arith)
bit-same false false e = refl

has_bit : (p : Bool) (z : ℤ) → eqv p (is_even z) ≡ true → parity z ≡ bit p
has_bit p z e = remainder-is (unsigned_abs z) ∙ ap bit (sym (eqv-same p (is_even z) e))

bit_has : (p : Bool) (z : ℤ) → parity z ≡ bit p → eqv p (is_even z) ≡ true
bit_has p z e = same-eqv p (is_even z) (bit-same p (is_even z) (sym e ∙ remainder-is (unsigned_abs z)))

bit_of : (i : ℕ) → i < 2 → (p : Bool) × (i ≡ bit p)
bit_of zero l = (true, refl)
bit_of (suc zero) l = (false, refl)
bit_of (suc (suc i)) l = absurd (omega arith)

bit_small : (p : Bool) → bit p < 2
bit_small true = omega arith
bit_small false = omega arith

-- ---- of one point
shown-has : (p q : Bool) (a : Point) → shows p q (is_even a.x) (is_even a.y) ≡ true → HasParities (bit p) (bit q) a
shown-has p q a e = let both = and_parts (eqv p (is_even a.x)) (eqv q (is_even a.y)) e in (has_bit p a.x both.0, has_bit q a.y both.1)

has-shown : (p q : Bool) (a : Point) → HasParities (bit p) (bit q) a → shows p q (is_even a.x) (is_even a.y) ≡ true
has-shown p q a has = and_from (eqv p (is_even a.x)) (eqv q (is_even a.y)) (bit_has p a.x has.0) (bit_has q a.y has.1)

-- ---- of four
to_all : (f : Bool → Bool) → ((b : Bool) → f b ≡ true) → all f ≡ true
to_all f each = rw (each true) (each false)

inverse-false : (b : Bool) → inverse b ≡ false → b ≡ true
inverse-false true e = refl
inverse-false false e = sym e

module _ (a b c d : Point) where
  abbrev shows_at : Bool → Bool → Point → Bool
  shows_at p q v = shows p q (is_even v.x) (is_even v.y)

  abbrev one_shows : Bool → Bool → Bool
  one_shows p q = shows_at p q a || (shows_at p q b || (shows_at p q c || shows_at p q d))

  abbrev OneHas : ℕ → ℕ → Type 0
  OneHas i j = HasParities i j a ⊎ (HasParities i j b ⊎ (HasParities i j c ⊎ HasParities i j d))

  abbrev four_show : Bool
  four_show = all_shown (is_even a.x) (is_even a.y) (is_even b.x) (is_even b.y) (is_even c.x) (is_even c.y) (is_even d.x) (is_even d.y)

  one-has : (p q : Bool) → one_shows p q ≡ true → OneHas (bit p) (bit q)
  one-has p q e = elim (or_cases (shows_at p q a) (shows_at p q b || (shows_at p q c || shows_at p q d)) e) [
    | inl h ↦ inl (shown-has p q a h)
    | inr f ↦ elim (or_cases (shows_at p q b) (shows_at p q c || shows_at p q d) f) [
      | inl h ↦ inr (inl (shown-has p q b h))
      | inr g ↦ elim (or_cases (shows_at p q c) (shows_at p q d) g) [ inl h ↦ inr (inr (inl (shown-has p q c h))) | inr h ↦ inr (inr (inr (shown-has p q d h))) ]
    ]
  ]

  has-one : (p q : Bool) → OneHas (bit p) (bit q) → one_shows p q ≡ true
  has-one p q (inl h) = or_left (shows_at p q a) _ (has-shown p q a h)
  has-one p q (inr (inl h)) = or_right (shows_at p q a) _ (or_left (shows_at p q b) _ (has-shown p q b h))
  has-one p q (inr (inr (inl h))) = or_right (shows_at p q a) _ (or_right (shows_at p q b) _ (or_left (shows_at p q c) _ (has-shown p q c h)))
  has-one p q (inr (inr (inr h))) = or_right (shows_at p q a) _ (or_right (shows_at p q b) _ (or_right (shows_at p q c) _ (has-shown p q d h)))

  shown-show : four_show ≡ true → ShowAllParities a b c d
  shown-show e i j l m =
      let p = bit_of i l in let q = bit_of j m in
      rw (p.1, q.1) (one-has p.0 q.0 (from_all (one_shows p.0) (from_all (λ (p : Bool). all (one_shows p)) e p.0) q.0))

  show-shown : ShowAllParities a b c d → four_show ≡ true
  show-shown show = to_all (λ (p : Bool). all (one_shows p)) (λ p. to_all (one_shows p) (λ q. has-one p q (show (bit p) (bit q) (bit_small p) (bit_small q))))

  even_missing : (r : ℤ) → HasSides a b c d → IsRule a b c d (pos 2 -ℤ r) r → inverse four_show ≡ is_even r
  even_missing r sides rule =
      let turned = sym (even_turn a b c) ∙ odd_turn a b c d sides in
      let same = is_even-sub (pos 2) r in
      missing-is (is_even a.x) (is_even a.y) (is_even b.x) (is_even b.y) (is_even c.x) (is_even c.y) (is_even d.x) (is_even d.y) (is_even r) turned (rule_even_by a.x b.x c.x d.x (pos 2 -ℤ r) r rule.x same) (rule_even_by a.y b.y c.y d.y (pos 2 -ℤ r) r rule.y same)

-- ---- of an edge
module _ (w : Web) (e : CompactEdge) (rule : HasRule w e) where
  abbrev edge_shows : Bool
  edge_shows = four_show (at w.points e.a) (at w.points e.b) (at w.points e.c) (at w.points e.d)

  missing_normal : inverse edge_shows ≡ is_even (normal_a w e)
  missing_normal = even_missing (at w.points e.a) (at w.points e.b) (at w.points e.c) (at w.points e.d) (edge_ratio w e) rule.sides (ratio_holds w e rule) ∙ sym (even_normal_a (edge_ratio w e))

  show-odd : ShowAllParities (at w.points e.a) (at w.points e.b) (at w.points e.c) (at w.points e.d) → parity (normal_a w e) ≡ 1
  show-odd show =
      let odd : is_even (normal_a w e) ≡ false = sym missing_normal ∙ ap inverse (show-shown (at w.points e.a) (at w.points e.b) (at w.points e.c) (at w.points e.d) show) in
      remainder-is (unsigned_abs (normal_a w e)) ∙ ap bit odd

  odd-show : parity (normal_a w e) ≡ 1 → ShowAllParities (at w.points e.a) (at w.points e.b) (at w.points e.c) (at w.points e.d)
  odd-show odd = shown-show (at w.points e.a) (at w.points e.b) (at w.points e.c) (at w.points e.d) (inverse-false edge_shows (missing_normal ∙ ap (λ n. nat_eq n 0) odd))

pub four_parities : FourParities
four_parities w e rule = (show-odd w e rule, odd-show w e rule)
