-- The parities of the four points of an edge, as a truth of Bool tests: with c + d = p a + r b, p and r of one parity, and
-- an odd turn of a, b and c, the even ones among the points weigh as much as the normal degree, by parity, and a pair of
-- parities is missing among the points where that degree is even.
--
-- all f     == f holds of both values
-- Test      == a test of eight coordinates and of the parity q of r; true means even
-- sum_even  == the points that are even weigh an even number
-- shows p q x y == x and y have the parities p and q
-- all_shown == each pair of parities is that of one of the points
-- missing   == one is that of none
-- claim f   == under the rule and the odd turn f tells the parity q
-- claims f  == it does at all values
use Rattle.std.specs.Prelude.{◌≡◌, Bool, true, false, cond, ◌&&◌, ◌||◌}
use Rattle.std.proofs.Common.{refl, sym}
use Rattle.tv_laws_edges.proofs.Parity.{eqv}

abbrev pub all : (Bool → Bool) → Bool
all f = cond (f true) (f false) false

abbrev pub inverse : Bool → Bool
inverse true = false
inverse false = true

-- an even point weighs 1, another 0
abbrev pub weight_even : Bool → Bool
weight_even b = inverse b

abbrev pub turn_even : Bool → Bool → Bool → Bool → Bool → Bool → Bool
turn_even ax ay bx by cx cy = eqv (eqv bx ax || eqv cy ay) (eqv by ay || eqv cx ax)

abbrev pub rule_even : Bool → Bool → Bool → Bool → Bool → Bool
rule_even a b c d q = eqv (eqv c d) (eqv (q || a) (q || b))

abbrev Test : Type 0
Test = Bool → Bool → Bool → Bool → Bool → Bool → Bool → Bool → Bool → Bool

abbrev pub sum_even : Test
sum_even ax ay bx by cx cy dx dy q = eqv (eqv (weight_even (cx && cy)) (weight_even (dx && dy))) (eqv (weight_even (ax && ay) || q) (weight_even (bx && by) || q))

abbrev pub shows : Bool → Bool → Bool → Bool → Bool
shows p q x y = eqv p x && eqv q y

abbrev pub all_shown : Bool → Bool → Bool → Bool → Bool → Bool → Bool → Bool → Bool
all_shown ax ay bx by cx cy dx dy = all (λ p. all (λ q. shows p q ax ay || (shows p q bx by || (shows p q cx cy || shows p q dx dy))))

abbrev missing : Test
missing ax ay bx by cx cy dx dy q = inverse (all_shown ax ay bx by cx cy dx dy)

abbrev claim : Test → Test
claim f ax ay bx by cx cy dx dy q = cond (turn_even ax ay bx by cx cy) true (cond (rule_even ax bx cx dx q) (cond (rule_even ay by cy dy q) (eqv (f ax ay bx by cx cy dx dy q) q) true) true)

from_both : (a b : Bool) → cond a b false ≡ true → (a ≡ true) × (b ≡ true)
from_both true b e = (refl, e)
from_both false true e = (e, refl)
from_both false false e = (e, e)

pub from_all : (f : Bool → Bool) → all f ≡ true → (b : Bool) → f b ≡ true
from_all f e true = (from_both (f true) (f false) e).0
from_all f e false = (from_both (f true) (f false) e).1

abbrev claims : Test → Bool
claims f = all (λ (ax : Bool). all (λ (ay : Bool). all (λ (bx : Bool). all (λ (by : Bool). all (λ (cx : Bool). all (λ (cy : Bool). all (λ (dx : Bool). all (λ (dy : Bool). all (λ (q : Bool). claim f ax ay bx by cx cy dx dy q)))))))))

claim-true : (f : Test) → claims f ≡ true → (ax ay bx by cx cy dx dy q : Bool) → claim f ax ay bx by cx cy dx dy q ≡ true
claim-true f each ax ay bx by cx cy dx dy q = from_all (λ (q : Bool). claim f ax ay bx by cx cy dx dy q) (from_all (λ (dy : Bool). all (λ (q : Bool). claim f ax ay bx by cx cy dx dy q)) (from_all (λ (dx : Bool). all (λ (dy : Bool). all (λ (q : Bool). claim f ax ay bx by cx cy dx dy q))) (from_all (λ (cy : Bool). all (λ (dx : Bool). all (λ (dy : Bool). all (λ (q : Bool). claim f ax ay bx by cx cy dx dy q)))) (from_all (λ (cx : Bool). all (λ (cy : Bool). all (λ (dx : Bool). all (λ (dy : Bool). all (λ (q : Bool). claim f ax ay bx by cx cy dx dy q))))) (from_all (λ (by : Bool). all (λ (cx : Bool). all (λ (cy : Bool). all (λ (dx : Bool). all (λ (dy : Bool). all (λ (q : Bool). claim f ax ay bx by cx cy dx dy q)))))) (from_all (λ (bx : Bool). all (λ (by : Bool). all (λ (cx : Bool). all (λ (cy : Bool). all (λ (dx : Bool). all (λ (dy : Bool). all (λ (q : Bool). claim f ax ay bx by cx cy dx dy q))))))) (from_all (λ (ay : Bool). all (λ (bx : Bool). all (λ (by : Bool). all (λ (cx : Bool). all (λ (cy : Bool). all (λ (dx : Bool). all (λ (dy : Bool). all (λ (q : Bool). claim f ax ay bx by cx cy dx dy q)))))))) (from_all (λ (ax : Bool). all (λ (ay : Bool). all (λ (bx : Bool). all (λ (by : Bool). all (λ (cx : Bool). all (λ (cy : Bool). all (λ (dx : Bool). all (λ (dy : Bool). all (λ (q : Bool). claim f ax ay bx by cx cy dx dy q))))))))) each ax) ay) bx) by) cx) cy) dx) dy) q

pub eqv-same : (a b : Bool) → eqv a b ≡ true → a ≡ b
eqv-same true b e = sym e
eqv-same false true e = e
eqv-same false false e = refl

pub same-eqv : (a b : Bool) → a ≡ b → eqv a b ≡ true
same-eqv true b e = sym e
same-eqv false true e = e
same-eqv false false e = refl

conclusion : (t r s c : Bool) → t ≡ false → r ≡ true → s ≡ true → cond t true (cond r (cond s c true) true) ≡ true → c ≡ true
conclusion t r s c e f g h = rw (e, f, g) at h

told : (f : Test) → claims f ≡ true → (ax ay bx by cx cy dx dy q : Bool) → turn_even ax ay bx by cx cy ≡ false → rule_even ax bx cx dx q ≡ true → rule_even ay by cy dy q ≡ true → f ax ay bx by cx cy dx dy q ≡ q
told f each ax ay bx by cx cy dx dy q turned x y = eqv-same _ _ (conclusion (turn_even ax ay bx by cx cy) (rule_even ax bx cx dx q) (rule_even ay by cy dy q) (eqv (f ax ay bx by cx cy dx dy q) q) turned x y (claim-true f each ax ay bx by cx cy dx dy q))

pub sum_even-is : (ax ay bx by cx cy dx dy q : Bool) → turn_even ax ay bx by cx cy ≡ false → rule_even ax bx cx dx q ≡ true → rule_even ay by cy dy q ≡ true → sum_even ax ay bx by cx cy dx dy q ≡ q
sum_even-is = told sum_even refl

pub missing-is : (ax ay bx by cx cy dx dy q : Bool) → turn_even ax ay bx by cx cy ≡ false → rule_even ax bx cx dx q ≡ true → rule_even ay by cy dy q ≡ true → inverse (all_shown ax ay bx by cx cy dx dy) ≡ q
missing-is = told missing refl
