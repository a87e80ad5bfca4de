-- The turn of three points, with the points in another order, and of two points, one of them twice.
use Rattle.std.specs.Prelude.{◌≡◌, pos, neg_ℤ}
use Rattle.std.proofs.Common.{arith, sym, ◌∙◌}
use Rattle.tv_lemmas.proofs.Integers.{diff_of, diff-pos, diff-same, diffs}
use Rattle.tv_spec_plane.specs.Plane.{Point, turn}

pub turn-rotate : (a b c : Point) → turn b c a ≡ turn a b c
unfolding turn
turn-rotate a b c =
    let r = diff_of a.x in let s = diff_of a.y in let t = diff_of b.x in let u = diff_of b.y in let v = diff_of c.x in let w = diff_of c.y in
    rw (r.2, s.2, t.2, u.2, v.2, w.2) (simp diffs (diff-same _ _ _ _ (omega arith)))

pub turn-exchange : (a b c : Point) → turn a c b ≡ neg_ℤ (turn a b c)
unfolding turn
turn-exchange a b c =
    let r = diff_of a.x in let s = diff_of a.y in let t = diff_of b.x in let u = diff_of b.y in let v = diff_of c.x in let w = diff_of c.y in
    rw (r.2, s.2, t.2, u.2, v.2, w.2) (simp diffs (diff-same _ _ _ _ (omega arith)))

pub turn-first : (a c : Point) → turn a a c ≡ pos 0
unfolding turn
turn-first a c =
    let r = diff_of a.x in let s = diff_of a.y in let v = diff_of c.x in let w = diff_of c.y in
    rw (r.2, s.2, v.2, w.2, diff-pos 0) (simp diffs (diff-same _ _ _ _ (omega arith)))

pub turn-return : (a b : Point) → turn a b a ≡ pos 0
turn-return a b = turn-rotate a a b ∙ turn-first a b

pub turn-last : (a b : Point) → turn a b b ≡ pos 0
turn-last a b = turn-rotate b a b ∙ turn-return b a

pub turn-back : (a b c : Point) → turn b a c ≡ neg_ℤ (turn a b c)
turn-back a b c = sym (turn-rotate b a c) ∙ turn-exchange a b c
