-- Equations between sums and products of whole numbers, for vectors u, v and w of the plane.
use Rattle.std.specs.Prelude.{◌≡◌, ℤ, ◌+ℤ◌, ◌-ℤ◌, ◌*ℤ◌}
use Rattle.std.proofs.Common.{arith}
use Rattle.tv_lemmas.proofs.Integers.{diff_of, diff-same, diffs}

-- of Cramer's rule, the equation of one coordinate
pub cross-frame : (ux uy vx vy wx wy : ℤ) → (((ux *ℤ vy) -ℤ (uy *ℤ vx)) *ℤ wx) +ℤ (((wx *ℤ uy) -ℤ (wy *ℤ ux)) *ℤ vx) ≡ ((wx *ℤ vy) -ℤ (wy *ℤ vx)) *ℤ ux
cross-frame ux uy vx vy wx wy =
    let i = diff_of ux in let j = diff_of uy in let k = diff_of vx in let l = diff_of vy in let m = diff_of wx in let n = diff_of wy in
    rw (i.2, j.2, k.2, l.2, m.2, n.2) (simp diffs (diff-same _ _ _ _ (omega arith)))

pub cross-frame_y : (ux uy vx vy wx wy : ℤ) → (((ux *ℤ vy) -ℤ (uy *ℤ vx)) *ℤ wy) +ℤ (((wx *ℤ uy) -ℤ (wy *ℤ ux)) *ℤ vy) ≡ ((wx *ℤ vy) -ℤ (wy *ℤ vx)) *ℤ uy
cross-frame_y ux uy vx vy wx wy =
    let i = diff_of ux in let j = diff_of uy in let k = diff_of vx in let l = diff_of vy in let m = diff_of wx in let n = diff_of wy in
    rw (i.2, j.2, k.2, l.2, m.2, n.2) (simp diffs (diff-same _ _ _ _ (omega arith)))

-- where w + v is r times u
pub cross-multiple : (r ux uy vx vy : ℤ) → (((r *ℤ ux) -ℤ vx) *ℤ vy) -ℤ (((r *ℤ uy) -ℤ vy) *ℤ vx) ≡ r *ℤ ((ux *ℤ vy) -ℤ (uy *ℤ vx))
cross-multiple r ux uy vx vy =
    let h = diff_of r in let i = diff_of ux in let j = diff_of uy in let k = diff_of vx in let l = diff_of vy in
    rw (h.2, i.2, j.2, k.2, l.2) (simp diffs (diff-same _ _ _ _ (omega arith)))

-- the turn from the other end of an edge
pub cross-back : (ax ay bx by dx dy : ℤ) → ((ax -ℤ bx) *ℤ (dy -ℤ by)) -ℤ ((ay -ℤ by) *ℤ (dx -ℤ bx)) ≡ ((dx -ℤ ax) *ℤ (by -ℤ ay)) -ℤ ((dy -ℤ ay) *ℤ (bx -ℤ ax))
cross-back ax ay bx by dx dy =
    let i = diff_of ax in let j = diff_of ay in let k = diff_of bx in let l = diff_of by in let m = diff_of dx in let n = diff_of dy in
    rw (i.2, j.2, k.2, l.2, m.2, n.2) (simp diffs (diff-same _ _ _ _ (omega arith)))
