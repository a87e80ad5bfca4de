use Rattle.std.proofs.Common.{◌≡◌, refl, arith}
use Rattle.std.specs.Prelude.{pos}
use Rattle.std.proofs.lemmas.Int.{ints}
use Rattle.tv_spec_plane.specs.Plane.{at, turn}
use Rattle.tv_hull.proofs.Collinear.{flat-line, line-flat}
use Rattle.tv_hull.proofs.flat.is_flat.Goals as goal

pub returns-then-turn-ne0 : goal.returns-then-turn-ne0
returns-then-turn-ne0 c =
    let ps = c.args.points.now in
    let value = rw (c.at.ensures, c.at-in-loop-k.ensures, c.at-in-loop-k-2.ensures) at c.turn.ensures.value in
    let other = c.if-turn-ne0.true in
    (λ h. cc, λ flat. let line : turn (at ps 0) (at ps 1) (at ps c.loop-k.k) ≡ pos 0 = line-flat ps c.loop-k.k flat c.loop-k-test.true in absurd (other (omega (arith, ints))))

pub returns : goal.returns
returns c = (λ h. flat-line c.args.points.now c.requires.small c.requires.distinct (λ k listed. c.loop-k.invariant k (omega arith)), λ flat. refl)
