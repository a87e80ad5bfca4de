use Rattle.std.proofs.Common.{sym, ◌∙◌, max, arith}
use Rattle.std.proofs.lemmas.Int.{to_z-of_z}
use Rattle.tv_spec_slices.specs.Slices.{reach, interlaces_at}
use Rattle.tv_interlace.proofs.Tested.{all-fails}
use Rattle.tv_interlace.proofs.interlacing.interlaces.Goals as goal

pub returns-then-not-interlaces_at : goal.returns-then-not-interlaces_at
returns-then-not-interlaces_at c =
    let fits = c.ranges.t in
    let off = simp to_z-of_z at c.interlaces_at.ensures in
    sym (all-fails (max (reach c.args.a.now) (reach c.args.b.now)) (interlaces_at c.args.t c.args.a.now c.args.b.now) c.loop-d.d (omega arith) (sym off ∙ c.if-not-interlaces_at.true))
