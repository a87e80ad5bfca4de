use Rattle.std.proofs.Common.{◌≡◌, suc, ◌-◌, ap, ◌∙◌}
use Rattle.std.proofs.lemmas.Int.{to_z-of_z}
use Rattle.tv_spec_slices.specs.Slices.{reach}
use Rattle.tv_interlace.specs.Rooms.{low, high}
use Rattle.tv_interlace.proofs.OpenPlaces.{open-after}
use Rattle.tv_interlace.proofs.rooms.room_after.Goals as goal

pub returns : goal.returns
returns c =
    let fits = c.ranges.t in
    let L = low c.args.legs.now c.args.t c.args.a.now in
    let H = high c.args.legs.now c.args.t c.args.a.now in
    let n = suc (reach c.args.a.now) in
    let less : c.low.result ≡ L c.args.d = simp to_z-of_z at c.low.ensures in
    let more : c.high.result ≡ H c.args.d = simp to_z-of_z at c.high.ensures in
    record {
      least = c.saturating_sub.ensures ∙ (ap (λ x. c.args.room.least - x) (c.from.ensures ∙ less) ∙ (ap (λ x. x - L c.args.d) c.requires.room.least ∙ open-after L c.args.d n));
      most = c.saturating_sub-2.ensures ∙ (ap (λ x. c.args.room.most - x) (c.from-2.ensures ∙ more) ∙ (ap (λ x. x - H c.args.d) c.requires.room.most ∙ open-after H c.args.d n));
    }
