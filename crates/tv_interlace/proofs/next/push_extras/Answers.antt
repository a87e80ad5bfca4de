use Rattle.std.proofs.Common.{◌≡◌, suc, ◌+◌, ◌<◌, [], ◌++◌, ap, arith, sym, ◌∙◌, append-nil, inl, inr}
use Rattle.std.specs.Prelude.{◌⊎◌}
use Rattle.tv_cells.specs.Extras.{extent}
use Rattle.tv_spec_slices.specs.Slices.{reach}
use Rattle.tv_interlace.specs.Rooms.{low, high, open_from}
use Rattle.tv_interlace.proofs.OpenPlaces.{none}
use Rattle.tv_interlace.proofs.next.push_extras.Goals as goal

pub returns-then-count-room : goal.returns-then-count-room
returns-then-count-room c =
    let L = open_from (low c.args.legs.now c.args.t c.args.a.now) c.args.full (suc (reach c.args.a.now)) in
    let H = open_from (high c.args.legs.now c.args.t c.args.a.now) c.args.full (suc (reach c.args.a.now)) in
    let side : (c.args.extras < L) ⊎ (H < c.args.extras) = elim c.then-count-room.either [
      | inl few ↦ inl (omega (arith, few, c.from-count.ensures, c.requires.room.least))
      | inr many ↦ inr (omega (arith, many.1, c.from-count.ensures, c.requires.room.most))
    ] in
    let place : c.args.full ≡ c.args.full + 0 = omega arith in
    let e = none c.args.legs.now c.args.t c.args.a.now c.args.full (extent c.args.legs.now + c.args.extras) [] c.args.full (c.args.base + c.args.extras) c.args.extras place (omega (arith, c.requires.few, c.requires.low)) side in
    sym (ap (λ ss. c.args.all.now.items ++ ss) e ∙ append-nil c.args.all.now.items)
