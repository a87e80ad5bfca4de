use Rattle.std.proofs.Common.{◌≡◌, ◌+◌, ◌≤◌, ℕ, suc, ap, arith, ◌∙◌}
use Rattle.std.proofs.lemmas.Int.{to_z-of_z}
use Rattle.tv_spec_slices.specs.Slices.{reach}
use Rattle.tv_interlace.specs.Rooms.{low, high, open_from}
use Rattle.tv_interlace.proofs.Sums.{sum-next}
use Rattle.tv_interlace.proofs.OpenPlaces.{open-past}
use Rattle.tv_interlace.proofs.rooms.room_from.Goals as goal

pub loop-d-preserved : goal.loop-d-preserved
loop-d-preserved c =
    let fits = c.ranges.t in
    record {
      least = simp to_z-of_z (sum-next (low c.args.legs.now c.args.t c.args.a.now) c.loop-d.d _ _ c.loop-d.least _ c.loop-d-test.true (ap (λ n. c.loop-d.least + n) (c.from-least.ensures ∙ simp to_z-of_z at c.low.ensures)) (simp to_z-of_z at c.loop-d.invariant.least));
      most = simp to_z-of_z (sum-next (high c.args.legs.now c.args.t c.args.a.now) c.loop-d.d _ _ c.loop-d.most _ c.loop-d-test.true (ap (λ n. c.loop-d.most + n) (c.from-most.ensures ∙ simp to_z-of_z at c.high.ensures)) (simp to_z-of_z at c.loop-d.invariant.most));
      few = omega (arith, c.loop-d.invariant.few);
      many = omega (arith, c.loop-d.invariant.many);
    }

pub returns : goal.returns
returns c =
    let fits = c.ranges.t in
    let L = low c.args.legs.now c.args.t c.args.a.now in
    let H = high c.args.legs.now c.args.t c.args.a.now in
    let n : c.reach-d-end.result + 1 ≡ suc (reach c.args.a.now) = omega (arith, c.reach-d-end.ensures.value) in
    record {
      least = done L c.loop-d.d (c.reach-d-end.result + 1) c.args.from c.loop-d.least c.loop-d-test.false (simp to_z-of_z at c.loop-d.invariant.least) ∙ ap (open_from L c.args.from) n;
      most = done H c.loop-d.d (c.reach-d-end.result + 1) c.args.from c.loop-d.most c.loop-d-test.false (simp to_z-of_z at c.loop-d.invariant.most) ∙ ap (open_from H c.args.from) n;
    }
  where
    done : (f : ℕ → ℕ) (d n first now : ℕ) → n ≤ d → now + open_from f d n ≡ open_from f first n → now ≡ open_from f first n
    done f d n first now l e = let z = open-past f d n l in omega arith
