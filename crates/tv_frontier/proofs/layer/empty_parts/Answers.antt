use Rattle.std.proofs.Common.{◌≡◌, ap, subst, ◌∙◌, take_all, get_or, arith, w64, to_z, of_z}
use Rattle.std.specs.Prelude.{pos, List, ℤ}
use Rattle.std.proofs.lemmas.Int.{ints}
use Rattle.std.proofs.lemmas.List.{get_or_default}
use Rattle.tv_spec_series.specs.Families.{without_rows}
use Rattle.tv_frontier.specs.Layers.{AreWithout}
use Rattle.tv_frontier.proofs.Bounded.{bound-at, bound-small, without-next}
use Rattle.tv_frontier.proofs.layer.empty_parts.Goals as goal

pub without_classes-requires : goal.without_classes-requires
without_classes-requires g c =
    let bound = bound-at c.args.stage.now.web.now c.args.stage.now.d c.args.stage.now.n c.args.bounds.now c.loop-k.k (pos 0) c.requires.bounds.each c.loop-k-test.true in
    let small = bound-small c.args.stage.now.web.now c.args.stage.now.d c.args.stage.now.n c.args.stage.now.floor c.args.stage.now.upto (get_or c.args.bounds.now c.loop-k.k (pos 0)) c.args.stage.now.t c.requires.stage bound in
    omega (arith, ints)

pub loop-k-preserved : goal.loop-k-preserved
loop-k-preserved g c =
    let bound = bound-at c.args.stage.now.web.now c.args.stage.now.d c.args.stage.now.n c.args.bounds.now c.loop-k.k (pos 0) c.requires.bounds.each c.loop-k-test.true in
    let small = bound-small c.args.stage.now.web.now c.args.stage.now.d c.args.stage.now.n c.args.stage.now.floor c.args.stage.now.upto (get_or c.args.bounds.now c.loop-k.k (pos 0)) c.args.stage.now.t c.requires.stage bound in
    let read : to_z w64 (of_z w64 (get_or c.args.bounds.now c.loop-k.k (pos 0))) ≡ get_or c.args.bounds.now c.loop-k.k (pos 0) = omega (arith, ints) in
    without-next c.args.stage.now.web.now c.args.stage.now.d c.args.bounds.now c.loop-k.parts.items c.push.new.self.items c.loop-k.k (get_or c.args.bounds.now c.loop-k.k (pos 0)) c.in_ok-family.family c.loop-k.invariant c.loop-k-test.true
    (get_or_default c.args.bounds.now c.loop-k.k (pos 0) (get_or c.args.bounds.now c.loop-k.k (pos 0)) c.loop-k-test.true) c.in_ok-push.ensures.items (c.in_ok-family.ensures ∙ ap (without_rows c.args.stage.now.web.now.heights (pos c.args.stage.now.d)) read)

pub returns : goal.returns
returns g c = subst (λ (bs : List ℤ). AreWithout c.args.stage.now.web.now c.args.stage.now.d bs c.loop-k.parts.items) (take_all c.loop-k.k c.args.bounds.now c.loop-k-test.false) c.loop-k.invariant
