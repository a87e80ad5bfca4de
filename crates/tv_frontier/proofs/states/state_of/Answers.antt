use Rattle.std.proofs.Common.{◌≡◌, sym, ap, subst, ◌∙◌, arith, w64, to_z, of_z}
use Rattle.std.proofs.lemmas.Int.{ints}
use Rattle.tv_spec_series.specs.Families.{Family}
use Rattle.tv_frontier.specs.Signs.{signed_family}
use Rattle.tv_frontier.specs.Frontiers.{IsPartialFamily}
use Rattle.tv_frontier.proofs.WithSigns.{low-enough, partial-family}
use Rattle.tv_frontier.proofs.states.state_of.Goals as goal

pub signed_part-requires-clause-low : goal.signed_part-requires-clause-low
signed_part-requires-clause-low g c = low-enough g.C.Ring.ring c.args.stage.now.web.now c.args.stage.now.d c.args.stage.now.n c.args.stage.now.floor c.args.stage.now.upto c.args.stage.now.t c.args.key.now c.args.part.now c.requires.span c.requires.part

pub returns-clause-family : goal.returns-clause-family
returns-clause-family g c =
    let read : to_z w64 (of_z w64 c.args.stage.now.n) ≡ c.args.stage.now.n = (let o = c.requires.span.order in omega (arith, ints)) in
    subst (λ (z : Family _). IsPartialFamily g.C.Ring.ring c.args.stage.now.web.now c.args.stage.now.d c.args.stage.now.n c.args.stage.now.t c.args.key.now z) (sym (c.new.ensures.family ∙ (c.in_ok-family.ensures.value ∙ ap (λ m. signed_family g.C.Ring.ring c.args.stage.now.web.now.points m c.args.part.now) read)))
    (partial-family g.met.C.Ring.laws c.args.stage.now.web.now c.args.stage.now.d c.args.stage.now.n c.args.stage.now.t c.args.key.now c.args.part.now c.known.ensures.graded c.known.ensures.rule c.requires.corners c.requires.part c.requires.reach)
