use Rattle.std.proofs.Common.{◌≡◌, subst, ◌∙◌, arith, w64, to_z, of_z}
use Rattle.std.specs.Prelude.{ℤ}
use Rattle.std.specs.List.{AllByRecursion}
use Rattle.std.proofs.lemmas.Int.{ints}
use Rattle.tv_frontier.specs.Frontiers.{IsPartialFamily}
use Rattle.tv_frontier.proofs.frontier.Frontier.build.Goals as goal

pub returns-clause-frontier : goal.returns-clause-frontier
returns-clause-frontier g c =
    let read : to_z w64 (of_z w64 c.args.n) ≡ c.args.n = (let o = c.requires.order in omega (arith, ints)) in
    record {
      pending = c.in_ok-pending.ensures;
      choices = c.in_ok-states.ensures.choices ∙ c.in_ok-layer.ensures.layer.keys;
      each = subst (λ (z : ℤ). AllByRecursion (λ s. IsPartialFamily g.C.Ring.ring c.args.web.now c.args.d z c.args.t s.choice s.family) c.in_ok-states.states.items) read c.in_ok-states.ensures.each;
    }
