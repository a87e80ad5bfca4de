use Rattle.std.proofs.Common.{◌≡◌, get_or, arith, w64, to_z, of_z}
use Rattle.std.specs.Prelude.{pos, ◌-ℤ◌}
use Rattle.std.proofs.lemmas.Int.{ints}
use Rattle.std.proofs.lemmas.Option.{MatchOption-at_some, MatchOption-at_none}
use Rattle.tv_frontier.specs.Joining.{IsJoin}
use Rattle.tv_frontier.specs.Bounds.{IsAfter}
use Rattle.tv_frontier.proofs.Planned.{needs-some, needs-none, next-small}
use Rattle.tv_frontier.proofs.plan.needed_with.Goals as goal

pub overflow_sub-result : goal.overflow_sub-result
overflow_sub-result c =
    let after : IsAfter c.args.stage.now.web.now c.args.stage.now.d c.args.stage.now.t c.args.key.now c.args.option.now c.in-Some.met.place = MatchOption-at_some _ _ c.in-Some.met c.in-Some.is c.in_ok-met.ensures.after in
    let join : IsJoin c.args.stage.now.web.now c.args.stage.now.d c.args.stage.now.t c.args.key.now c.args.option.now c.in-Some.met.join.legs c.in-Some.met.join.class c.in-Some.met.join.near c.in-Some.met.join.shift = MatchOption-at_some _ _ c.in-Some.met c.in-Some.is c.in_ok-met.ensures.join in
    let next = next-small c.args.stage.now.web.now c.args.stage.now.d c.args.stage.now.n c.args.stage.now.floor c.args.stage.now.upto c.args.stage.now.t c.args.next.now c.in-Some.met.place c.requires.span c.requires.corner c.requires.next after.place in
    let small = join.small in
    omega (arith, ints)

pub returns-in-Some-clause-small : goal.returns-in-Some-clause-small
returns-in-Some-clause-small c =
    let after : IsAfter c.args.stage.now.web.now c.args.stage.now.d c.args.stage.now.t c.args.key.now c.args.option.now c.in-Some.met.place = MatchOption-at_some _ _ c.in-Some.met c.in-Some.is c.in_ok-met.ensures.after in
    let join : IsJoin c.args.stage.now.web.now c.args.stage.now.d c.args.stage.now.t c.args.key.now c.args.option.now c.in-Some.met.join.legs c.in-Some.met.join.class c.in-Some.met.join.near c.in-Some.met.join.shift = MatchOption-at_some _ _ c.in-Some.met c.in-Some.is c.in_ok-met.ensures.join in
    let next = next-small c.args.stage.now.web.now c.args.stage.now.d c.args.stage.now.n c.args.stage.now.floor c.args.stage.now.upto c.args.stage.now.t c.args.next.now c.in-Some.met.place c.requires.span c.requires.corner c.requires.next after.place in
    let small = join.small in
    omega (arith, ints)

pub returns-in-Some-clause-needs : goal.returns-in-Some-clause-needs
returns-in-Some-clause-needs c =
    let after : IsAfter c.args.stage.now.web.now c.args.stage.now.d c.args.stage.now.t c.args.key.now c.args.option.now c.in-Some.met.place = MatchOption-at_some _ _ c.in-Some.met c.in-Some.is c.in_ok-met.ensures.after in
    let join : IsJoin c.args.stage.now.web.now c.args.stage.now.d c.args.stage.now.t c.args.key.now c.args.option.now c.in-Some.met.join.legs c.in-Some.met.join.class c.in-Some.met.join.near c.in-Some.met.join.shift = MatchOption-at_some _ _ c.in-Some.met c.in-Some.is c.in_ok-met.ensures.join in
    let next = next-small c.args.stage.now.web.now c.args.stage.now.d c.args.stage.now.n c.args.stage.now.floor c.args.stage.now.upto c.args.stage.now.t c.args.next.now c.in-Some.met.place c.requires.span c.requires.corner c.requires.next after.place in
    let small = join.small in
    let value : to_z w64 (of_z w64 (to_z w64 (of_z w64 (get_or c.args.next.now c.in-Some.met.place (pos 0))) -ℤ to_z w64 (of_z w64 c.in-Some.met.join.shift))) ≡ get_or c.args.next.now c.in-Some.met.place (pos 0) -ℤ c.in-Some.met.join.shift = omega (arith, ints) in
    needs-some c.args.stage.now.web.now c.args.stage.now.d c.args.stage.now.t c.args.next.now c.args.key.now c.args.option.now c.in-Some.met.place c.in-Some.met.join.shift (to_z w64 (of_z w64 (to_z w64 (of_z w64 (get_or c.args.next.now c.in-Some.met.place (pos 0))) -ℤ to_z w64 (of_z w64 c.in-Some.met.join.shift)))) after join.shift value

pub returns-in-None-clause-needs : goal.returns-in-None-clause-needs
returns-in-None-clause-needs c =
    needs-none c.args.stage.now.web.now c.args.stage.now.d c.args.stage.now.t c.args.next.now c.args.key.now c.args.option.now (to_z w64 (of_z w64 (to_z w64 (of_z w64 c.args.stage.now.floor) -ℤ pos 1))) (MatchOption-at_none _ _ c.in-None.is c.in_ok-met.ensures.after)
