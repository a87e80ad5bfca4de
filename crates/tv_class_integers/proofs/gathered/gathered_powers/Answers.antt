use Rattle.std.proofs.Common.{◌≡◌, sym, refl, ◌∙◌, [], ◌∷◌, ◌++◌, pos}
use Rattle.tv_ring.specs.Whole.{wholes}
use Rattle.tv_ring.specs.Sums.{at}
use Rattle.tv_laws_series.proofs.Listed.{at_read}
use Rattle.tv_class_integers.proofs.GatheredPowers.{listed-none, listed-same, listed-more, listed-powers}
use Rattle.tv_class_integers.proofs.gathered.gathered_powers.Goals as goal
use Rattle.tv_class_integers.proofs.gathered.gathered_powers.Goals.{then-not-same+in_ok-push, else-not-same}

pub loop-step-init : goal.loop-step-init
loop-step-init c = listed-none c.args.powers.now c.new-list.result.items c.new-list.ensures.items

pub loop-step-preserved : goal.loop-step-preserved
loop-step-preserved c =
    let powers = c.args.powers.now in let i = c.loop-step.step in let list = c.loop-step.list.items in
    let read = at_read wholes powers i c.index-powers-step.result c.index-powers-step.is c.loop-step-test.true in
    elim c.if-not-same.branch [
      | then-not-same+in_ok-push w ↦
          let items : c.if-not-same.list.items ≡ list ++ record { step = i; power = c.index-powers-step.result } ∷ [] = cc
          (w.in_ok-push.ensures.items) in
          listed-more powers i list c.if-not-same.list.items (record { step = i; power = c.index-powers-step.result })
          c.loop-step.invariant items refl read
      | else-not-same w ↦
          let none : at wholes powers i ≡ pos 0 = sym read ∙ (c.same.ensures.same.0 w.if-not-same.false ∙
          c.whole.ensures.value) in
          let same = listed-same powers i list c.loop-step.invariant none in
          rw w.list-is same
    ]

pub returns-clause-powers : goal.returns-clause-powers
returns-clause-powers c =
    listed-powers c.args.powers.now c.loop-step.step c.loop-step.list.items c.loop-step.invariant c.loop-step-test.false
