use Rattle.std.proofs.Common.{◌≡◌, ap, subst, ◌∙◌}
use Rattle.std.specs.Prelude.{◌++◌, ◌∷◌, [], pos, IfOk}
use Rattle.tv_laws_series.specs.Terms.{Terms}
use Rattle.tv_frontier.specs.Joining.{moved_terms}
use Rattle.tv_frontier.proofs.Begun.{one-series, one-bounded}
use Rattle.tv_frontier.proofs.Bounded.{range-span}
use Rattle.tv_frontier.proofs.first.first_series.Goals as goal

pub new-one-requires : goal.new-one-requires
new-one-requires g c = record { bounded = one-bounded c.push.new.self.items c.in_ok-one.field-0 (c.in_ok-push.ensures.items ∙ ap (λ xs. xs ++ c.in_ok-one.field-0 ∷ []) c.new-ones.ensures.items) }

pub returns-clause-value : goal.returns-clause-value
returns-clause-value g c =
    subst (λ (z : Terms _). IfOk c.moved.result (λ s. s ≡ moved_terms g.C.Ring.ring c.args.stage.now.floor c.args.stage.now.upto z (pos 0)))
    (one-series g.C.Ring.ring c.new-one.result c.push.new.self.items c.in_ok-one.field-0 c.new-one.ensures.value (c.in_ok-push.ensures.items ∙ ap (λ xs. xs ++ c.in_ok-one.field-0 ∷ []) c.new-ones.ensures.items) c.in_ok-one.ensures.value)
    c.moved.ensures.value

pub moved-requires-clause-range : goal.moved-requires-clause-range
moved-requires-clause-range g c = range-span c.args.stage.now.web.now c.args.stage.now.d c.args.stage.now.n c.args.stage.now.floor c.args.stage.now.upto c.requires.span
