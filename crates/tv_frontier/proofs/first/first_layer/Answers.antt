use Rattle.std.proofs.Common.{ap, ◌∙◌}
use Rattle.std.specs.Prelude.{◌++◌, ◌∷◌, []}
use Rattle.tv_frontier.specs.Bounds.{uptos}
use Rattle.tv_frontier.proofs.Next.{one-layer}
use Rattle.tv_frontier.proofs.first.first_layer.Goals as goal

pub returns-clause-upto : goal.returns-clause-upto
returns-clause-upto g c =
    ap uptos (c.in_ok-push-2.ensures.items ∙ ap (λ xs. xs ++ c.in_ok-first_part.field-0 ∷ []) c.new-parts.ensures.items) ∙ ap (λ z. z ∷ []) c.in_ok-first_part.ensures.upto

pub returns-clause-layer : goal.returns-clause-layer
returns-clause-layer g c =
    one-layer g.C.Ring.ring c.args.stage.now.web.now c.args.stage.now.d c.args.stage.now.n c.push.new.self.items c.push-2.new.self.items c.new-2.result c.in_ok-first_part.field-0
    (c.in_ok-push.ensures.items ∙ ap (λ xs. xs ++ c.new-2.result ∷ []) c.new-keys.ensures.items) (c.new-2.ensures ∙ c.new.ensures.items)
    (c.in_ok-push-2.ensures.items ∙ ap (λ xs. xs ++ c.in_ok-first_part.field-0 ∷ []) c.new-parts.ensures.items) c.in_ok-first_part.ensures.part
