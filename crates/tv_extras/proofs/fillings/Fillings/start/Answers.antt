use Rattle.std.proofs.Common.{sym, ◌∙◌, arith}
use Rattle.tv_lemmas.proofs.Naturals.{nat_eq-tells}
use Rattle.tv_extras.proofs.Steps.{nil_by}
use Rattle.tv_extras.proofs.Corners.{fresh-nodes, no-corners}
use Rattle.tv_extras.proofs.fillings.Fillings.start.Goals as goal

pub returns-then-is_empty-clause-value : goal.returns-then-is_empty-clause-value
returns-then-is_empty-clause-value c =
    no-corners c.args.boxes c.in_ok-nodes.nodes.items c.args.legs.items
    (nil_by c.in_ok-nodes.nodes.items c.in_ok-nodes.nodes.len (omega arith) (nat_eq-tells _ _ (sym c.is_empty.ensures ∙ c.if-is_empty.true)))
    c.in_ok-nodes.ensures.legs

pub enter-requires-clause-valid : goal.enter-requires-clause-valid
enter-requires-clause-valid c = rw c.as_mut_slice.ensures.value (fresh-nodes c.args.boxes c.in_ok-nodes.nodes.items c.in_ok-nodes.ensures.fresh)
