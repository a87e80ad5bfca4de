use Rattle.std.proofs.Common.{◌≡◌, ◌∙◌, ap}
use Rattle.tv_partition.specs.Rows.{has, size, flipped}
use Rattle.tv_partition.proofs.Flip.{flipped-small, flipped-has, flipped-size}
use Rattle.tv_partition.proofs.diagram.Diagram.flip.Goals as goal

made : (c : goal.In_ok-rows) → c.in_ok-rows.rows.items ≡ flipped c.self.inside.rows.items
made c = c.in_ok-rows.ensures ∙ ap flipped c.as_slice.ensures.value

pub invariant_of-result : goal.invariant_of-result
invariant_of-result c = rw (made c) (flipped-small c.self.inside.rows.items c.self.invariant)

pub returns-clause-rows : goal.returns-clause-rows
returns-clause-rows c = made c ∙ ap flipped c.self.view_is

pub returns-clause-exchanged : goal.returns-clause-exchanged
returns-clause-exchanged c =
    λ i j. ap (λ rows. has rows j i) (made c) ∙ (flipped-has c.self.inside.rows.items c.self.invariant.0 i j ∙ ap (λ rows. has rows i j) c.self.view_is)

pub returns-clause-size : goal.returns-clause-size
returns-clause-size c = ap size (made c) ∙ (flipped-size c.self.inside.rows.items c.self.invariant.0 ∙ ap size c.self.view_is)
