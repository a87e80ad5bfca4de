use Rattle.std.proofs.Common.{[], ◌∷◌, pos}
use Rattle.tv_spec_text.specs.Lines.{spelled}
use Rattle.tv_text.proofs.row.triangle_row.Goals as goal

pub returns-in_default-after_count-2 : goal.returns-in_default-after_count-2
returns-in_default-after_count-2 c = λ t f e. c.in_default-after_count-2.ensures t.b (spelled (pos t.c) ∷ []) f.1 (cc (c.in-Some.ensures, c.in-Some-after_count.ensures.1))

pub returns-in_default-after_count-3 : goal.returns-in_default-after_count-3
returns-in_default-after_count-3 c = λ t f e. c.in_default-after_count-3.ensures t.c [] f.2 (cc (c.in-Some.ensures, c.in-Some-after_count.ensures.1, c.in-Some-after_count-2.ensures.1))
