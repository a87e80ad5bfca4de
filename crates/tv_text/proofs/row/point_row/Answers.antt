use Rattle.std.proofs.Common.{[]}
use Rattle.tv_text.proofs.row.point_row.Goals as goal

pub returns-in_default-after_number-2 : goal.returns-in_default-after_number-2
returns-in_default-after_number-2 c = λ p f e. c.in_default-after_number-2.ensures p.y [] f.1 (cc (c.in-Some.ensures, c.in-Some-after_number.ensures.1))
