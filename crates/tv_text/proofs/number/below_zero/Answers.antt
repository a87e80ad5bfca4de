use Rattle.tv_text.proofs.Decimals.{minus, decimal_zero}
use Rattle.std.proofs.Common.{◌∙◌, ap}
use Rattle.std.specs.Fmt.{decimal}
use Rattle.tv_text.proofs.number.below_zero.Goals as goal

pub returns-in-Some-eq0 : goal.returns-in-Some-eq0
returns-in-Some-eq0 c = λ z h e. let m = minus c.args.magnitude.now z h e in let zero = c.in-Some-eq0.ensures in decimal_zero m.0 c.args.magnitude.now m.1 m.2 m.3 (zero.1 ∙ ap decimal c.in-Some-eq0.field-0-test)

pub returns-in-None : goal.returns-in-None
returns-in-None c = λ z h e. let m = minus c.args.magnitude.now z h e in c.in-None.ensures m.0 m.2 m.3
