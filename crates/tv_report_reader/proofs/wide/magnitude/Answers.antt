use Rattle.std.proofs.Common.{arith}
use Rattle.tv_report_reader.proofs.WideNumbers.{decimal-some, decimal-first, wide_answer}
use Rattle.tv_report_reader.proofs.wide.magnitude.Goals as goal

pub returns-then-is_empty : goal.returns-then-is_empty
returns-then-is_empty c = λ n some h e. grind (arith, decimal-some n c.args.word.now h e)

pub returns-then-word-eq48 : goal.returns-then-word-eq48
returns-then-word-eq48 c = λ n some h e. grind (arith, decimal-first n c.args.word.now some h e)

pub returns : goal.returns
returns c = wide_answer c.args.word.now c.digits.result (grind arith) (grind arith) c.digits.ensures
