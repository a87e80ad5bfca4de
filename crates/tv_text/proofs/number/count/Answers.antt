use Rattle.std.proofs.Common.{arith, refl}
use Rattle.tv_text.proofs.Decimals.{decimal-some, decimal-length, decimal-first, count_answer}
use Rattle.tv_text.proofs.number.count.Goals as goal

pub returns-then-is_empty : goal.returns-then-is_empty
returns-then-is_empty c = λ n h e. grind (arith, decimal-some n c.args.word.now h e)

pub returns-then-word-gt9 : goal.returns-then-word-gt9
returns-then-word-gt9 c = λ n h e. omega (arith, decimal-length n c.args.word.now h e)

pub returns-then-has_needless_zero : goal.returns-then-has_needless_zero
returns-then-has_needless_zero c = λ n h e. let zero = c.if-has_needless_zero.ensures.0 refl in decimal-first n c.args.word.now h e zero.1 zero.0

pub returns : goal.returns
returns c = count_answer c.args.word.now c.digits.result (grind arith) c.if-word-gt9.false (grind arith) c.digits.ensures
