use Rattle.std.proofs.Common.{arith, get_or, ◌<◌, ◌^◌}
use Rattle.std.specs.Int.{IsInRange}
use Rattle.std.proofs.lemmas.Str.Parse.{digit_at, digit_from_value}
use Rattle.std.proofs.lemmas.Str.{digit_value_digit}
use Rattle.std.proofs.lemmas.Int.Digits.{digits_value_more, digits_more}
use Rattle.tv_text.proofs.Decimals.{small_value}
use Rattle.tv_text.proofs.number.digits.Goals as goal

pub returns-then-not-is_ascii_digit : goal.returns-then-not-is_ascii_digit
returns-then-not-is_ascii_digit c = λ all. let range : IsInRange 48 57 (get_or c.args.word.now c.loop-byte.byte-index 0) = digit_at c.args.word.now c.loop-byte.byte-index all c.loop-byte-test.true in let other = c.if-not-is_ascii_digit.ensures.cases in grind arith

pub overflow_mul-value : goal.overflow_mul-value
overflow_mul-value c = let small : c.loop-byte.value < 10 ^ 8 = omega (arith, small_value c.args.word.now c.loop-byte.byte-index c.loop-byte.invariant.0 (omega arith)) in omega arith

pub overflow_add-value : goal.overflow_add-value
overflow_add-value c = let small : c.loop-byte.value < 10 ^ 8 = omega (arith, small_value c.args.word.now c.loop-byte.byte-index c.loop-byte.invariant.0 (omega arith)) in let digit = c.if-not-is_ascii_digit.ensures.cases in grind arith

pub loop-byte-preserved : goal.loop-byte-preserved
loop-byte-preserved c =
    let here = c.if-not-is_ascii_digit.ensures.bound in
    let range : IsInRange 48 57 (get_or c.args.word.now c.loop-byte.byte-index 0) = digit_from_value _ here in (
      digits_more 10 c.args.word.now c.loop-byte.byte-index c.loop-byte-test.true c.loop-byte.invariant.0 here,
      omega (arith, digits_value_more 10 c.args.word.now c.loop-byte.byte-index c.loop-byte-test.true, digit_value_digit (get_or c.args.word.now c.loop-byte.byte-index 0) range, c.loop-byte.invariant.1),
    )
