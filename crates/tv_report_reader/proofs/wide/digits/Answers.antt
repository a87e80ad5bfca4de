use Rattle.std.proofs.Common.{◌≡◌, ◌∙◌, ◌+◌, ◌*◌, sym, ap, arith, get_or, drop}
use Rattle.std.specs.Int.{IsInRange}
use Rattle.std.specs.Char.{digit_value}
use Rattle.std.specs.Str.Parse.{digits_value_after}
use Rattle.std.proofs.lemmas.Str.Parse.{digit_at, digit_from_value}
use Rattle.std.proofs.lemmas.Str.{digit_value_digit}
use Rattle.std.proofs.lemmas.Int.Digits.{digits_more}
use Rattle.tv_report_reader.proofs.WideNumbers.{value_grows, value_left}
use Rattle.tv_report_reader.proofs.wide.digits.Goals as goal

pub returns-then-not-is_ascii_digit : goal.returns-then-not-is_ascii_digit
returns-then-not-is_ascii_digit c = λ all. let range : IsInRange 48 57 (get_or c.args.word.now c.loop-byte.byte-index 0) = digit_at c.args.word.now c.loop-byte.byte-index all c.loop-byte-test.true in let other = c.if-not-is_ascii_digit.ensures.cases in absurd (grind arith)

pub returns-in-None : goal.returns-in-None
returns-in-None c = λ all.
    let w = c.args.word.now in
    let i = c.loop-byte.byte-index in
    let here = c.if-not-is_ascii_digit.ensures.bound in
    let range : IsInRange 48 57 (get_or w i 0) = digit_from_value _ here in
    let value = digit_value_digit (get_or w i 0) range in
    omega (arith, c.in-None.ensures, value, range, value_left c.loop-byte.value i w c.loop-byte-test.true, c.loop-byte.invariant.1, value_grows (c.loop-byte.value * 10 + digit_value (get_or w i 0)) (drop (i + 1) w))

pub loop-byte-preserved : goal.loop-byte-preserved
loop-byte-preserved c =
    let w = c.args.word.now in
    let i = c.loop-byte.byte-index in
    let here = c.if-not-is_ascii_digit.ensures.bound in
    let range : IsInRange 48 57 (get_or w i 0) = digit_from_value _ here in
    let value = digit_value_digit (get_or w i 0) range in
    let same : c.in-Some.next ≡ c.loop-byte.value * 10 + digit_value (get_or w i 0) = omega (arith, c.in-Some.ensures.0, value, range) in (
      digits_more 10 w i c.loop-byte-test.true c.loop-byte.invariant.0 here,
      ap (λ n. digits_value_after 10 n (drop (i + 1) w)) same ∙ sym (value_left c.loop-byte.value i w c.loop-byte-test.true) ∙ c.loop-byte.invariant.1,
      c.in-Some.ensures.1,
    )
