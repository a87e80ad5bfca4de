use Rattle.std.proofs.Common.{◌≡◌, ◌≤◌, ◌-◌, ◌^◌, take, drop}
use Rattle.std.specs.Str.Parse.{AllDigits, digits_value, digits_value_after}
use Rattle.tv_report_reader.proofs.wide.digits.Given as goal

abbrev pub invariant-loop-byte : goal.invariant-loop-byte
invariant-loop-byte l = AllDigits 10 (take l.byte-index l.word) × (digits_value_after 10 l.value (drop l.byte-index l.word) ≡ digits_value 10 l.word) × (l.value ≤ 2 ^ 127 - 1)
