use Rattle.std.proofs.Common.{◌≡◌, take}
use Rattle.tv_report_reader.specs.Told.{integers_of}
use Rattle.tv_report_reader.proofs.integers.put_sections.Given as goal

abbrev pub invariant-loop-part : goal.invariant-loop-part
invariant-loop-part l = l.integers ≡ record l.initial.integers { integers = integers_of (take l.part-index l.sections) }
