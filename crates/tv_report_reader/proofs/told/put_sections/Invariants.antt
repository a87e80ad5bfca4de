use Rattle.std.proofs.Common.{◌≡◌, map, take}
use Rattle.tv_report_reader.specs.Told.{row_of}
use Rattle.tv_report_reader.proofs.told.put_sections.Given as goal

abbrev pub invariant-loop-part : goal.invariant-loop-part
invariant-loop-part l = l.family ≡ record l.initial.family { rows = map (row_of l.initial.family.upto) (take l.part-index l.sections) }
