use Rattle.std.proofs.Common.{◌≡◌, map, take}
use Rattle.std.specs.List.{AllByRecursion}
use Rattle.tv_reports.specs.Sections.{section_of}
use Rattle.tv_reports.proofs.series.sections_of.Given as goal
use Rattle.tv_spec_text.specs.Reports.{IsSmall}

abbrev pub invariant-loop-k : goal.invariant-loop-k
invariant-loop-k l = record { value : l.sections.items ≡ map (section_of l.series.heights) (take l.k l.series.rows); small : AllByRecursion IsSmall l.sections.items }
