use Rattle.std.proofs.Common.{◌≡◌, map, take}
use Rattle.std.specs.List.{AllByRecursion}
use Rattle.tv_spec_text.specs.Lines.{IsNumber, spelled}
use Rattle.tv_text.specs.Rows.{texts}
use Rattle.tv_text.proofs.row.numbers.Given as goal

abbrev pub invariant-loop-word : goal.invariant-loop-word
invariant-loop-word l = AllByRecursion IsNumber l.numbers.items × (texts (take l.word-index l.words) ≡ map spelled l.numbers.items)
