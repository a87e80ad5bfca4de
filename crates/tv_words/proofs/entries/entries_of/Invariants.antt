use Rattle.std.proofs.Common.{◌≡◌, map, take, string_bytes}
use Rattle.std.specs.List.{AllByRecursion}
use Rattle.tv_spec_text.specs.Lines.{IsNumber, spelled}
use Rattle.tv_words.proofs.entries.entries_of.Given as goal

abbrev pub invariant-loop-word : goal.invariant-loop-word
invariant-loop-word l = AllByRecursion IsNumber l.numbers.items × (map string_bytes (take l.word-index l.words) ≡ map spelled l.numbers.items)
