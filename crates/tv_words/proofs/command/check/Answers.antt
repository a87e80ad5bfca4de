use Rattle.std.proofs.Common.{sym, ◌∙◌}
use Rattle.tv_words.proofs.WordPlaces.{place_after_check, some_word}
use Rattle.tv_words.proofs.command.check.Goals as goal

pub returns-then-not-is_empty : goal.returns-then-not-is_empty
returns-then-not-is_empty c = place_after_check _ (some_word _ _ (sym c.if-not-is_empty.true ∙ c.is_empty.ensures))
