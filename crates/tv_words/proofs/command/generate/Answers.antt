use Rattle.std.proofs.Common.{sym, ◌∙◌}
use Rattle.tv_words.proofs.WordPlaces.{place_generate_side, place_generate_end, some_word}
use Rattle.tv_words.proofs.command.generate.Goals as goal

pub returns-in_default : goal.returns-in_default
returns-in_default c = place_generate_side _ c.in_default.ensures

pub returns-then-not-is_empty : goal.returns-then-not-is_empty
returns-then-not-is_empty c = place_generate_end _ _ _ c.in-Some.ensures.0 c.in-Some.ensures.1 (some_word _ _ (sym c.if-not-is_empty.true ∙ c.is_empty.ensures))
