use Rattle.tv_words.proofs.WordPlaces.{place_first}
use Rattle.tv_words.proofs.command.parse_words.Goals as goal

pub returns-in_default : goal.returns-in_default
returns-in_default c = place_first _ c.in_default.ensures
