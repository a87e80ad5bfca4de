use Rattle.std.proofs.Common.{sym, ◌∙◌}
use Rattle.tv_words.proofs.WordPlaces.{place_gv_degree, place_gv_order, place_gv_end, some_word, behind_one}
use Rattle.tv_words.proofs.command.gv.Goals as goal

pub returns-in_default : goal.returns-in_default
returns-in_default c = place_gv_degree _ c.in_default.ensures

pub returns-in_default-after_number : goal.returns-in_default-after_number
returns-in_default-after_number c = place_gv_order _ _ _ c.in-Some.ensures.0 c.in-Some.ensures.1 c.in_default-after_number.ensures

pub returns-then-not-is_empty : goal.returns-then-not-is_empty
returns-then-not-is_empty c = place_gv_end _ _ _ _ c.in-Some.ensures.0 c.in-Some-after_number.ensures.0 (behind_one c.in-Some.ensures.1 c.in-Some-after_number.ensures.1) (some_word _ _ (sym c.if-not-is_empty.true ∙ c.is_empty.ensures))
