use Rattle.std.proofs.Common.{sym, ◌∙◌}
use Rattle.tv_words.proofs.WordPlaces.{place_kind, place_series_degree, place_series_order, place_series_end, some_word, behind_one, behind_two}
use Rattle.tv_words.proofs.command.series.Goals as goal

pub returns-in_default : goal.returns-in_default
returns-in_default c = place_kind _ c.in_default.ensures

pub returns-in_default-after_degree : goal.returns-in_default-after_degree
returns-in_default-after_degree c = place_series_degree _ _ _ c.in-Some.ensures c.in_default-after_degree.ensures

pub returns-in_default-after_number : goal.returns-in_default-after_number
returns-in_default-after_number c = place_series_order _ _ _ _ c.in-Some-after_degree.ensures.0 (behind_one c.in-Some.ensures c.in-Some-after_degree.ensures.1) c.in_default-after_number.ensures

pub returns-then-not-is_empty : goal.returns-then-not-is_empty
returns-then-not-is_empty c = place_series_end _ _ _ _ _ c.in-Some-after_degree.ensures.0 c.in-Some-after_number.ensures.0 (behind_two c.in-Some.ensures c.in-Some-after_degree.ensures.1 c.in-Some-after_number.ensures.1) (some_word _ _ (sym c.if-not-is_empty.true ∙ c.is_empty.ensures))
