use Rattle.tv_laws_reports.proofs.ToldSeries.{series_have_their_terms}
use Rattle.tv_laws_reports.proofs.verdicts.series_have_their_terms.Goals as goal

pub returns : goal.returns
returns c = series_have_their_terms
