use Rattle.tv_spec_series.proofs.Members.{row_found}
use Rattle.tv_graded.proofs.laws.rows_are_found.Goals as goal

pub returns : goal.returns
returns g c = record { law = λ f x family held. row_found f.heights f.rows x family.rises held }
