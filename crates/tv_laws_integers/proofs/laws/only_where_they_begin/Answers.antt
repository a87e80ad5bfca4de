use Rattle.tv_laws_integers.proofs.Proved.{only_where_they_begin}
use Rattle.tv_laws_integers.proofs.laws.only_where_they_begin.Goals as goal

pub returns : goal.returns
returns c = only_where_they_begin
