use Rattle.tv_class_parts.proofs.Tables.{parts_are_katz}
use Rattle.tv_class_parts.proofs.laws.parts_are_katz.Goals as goal

pub returns : goal.returns
returns c = parts_are_katz
