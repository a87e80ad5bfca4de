use Rattle.std.proofs.Common.{pos}
use Rattle.tv_class_integers.specs.Rows.{IsRow}
use Rattle.tv_cert.proofs.powers.zero_row.Given as goal

abbrev pub invariant-loop-place : goal.invariant-loop-place
invariant-loop-place l = IsRow l.place (λ t. pos 0) l.row.items
