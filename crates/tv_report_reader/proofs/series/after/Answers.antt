use Rattle.std.proofs.Common.{w64, sym, subst, ◌+ℤ◌, pos, List}
use Rattle.std.proofs.lemmas.Int.{to_z-of_z}
use Rattle.tv_spec_text.specs.Reports.{Term}
use Rattle.tv_report_reader.specs.Told.{Cursor}
use Rattle.tv_report_reader.proofs.Dense.{cursor-further, cursor-gap, drop-behind}
use Rattle.tv_report_reader.proofs.series.after.Goals as goal

pub returns-in-Some-clause-rest : goal.returns-in-Some-clause-rest
returns-in-Some-clause-rest c = λ ts cursor.
    let found = rw (to_z-of_z w64 c.args.exponent c.ranges.exponent) at c.in-Some.ensures in
    subst (λ (rest : List Term). Cursor ts rest (c.args.exponent +ℤ pos 1)) (sym (drop-behind c.args.next c.args.terms.now _ found.0 found.1)) (cursor-further ts _ found.0 _ c.args.exponent cursor found.1 found.2)

pub returns-in-None-clause-rest : goal.returns-in-None-clause-rest
returns-in-None-clause-rest c = λ ts cursor.
    let none = rw (to_z-of_z w64 c.args.exponent c.ranges.exponent) at c.in-None.ensures in
    (cursor-gap ts _ c.args.exponent cursor none).1
