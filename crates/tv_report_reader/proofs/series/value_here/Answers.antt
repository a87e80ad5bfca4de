use Rattle.std.proofs.Common.{w64, sym, ◌∙◌}
use Rattle.std.specs.Int.{w128}
use Rattle.std.proofs.lemmas.Int.{to_z-of_z}
use Rattle.tv_report_reader.proofs.Dense.{cursor-value, cursor-gap}
use Rattle.tv_report_reader.proofs.series.value_here.Goals as goal

pub returns-in-Some : goal.returns-in-Some
returns-in-Some c = λ ts cursor.
    let found = rw (to_z-of_z w64 c.args.exponent c.ranges.exponent) at c.in-Some.ensures in
    to_z-of_z w128 c.coefficient.result (record { sfits = c.coefficient.type_inv }) ∙ c.coefficient.ensures ∙ sym (cursor-value ts _ found.0 c.in-Some.term.now c.args.exponent cursor found.1 found.2)

pub returns-in-None : goal.returns-in-None
returns-in-None c = λ ts cursor.
    let none = rw (to_z-of_z w64 c.args.exponent c.ranges.exponent) at c.in-None.ensures in
    sym (cursor-gap ts _ c.args.exponent cursor none).0
