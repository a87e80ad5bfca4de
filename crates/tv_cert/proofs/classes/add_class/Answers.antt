use Rattle.std.proofs.Common.{sym, ◌∙◌}
use Rattle.tv_spec_series.specs.Families.{row}
use Rattle.tv_candidates.proofs.Adding.{class_found, added_same, added_one}
use Rattle.tv_cert.proofs.classes.add_class.Goals as goal

pub returns-then-is_some : goal.returns-then-is_some
returns-then-is_some c =
    let v = c.args.class in
    let there = class_found v c.args.family.now.rows c.get.result (λ series. row v series.now) c.get.ensures.value
    (sym c.is_some.ensures ∙ c.if-is_some.true) in
    record { added = added_same v c.args.family.now there }

pub returns-in-Ok : goal.returns-in-Ok
returns-in-Ok c =
    record { added = added_one c.args.class c.new-2.result c.args.family.now c.add_into.new.self c.in-Ok.ensures.ok }
