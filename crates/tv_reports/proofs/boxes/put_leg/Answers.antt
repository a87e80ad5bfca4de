use Rattle.std.proofs.Common.{◌≤◌, length, ◌++◌, ◌∷◌, [], ◌∙◌, ap, rules}
use Rattle.std.specs.Prelude.{string_bytes}
use Rattle.tv_reports.specs.Configs.{rows_spaced}
use Rattle.tv_reports.proofs.Configs.{leg_told}
use Rattle.tv_reports.proofs.boxes.put_leg.Goals as goal

pub returns : goal.returns
returns c =
    let some : 1 ≤ length c.args.diagram.now = search rules in
    leg_told c.args.edge c.args.diagram.now _ _ _ some c.in_ok-put_edge.ensures (c.in_ok-end_with_rows.ensures ∙ ap (λ rows. string_bytes c.put_edge.new.text ++ (rows_spaced rows ++ 10 ∷ [])) c.rows-rows.ensures.value)
