use Rattle.std.proofs.Common.{◌++◌, ◌∷◌, [], ◌∙◌, ap, append_assoc}
use Rattle.std.specs.Prelude.{codes, string_bytes}
use Rattle.tv_text.specs.Printed.{spaced}
use Rattle.tv_text.proofs.Printing.{line_text-numbers}
use Rattle.tv_grids.proofs.print.put_heights.Goals as goal

pub returns : goal.returns
returns c =
    let written = string_bytes c.write.new.self in
    let rest = c.in_ok-writeln.ensures.bytes ∙ ap (λ z. z ++ 10 ∷ []) c.in_ok-put_numbers.ensures ∙ append_assoc written (spaced c.args.heights.now) (10 ∷ []) in
    line_text-numbers _ _ _ (codes "heights") c.args.heights.now c.in_ok-write.ensures.bytes rest
