use Rattle.std.proofs.Common.{◌++◌, ◌∷◌, [], ◌∙◌, ap}
use Rattle.std.specs.Prelude.{codes, string_bytes}
use Rattle.tv_spec_text.specs.Lines.{line_text}
use Rattle.tv_text.proofs.series.put_title.Goals as goal

pub returns : goal.returns
unfolding line_text
returns c = c.in_ok-writeln.ensures.bytes ∙ ap (λ t. string_bytes c.args.text.now ++ (codes "report series " ++ (t ++ 10 ∷ []))) c.word-title.ensures
