use Rattle.std.proofs.Common.{sym, ◌∙◌}
use Rattle.tv_text.proofs.Reading.{IsAt-no_row, IsAt-refused, IsAt-taken}
use Rattle.tv_text.proofs.draft.Draft.step.Goals as goal

pub returns-in_default : goal.returns-in_default
returns-in_default c = λ ls here. IsAt-no_row _ _ ls _ (rw c.in_default.is at c.in_ok-row.ensures) here

pub returns-in_default-after : goal.returns-in_default-after
returns-in_default-after c = λ ls here. IsAt-refused _ c.in-Some.row _ ls _ (sym c.after.ensures ∙ c.in_default-after.is) (rw c.in-Some.is at c.in_ok-row.ensures) here

pub returns : goal.returns
returns c = λ ls here. IsAt-taken _ _ c.in-Some.row _ _ ls _ (sym c.after.ensures ∙ c.in-Some-after.is) c.in_ok-put.ensures (rw c.in-Some.is at c.in_ok-row.ensures) here
