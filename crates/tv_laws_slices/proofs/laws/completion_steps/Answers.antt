use Rattle.tv_laws_slices.proofs.Steps.{completion-step}
use Rattle.tv_laws_slices.proofs.laws.completion_steps.Goals as goal

pub returns : goal.returns
returns c = completion-step
