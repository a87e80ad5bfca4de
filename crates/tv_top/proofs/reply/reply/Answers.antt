use Rattle.tv_top.proofs.reply.reply.Goals as goal

pub returns-in-Ok-clause-deserved : goal.returns-in-Ok-clause-deserved
returns-in-Ok-clause-deserved g c = c.answer_to.ensures.deserved _ c.in-Ok.ensures
