use Rattle.tv_top.proofs.reply.answer_to.Goals as goal

pub returns-in-Verify-clause-deserved : goal.returns-in-Verify-clause-deserved
returns-in-Verify-clause-deserved g c = λ ws q. c.over_report.ensures.deserved ws (rw c.in-Verify.is at q)
