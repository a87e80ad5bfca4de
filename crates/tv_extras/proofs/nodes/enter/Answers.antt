use Rattle.std.proofs.Common.{sym, ◌∙◌, ap, subst}
use Rattle.tv_lemmas.proofs.Naturals.{nat_eq-tells}
use Rattle.tv_spec_boxes.specs.Configurations.{fillings}
use Rattle.tv_extras.specs.Nodes.{legs_of, AreNodes}
use Rattle.tv_extras.proofs.Filled.{enter-one, enter-more}
use Rattle.tv_extras.proofs.nodes.enter.Goals as goal

pub returns-then-is_empty-clause-all : goal.returns-then-is_empty-clause-all
returns-then-is_empty-clause-all c =
    let e = c.in-Some.ensures.cases.0 in
    let v = subst (AreNodes c.args.most) e c.requires.valid in
    enter-one c.args.most c.args.boxes c.in-Some.node.now c.restart.new.self c.in-Some.later.now (nat_eq-tells _ _ (sym c.is_empty.ensures ∙ c.if-is_empty.true)) v.0 v.1 c.restart.ensures
    ∙ ap (λ ns. fillings (legs_of ns) c.args.most c.args.boxes) (sym e)

pub returns-else-is_empty-clause-all : goal.returns-else-is_empty-clause-all
returns-else-is_empty-clause-all c =
    let e = c.in-Some.ensures.cases.0 in
    let v = subst (AreNodes c.args.most) e c.requires.valid in
    enter-more c.args.most c.args.boxes c.in-Some.node.now c.restart-else-is_empty.new.self c.in-Some.later.now v.0 v.1 c.restart-else-is_empty.ensures
    ∙ ap (λ ns. fillings (legs_of ns) c.args.most c.args.boxes) (sym e)
