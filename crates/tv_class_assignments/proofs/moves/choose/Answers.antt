use Rattle.std.proofs.Common.{refl, subst, length}
use Rattle.tv_class_assignments.specs.Moves.{IsChoice, IsBehind}
use Rattle.tv_class_assignments.specs.Walk.{IsWalk}
use Rattle.tv_class_assignments.specs.declared.moves.Choice.TheVariants.{Nothing}
use Rattle.tv_class_assignments.proofs.Ends.{last_split, last_read}
use Rattle.tv_class_assignments.proofs.Moved.{left_many, enlarged, entered, behind_open, last_open}
use Rattle.tv_class_assignments.proofs.moves.choose.Goals as goal

pub returns-in-TooMany-clause-ok : goal.returns-in-TooMany-clause-ok
returns-in-TooMany-clause-ok c =
    let w = c.args.web.now in let fs = c.args.frames.now.items in let f = c.index.result.now in let gs = c.truncate.new.self.items in
    left_many w (length c.args.sizes.now) c.args.e fs gs f (last_split fs gs c.args.e c.args.e f c.requires.top refl c.truncate.ensures.items c.index.ensures) c.requires.top c.requires.edge
    (subst (IsChoice w c.args.e f) c.in-TooMany.is c.in_ok-next_choice.ensures) c.requires.valid

pub returns-in-Nothing-clause-ok : goal.returns-in-Nothing-clause-ok
returns-in-Nothing-clause-ok c =
    let w = c.args.web.now in let fs = c.args.frames.now.items in let f = c.index.result.now in let last = c.enlarge.ensures.last in
    let same = last_read fs c.enlarge.ensures.front c.args.e f last c.requires.top c.enlarge.ensures.was c.index.ensures in
    enlarged w (length c.args.sizes.now) c.args.e fs c.enlarge.new.frames.items c.enlarge.ensures.front last c.enlarge.ensures.was c.enlarge.ensures.is c.requires.top c.requires.edge
    (subst (λ g. IsChoice w c.args.e g Nothing) same (subst (IsChoice w c.args.e f) c.in-Nothing.is c.in_ok-next_choice.ensures)) c.requires.valid

pub returns-in_ok-enter-in-Behind-clause-ok : goal.returns-in_ok-enter-in-Behind-clause-ok
returns-in_ok-enter-in-Behind-clause-ok c =
    let w = c.args.web.now in let fs = c.args.frames.now.items in let f = c.index.result.now in let l = c.in-Behind.left in
    let count = length c.args.sizes.now in let ent = c.in_ok-enter-in-Behind.ensures.ok in
    let same = last_read fs ent.front c.args.e f ent.last c.requires.top ent.was c.index.ensures in
    let behind = subst (λ g. IsBehind w c.args.e g l) same (subst (IsChoice w c.args.e f) c.in-Behind.is c.in_ok-next_choice.ensures) in
    let known = last_open w count ent.front ent.last (subst (IsWalk w count) ent.was c.requires.valid) in
    entered w count c.args.e fs c.enter.new.frames.items ent.front ent.last l ent.was ent.is c.requires.top c.requires.edge (behind_open w count c.args.e ent.last l known behind) behind c.requires.valid
