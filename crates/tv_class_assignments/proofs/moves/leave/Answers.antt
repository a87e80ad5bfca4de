use Rattle.std.proofs.Common.{◌∙◌, refl, ap, cond, map, length, [], ◌∷◌}
use Rattle.tv_class_assignments.specs.Walk.{chosen}
use Rattle.tv_class_assignments.proofs.Ends.{last_split, same_front}
use Rattle.tv_class_assignments.proofs.Moved.{left_unspent, left_found, leaf_by, all_chosen}
use Rattle.tv_class_assignments.proofs.Readings.{listed_front}
use Rattle.tv_class_assignments.proofs.moves.leave.Goals as goal

pub returns-then-not-is_spent-clause-ok : goal.returns-then-not-is_spent-clause-ok
returns-then-not-is_spent-clause-ok c =
    let w = c.args.web.now in let fs = c.args.frames.now.items in let f = c.index.result.now in
    let was = last_split fs c.truncate.new.self.items c.args.top c.args.top f c.requires.top refl c.truncate.ensures.items c.index.ensures in
    let all = all_chosen w (length c.args.sizes.now) fs c.truncate.new.self.items f c.args.top was c.requires.top c.requires.edges c.requires.valid in
    left_unspent w (length c.args.sizes.now) fs c.truncate.new.self.items f was all
    (leaf_by w (length c.args.sizes.now) fs c.truncate.new.self.items f c.is_spent.result was c.requires.valid c.is_spent.ensures ∙ ap (λ b. cond b ([] ∷ []) []) c.if-not-is_spent.true)
    c.requires.valid

pub chosen_of-requires-clause-listed : goal.chosen_of-requires-clause-listed
chosen_of-requires-clause-listed c = listed_front c.args.web.now (length c.args.sizes.now) c.args.top c.args.frames.now.items c.deref.result.now c.deref.ensures.value c.requires.valid.frames

pub returns-clause-ok : goal.returns-clause-ok
returns-clause-ok c =
    let w = c.args.web.now in let fs = c.args.frames.now.items in let f = c.index.result.now in let gs = c.truncate-2.new.self.items in
    let was = last_split fs gs c.args.top c.args.top f c.requires.top refl c.truncate-2.ensures.items c.index.ensures in
    let all = all_chosen w (length c.args.sizes.now) fs gs f c.args.top was c.requires.top c.requires.edges c.requires.valid in
    left_found w (length c.args.sizes.now) fs gs f c.in_ok-found.found was all
    (leaf_by w (length c.args.sizes.now) fs gs f c.is_spent.result was c.requires.valid c.is_spent.ensures ∙ ap (λ b. cond b ([] ∷ []) []) c.if-not-is_spent.false)
    (c.in_ok-found.ensures ∙ ap (map chosen) (same_front fs gs c.deref.result.now c.args.top c.args.top refl c.truncate-2.ensures.items c.deref.ensures.value))
    c.requires.valid
