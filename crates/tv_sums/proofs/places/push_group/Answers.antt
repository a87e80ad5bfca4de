use Rattle.std.proofs.Common.{◌≡◌, suc, true, sym, ap, ◌∙◌, subst, inl}
use Rattle.std.specs.Prelude.{◌||◌}
use Rattle.tv_spec_slices.specs.Slices.{at, same_shape}
use Rattle.tv_laws_sums.specs.Mixed.{put}
use Rattle.tv_sums.specs.Plans.{are_fit}
use Rattle.tv_sums.specs.Keys.{key, IsKey, opened}
use Rattle.tv_sums.specs.Parts.{grouped}
use Rattle.tv_sums.proofs.Parted.{part-turned}
use Rattle.tv_sums.proofs.Grouped.{group-key, group-fit, done-put}
use Rattle.tv_sums.proofs.places.push_group.Goals as goal

pub returns-clause-table : goal.returns-clause-table
returns-clause-table g c = λ t slices e low is fit part old.
    let plan = c.args.plan in let i = c.args.i in let s = c.args.heights.now in let group = c.in_ok-group.group in
    let group_is : group ≡ opened plan i s = c.in_ok-group.ensures ∙ ap (λ p. key (put (at s) p 0) plan.n) c.place.ensures.value in
    let pushed = c.in_ok-push_heights.ensures t slices (grouped plan i c.args.done.now.entries) e low (subst (IsKey plan.top plan.n) (sym group_is) (group-key plan i s is))
    (subst (λ b. are_fit c.args.legs.now plan i (at b) ≡ true) (sym group_is) (group-fit c.args.legs.now plan i s c.requires.some is fit)) part old in
    part-turned g.C.Ring.ring c.args.legs.now t plan (suc i) slices (λ q. grouped plan i c.args.done.now.entries q || same_shape (opened plan i q) group) (grouped plan i c.insert.new.self.entries) c.push_heights.new.next.entries
    (λ q is_q fit_q h. inl (done-put c.args.done.now.entries c.insert.new.self.entries group true c.in_ok-insert.ensures.updates.0 (opened plan i q) h)) pushed
