use Rattle.std.proofs.Common.{◌≡◌, ◌++◌, ◌∷◌, [], sym, rules, ◌∙◌, ap}
use Rattle.tv_spec_slices.specs.Paths.{shape}
use Rattle.tv_paths.specs.Among.{is_among}
use Rattle.tv_paths.proofs.Behind.{ended-not, ended-among, ended-alone}
use Rattle.tv_paths.proofs.order.push_ended.Goals as goal

pub returns-then-not-ends : goal.returns-then-not-ends
returns-then-not-ends c = ended-not c.args.keys.now c.args.full c.args.front.now c.args.ends c.args.all.now.items c.if-not-ends.true

pub returns-in_ok-push : goal.returns-in_ok-push
returns-in_ok-push c =
    let copied : c.in_ok-to_vec.field-0.items ≡ c.args.front.now = search rules in
    let same : c.new-b.result ≡ shape c.args.full c.args.front.now = c.new-b.ensures ∙ ap (shape c.args.full) copied in
    ended-among c.args.keys.now c.args.full c.args.front.now c.args.ends c.push.new.self.items c.args.all.now.items c.if-not-ends.false
    (ap (is_among c.args.keys.now) (sym same) ∙ (sym c.is_among.ensures ∙ c.if-is_among.true)) (c.in_ok-push.ensures.items ∙ ap (λ s. c.args.all.now.items ++ s ∷ []) same)

pub returns-else-is_among : goal.returns-else-is_among
returns-else-is_among c =
    let copied : c.in_ok-to_vec.field-0.items ≡ c.args.front.now = search rules in
    let same : c.new-b.result ≡ shape c.args.full c.args.front.now = c.new-b.ensures ∙ ap (shape c.args.full) copied in
    ended-alone c.args.keys.now c.args.full c.args.front.now c.args.ends c.args.all.now.items c.if-not-ends.false
    (ap (is_among c.args.keys.now) (sym same) ∙ (sym c.is_among.ensures ∙ c.if-is_among.false))
