use Rattle.std.proofs.Common.{◌≡◌, ◌++◌, ◌∷◌, [], sym, rules, ◌∙◌, ap}
use Rattle.std.proofs.lemmas.Int.{to_z-of_z}
use Rattle.tv_spec_slices.specs.Slices.{interlaces}
use Rattle.tv_spec_slices.specs.Paths.{shape}
use Rattle.tv_interlace.proofs.Beside.{ended-not, ended-beside, ended-alone}
use Rattle.tv_interlace.proofs.next.push_ended.Goals as goal

pub returns-then-not-ends : goal.returns-then-not-ends
returns-then-not-ends c = ended-not c.args.t c.args.a.now c.args.full c.args.front.now c.args.ends c.args.all.now.items c.if-not-ends.true

pub returns-in_ok-push : goal.returns-in_ok-push
returns-in_ok-push c =
    let fits = c.ranges.t in
    let copied : c.in_ok-to_vec.field-0.items ≡ c.args.front.now = search rules in
    let same : c.new-b.result ≡ shape c.args.full c.args.front.now = c.new-b.ensures ∙ ap (shape c.args.full) copied in
    let beside : c.interlaces.result ≡ interlaces c.args.t c.args.a.now c.new-b.result = simp to_z-of_z at c.interlaces.ensures in
    ended-beside c.args.t c.args.a.now c.args.full c.args.front.now c.args.ends c.push.new.self.items c.args.all.now.items c.if-not-ends.false
    (ap (interlaces c.args.t c.args.a.now) (sym same) ∙ (sym beside ∙ c.if-interlaces.true)) (c.in_ok-push.ensures.items ∙ ap (λ s. c.args.all.now.items ++ s ∷ []) same)

pub returns-else-interlaces : goal.returns-else-interlaces
returns-else-interlaces c =
    let fits = c.ranges.t in
    let copied : c.in_ok-to_vec.field-0.items ≡ c.args.front.now = search rules in
    let same : c.new-b.result ≡ shape c.args.full c.args.front.now = c.new-b.ensures ∙ ap (shape c.args.full) copied in
    let beside : c.interlaces.result ≡ interlaces c.args.t c.args.a.now c.new-b.result = simp to_z-of_z at c.interlaces.ensures in
    ended-alone c.args.t c.args.a.now c.args.full c.args.front.now c.args.ends c.args.all.now.items c.if-not-ends.false
    (ap (interlaces c.args.t c.args.a.now) (sym same) ∙ (sym beside ∙ c.if-interlaces.false))
