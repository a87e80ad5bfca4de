use Rattle.std.proofs.Common.{◌≡◌, ◌≢◌, ◌++◌, ◌∷◌, [], ◌+◌, ◌<◌, ◌∙◌, map, take, ap, subst, sym, refl, length, arith, suc}
use Rattle.std.proofs.lemmas.List.{take_all}
use Rattle.tv_spec_text.specs.Lines.{words}
use Rattle.tv_text.specs.Rows.{texts}
use Rattle.tv_text.proofs.BadLines.{one_line_more, as_many}
use Rattle.tv_report_reader.specs.Drafts.{seen_of}
use Rattle.tv_report_reader.specs.Faults.{IsLineFault}
use Rattle.tv_report_reader.specs.Stages.{IsAt}
use Rattle.tv_report_reader.specs.declared.stage.Stage.TheVariants.{Done}
use Rattle.tv_report_reader.proofs.LinesRead.{IsAt-start, IsAt-leads, IsAt-done, place-within, place-at-end}
use Rattle.tv_report_reader.proofs.reading.read_lines.Goals as goal

pub loop-k-init : goal.loop-k-init
loop-k-init c = rw c.new-draft.ensures.stage (IsAt-start _ c.new-draft.ensures.fresh)

pub returns-then-not-branch : goal.returns-then-not-branch
returns-then-not-branch c =
    let ls = map words (texts c.args.lines.now) in
    let same = ap texts c.deref.ensures.value ∙ c.in_ok-words.ensures in
    let more : take (c.loop-k.k + 1) ls ≡ take c.loop-k.k ls ++ texts c.deref.result.now ∷ [] =
    one_line_more (λ w. w.now) c.args.lines.now c.loop-k.k _ c.loop-k-test.true ∙ ap (λ z. take c.loop-k.k ls ++ z ∷ []) (sym same) in
    let refused = rw c.if-not-branch.true at c.in_ok-step.ensures in
    let listed : c.loop-k.k < length ls = omega (arith, as_many (λ w. w.now) c.args.lines.now, c.loop-k-test.true) in
    subst (IsLineFault ls) (sym c.bad_line.ensures)
    (c.loop-k.k, refl, place-within ls c.loop-k.k _ c.loop-k.draft.stage (seen_of c.loop-k.draft) listed more c.loop-k.invariant refused)

pub loop-k-preserved : goal.loop-k-preserved
loop-k-preserved c =
    let ls = map words (texts c.args.lines.now) in
    let same = ap texts c.deref.ensures.value ∙ c.in_ok-words.ensures in
    let more : take (c.loop-k.k + 1) ls ≡ take c.loop-k.k ls ++ texts c.deref.result.now ∷ [] =
    one_line_more (λ w. w.now) c.args.lines.now c.loop-k.k _ c.loop-k-test.true ∙ ap (λ z. take c.loop-k.k ls ++ z ∷ []) (sym same) in
    let taken = rw c.if-not-branch.false at c.in_ok-step.ensures in
    subst (IsAt c.step.new.self.stage (seen_of c.step.new.self)) (sym more) (IsAt-leads _ _ _ _ (take c.loop-k.k ls) _ c.loop-k.invariant taken)

pub returns-then-not-is_done : goal.returns-then-not-is_done
returns-then-not-is_done c =
    let ls = map words (texts c.args.lines.now) in
    let other : c.loop-k.draft.stage ≢ Done = λ e. let done = c.if-not-is_done.ensures.1 e in cc in
    let here : IsAt c.loop-k.draft.stage (seen_of c.loop-k.draft) ls =
    subst (IsAt c.loop-k.draft.stage (seen_of c.loop-k.draft)) (take_all c.loop-k.k ls (omega (arith, as_many (λ w. w.now) c.args.lines.now, c.loop-k-test.false))) c.loop-k.invariant in
    let place = place-at-end ls c.loop-k.draft.stage (seen_of c.loop-k.draft) other here in
    subst (IsLineFault ls) (sym c.bad_line-then-not-is_done.ensures) (length ls, ap suc (sym (as_many (λ w. w.now) c.args.lines.now)), place)

pub returns : goal.returns
returns c =
    let ls = map words (texts c.args.lines.now) in
    let here : IsAt c.loop-k.draft.stage (seen_of c.loop-k.draft) ls =
    subst (IsAt c.loop-k.draft.stage (seen_of c.loop-k.draft)) (take_all c.loop-k.k ls (omega (arith, as_many (λ w. w.now) c.args.lines.now, c.loop-k-test.false))) c.loop-k.invariant in
    IsAt-done c.loop-k.draft.stage (seen_of c.loop-k.draft) ls (c.if-not-is_done.ensures.0 refl) here
