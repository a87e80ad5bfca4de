use Rattle.std.proofs.Common.{◌≡◌, ◌-◌, ◌∙◌, ap, subst, get_or}
use Rattle.std.specs.Prelude.{IfOk, []}
use Rattle.tv_partition.specs.Rows.{diagrams}
use Rattle.tv_spec_boxes.specs.Assignments.{Rows}
use Rattle.tv_class_assignments.proofs.Readings.{ok_part, read_rows}
use Rattle.tv_class_assignments.proofs.moves.chosen.Goals as goal
use Rattle.tv_assignment.proofs.Written.{size_read}

pub returns-in-Some : goal.returns-in-Some
returns-in-Some c =
    let f = c.args.frame.now in
    let number : c.index-sizes-frame.result ≡ f.size = size_read c.args.sizes.now f.size c.index-sizes-frame.result c.requires.listed c.index-sizes-frame.is c.requires.sizes in
    let read = read_rows (diagrams c.index-sizes-frame.result) c.saturating_sub.result _ c.in-Some.ensures.value in
    let here : c.in-Some.diagram.now ≡ get_or (diagrams f.size) (f.place - 1) [] = read ∙ (ap (λ k. get_or (diagrams c.index-sizes-frame.result) k []) c.saturating_sub.ensures ∙ ap (λ n. get_or (diagrams n) (f.place - 1) []) number) in
    let P : Rows → Type 0 = λ x. IfOk c.clone.result (λ d. d ≡ x) in
    subst P here (ok_part c.clone.result (λ d. d ≡ c.in-Some.diagram.now) _ c.clone.ensures.cases)

pub returns-in-None : goal.returns-in-None
returns-in-None c =
    let f = c.args.frame.now in
    let number : c.index-sizes-frame.result ≡ f.size = size_read c.args.sizes.now f.size c.index-sizes-frame.result c.requires.listed c.index-sizes-frame.is c.requires.sizes in
    let read = read_rows (diagrams c.index-sizes-frame.result) c.saturating_sub.result _ c.in-None.ensures.value in
    c.empty.ensures ∙ (read ∙ (ap (λ k. get_or (diagrams c.index-sizes-frame.result) k []) c.saturating_sub.ensures ∙ ap (λ n. get_or (diagrams n) (f.place - 1) []) number))
