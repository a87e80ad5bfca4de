use Rattle.std.proofs.Common.{◌≡◌, sym, ◌∙◌, ap, rules}
use Rattle.std.specs.Prelude.{IfOk}
use Rattle.std.proofs.lemmas.Result.{IfOk-weaker}
use Rattle.tv_cells.specs.Extras.{count}
use Rattle.tv_images.specs.Least.{least}
use Rattle.tv_images.proofs.Corners.{least-empty}
use Rattle.tv_images.proofs.Least.{least-counts, least-is}
use Rattle.tv_images.proofs.image.least_image.Goals as goal

pub returns-clause-value : goal.returns-clause-value
returns-clause-value c =
    let copied : c.in_ok-clone.field-0 ≡ c.args.legs.now = search rules in
    least-is c.args.legs.now c.in_ok-clone.field-0 c.in_ok-xy.xy c.in_ok-yz.yz c.in_ok-turned.turned c.in_ok-turned_back.turned_back c.in_ok-xz.xz c.first_of-two.result c.first_of-three.result c.first_of-four.result c.first_of-five.result c.first_of.result
    copied c.in_ok-xy.ensures c.in_ok-yz.ensures c.in_ok-turned.ensures c.in_ok-turned_back.ensures c.in_ok-xz.ensures c.first_of-two.ensures c.first_of-three.ensures c.first_of-four.ensures c.first_of-five.ensures c.first_of.ensures

pub returns-clause-counts : goal.returns-clause-counts
returns-clause-counts c = λ i. ap (λ image. count image i) (returns-clause-value c) ∙ least-counts c.args.legs.now c.known.ensures.diagrams i

pub returns-then-is_empty-clause-value : goal.returns-then-is_empty-clause-value
returns-then-is_empty-clause-value c =
    let copied : IfOk c.clone.result (λ copy. copy ≡ c.args.legs.now) = search rules in
    IfOk-weaker c.clone.result (λ copy. copy ≡ c.args.legs.now) (λ copy. copy ≡ least c.args.legs.now) (λ copy is. is ∙ least-empty c.args.legs.now (sym c.if-is_empty.ensures)) copied
