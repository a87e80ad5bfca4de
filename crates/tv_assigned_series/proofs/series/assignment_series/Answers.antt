use Rattle.std.proofs.Common.{◌≡◌, ◌∙◌, ap, arith, w64, to_z, of_z, length, suc, ◌+◌}
use Rattle.std.specs.Prelude.{pos, ◌+ℤ◌}
use Rattle.std.proofs.lemmas.Result.{err_from_is_err_and}
use Rattle.tv_laws_series.specs.Terms.{Terms}
use Rattle.tv_laws_series.proofs.Listed.{length-listed}
use Rattle.tv_spec_boxes.specs.Assignments.{no_legs, edge_twist}
use Rattle.tv_laws_counts.specs.Ways.{start_of}
use Rattle.tv_assigned_series.specs.Terms.{front_times}
use Rattle.tv_assigned_series.proofs.Assembled.{start-is, none-known, all-known, too-many, read_after, read_lesser, read_greater, read_start, read_left, read_first, start-bounded}
use Rattle.tv_assigned_series.proofs.series.assignment_series.Goals as goal

pub returns-then-start-n-clause-value : goal.returns-then-start-n-clause-value
returns-then-start-n-clause-value g c =
    let w = c.args.web.now in let a = c.args.assignment.now in
    let start : c.start_of-start.result ≡ start_of w (no_legs w) a = start-is w (no_legs w) a c.start_of-start.result c.deref.result.now (c.deref.ensures.value ∙ c.in_ok-legs.ensures.legs) c.start_of-start.ensures.value in
    none-known g.C.Ring.ring w (no_legs w) c.args.n a c.new-then-start-n.result (to_z w64 (of_z w64 (to_z w64 (of_z w64 c.args.n) +ℤ pos 1))) c.new.result.items
    (rw (← start) (read_lesser c.args.n c.start_of-start.result c.requires.exponent c.start_of-start.ensures.bound c.if-start-n.true)) (read_after c.args.n c.requires.exponent) c.new.ensures.items c.new-then-start-n.ensures.value

pub returns-in_err-product-clause-wide : goal.returns-in_err-product-clause-wide
returns-in_err-product-clause-wide g c =
    let w = c.args.web.now in let a = c.args.assignment.now in
    let start : c.start_of-start.result ≡ start_of w (no_legs w) a = start-is w (no_legs w) a c.start_of-start.result c.deref.result.now (c.deref.ensures.value ∙ c.in_ok-legs.ensures.legs) c.start_of-start.ensures.value in
    let p = err_from_is_err_and c.from_residual-in_err-product.result c.from_residual-in_err-product.ensures.1 in
    rw (p.1, p.2) (λ wide. too-many g.C.Ring.ring w (no_legs w) c.args.n a c.deref-2.result.now c.start_of-start.result c.boxes_left-left.result (c.deref-2.ensures.value ∙ c.in_ok-legs.ensures.legs) start (read_left c.args.n c.start_of-start.result c.boxes_left-left.result c.requires.exponent c.start_of-start.ensures.bound c.boxes_left-left.ensures.value) (c.in_err-product.ensures.wide wide))

pub signed-requires-clause-count : goal.signed-requires-clause-count
signed-requires-clause-count g c =
    let row : length c.in_ok-product.product.coefficients ≡ suc c.boxes_left-left.result = ap (λ (t : Terms g.row.C.Denot). length t.coefficients) c.in_ok-product.ensures.value ∙ length-listed (front_times g.C.Ring.ring c.deref-2.result.now) (suc c.boxes_left-left.result) in
    omega arith

pub new-requires-2 : goal.new-requires-2
new-requires-2 g c =
    let row : length c.in_ok-coefficients.coefficients.items ≡ c.boxes_left-left.result + 1 = ap length c.in_ok-coefficients.ensures.value ∙ length-listed _ (c.boxes_left-left.result + 1) in
    let left = read_left c.args.n c.start_of-start.result c.boxes_left-left.result c.requires.exponent c.start_of-start.ensures.bound c.boxes_left-left.ensures.value in
    record { bounded = start-bounded c.start_of-start.result c.args.n c.boxes_left-left.result c.in_ok-coefficients.coefficients.items c.requires.exponent c.start_of-start.ensures.bound left row }

pub returns-clause-value : goal.returns-clause-value
returns-clause-value g c =
    let w = c.args.web.now in let a = c.args.assignment.now in
    let start : c.start_of-start.result ≡ start_of w (no_legs w) a = start-is w (no_legs w) a c.start_of-start.result c.deref.result.now (c.deref.ensures.value ∙ c.in_ok-legs.ensures.legs) c.start_of-start.ensures.value in
    all-known g.met.C.Ring.laws w (no_legs w) c.args.n a c.new-2.result c.in_ok-product.product c.deref-2.result.now c.start_of-start.result (to_z w64 (of_z w64 c.start_of-start.result)) (to_z w64 (of_z w64 c.with_twist-first.result)) c.boxes_left-left.result c.in_ok-coefficients.coefficients.items
    (c.deref-2.ensures.value ∙ c.in_ok-legs.ensures.legs) start (read_greater c.args.n c.start_of-start.result c.requires.exponent c.start_of-start.ensures.bound c.if-start-n.false)
    (read_left c.args.n c.start_of-start.result c.boxes_left-left.result c.requires.exponent c.start_of-start.ensures.bound c.boxes_left-left.ensures.value)
    (read_first c.with_twist-first.result c.start_of-start.result (edge_twist w a) c.with_twist-first.ensures.bound c.start_of-start.ensures.bound c.with_twist-first.ensures.value)
    c.in_ok-product.ensures.value c.in_ok-coefficients.ensures.value (read_start c.start_of-start.result c.start_of-start.ensures.bound) c.new-2.ensures.value
