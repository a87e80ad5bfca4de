use Rattle.std.proofs.Common.{◌≡◌, ◌+◌, ◌-◌, ◌++◌, ◌∷◌, [], arith, refl, sym, ◌∙◌, ap}
use Rattle.std.specs.Prelude.{cond}
use Rattle.std.proofs.lemmas.Result.{err_from_is_err_and}
use Rattle.tv_cells.specs.Extras.{is_extras}
use Rattle.tv_cells.specs.Cuts.{enters, leaves_gap}
use Rattle.tv_vertex.specs.Rest.{rest}
use Rattle.tv_vertex.proofs.Remaining.{rest-done, rest-step, rest-refused}
use Rattle.tv_vertex.proofs.Steps.{Step, step-sum, step-rises, step-gap, step-end}
use Rattle.tv_vertex.proofs.Tallied.{times-sum, part-wide, sum-wide}
use Rattle.tv_vertex.proofs.listing.+counting.Goals as goal

pub times_rest-returns-then-left-eq0-clause-value :
    goal.times_rest-returns-then-left-eq0-clause-value
times_rest-returns-then-left-eq0-clause-value g t c =
    let legs = c.args.legs.now in let chosen = c.args.chosen.now.items in
    let done : rest legs chosen c.args.cells.now c.args.left ≡ cond c.is_extras.result 1 0 =
    ap (rest legs chosen c.args.cells.now) c.if-left-eq0.true ∙ (rest-done legs chosen c.args.cells.now ∙ ap (λ b. cond b 1 0) (sym (c.is_extras.ensures ∙ ap (is_extras legs) c.as_slice.ensures.value))) in
    rw done c.one_if.ensures.value

pub times_rest-returns-in_err-with-clause-wide : goal.times_rest-returns-in_err-with-clause-wide
times_rest-returns-in_err-with-clause-wide g t c =
    let far = c.loop-cell.invariant.sum in
    let split = ap (λ cells. rest c.args.legs.now c.loop-cell.chosen.items cells c.args.left) c.in-Some.ensures.cases.0 ∙ rest-step c.args.legs.now c.loop-cell.chosen.items c.in-Some.cell.now c.in-Some.later.now c.args.left (omega arith) in
    let p = err_from_is_err_and c.from_residual-in_err-with.result c.from_residual-in_err-with.ensures.1 in
    rw (p.1, p.2) (λ e. part-wide g.met.C.Ring.laws (rest c.args.legs.now (c.loop-cell.chosen.items ++ c.in-Some.cell.now ∷ []) c.in-Some.later.now (c.args.left - 1)) (rest c.args.legs.now c.args.chosen.now.items c.args.cells.now c.args.left) (omega (arith, far.sum, split)) (c.in_err-with.ensures.wide e))

pub times_rest-returns-in_err-total-2-clause-wide :
    goal.times_rest-returns-in_err-total-2-clause-wide
times_rest-returns-in_err-total-2-clause-wide g t c =
    let far = c.loop-cell.invariant.sum in
    let split = ap (λ cells. rest c.args.legs.now c.loop-cell.chosen.items cells c.args.left) c.in-Some.ensures.cases.0 ∙ rest-step c.args.legs.now c.loop-cell.chosen.items c.in-Some.cell.now c.in-Some.later.now c.args.left (omega arith) in
    let p = err_from_is_err_and c.from_residual-in_err-total-2.result c.from_residual-in_err-total-2.ensures.1 in
    rw (p.1, p.2) (λ e. sum-wide g.met.C.Ring.laws far.counted (rest c.args.legs.now (c.loop-cell.chosen.items ++ c.in-Some.cell.now ∷ []) c.in-Some.later.now (c.args.left - 1)) (rest c.args.legs.now c.args.chosen.now.items c.args.cells.now c.args.left) c.loop-cell.total c.in_ok-with.with g.met.C.Ring.sizes far.is c.in_ok-with.ensures.value (omega (arith, far.sum, split)) (c.in_err-total-2.ensures.wide e))

pub times_rest-returns-then-leaves_gap-clause-value :
    goal.times_rest-returns-then-leaves_gap-clause-value
times_rest-returns-then-leaves_gap-clause-value g t c =
    let far = c.loop-cell.invariant.sum in
    let added = rest c.args.legs.now (c.loop-cell.chosen.items ++ c.in-Some.cell.now ∷ []) c.in-Some.later.now (c.args.left - 1) in
    let whole : far.counted + added ≡ rest c.args.legs.now c.args.chosen.now.items c.args.cells.now c.args.left =
    step-gap c.args.legs.now c.loop-cell.chosen.items c.times_taking.new.chosen.items c.loop-cell.remaining.now c.in-Some.later.now c.in-Some.cell.now
    c.args.left far.counted added (far.counted + added) _
    (record {
      first = c.in-Some.ensures.cases.0;
      some = omega arith;
      rising = c.loop-cell.invariant.rising;
      before = far.sum;
      taking = refl;
      total_is = refl;
      kept = c.in_ok-with.ensures.kept;
    })
    (sym (ap (λ chosen. leaves_gap c.args.legs.now chosen c.in-Some.cell.now) c.as_slice-in-Some.ensures.value) ∙ sym c.if-leaves_gap.ensures) in
    rw (← whole) (times-sum g.met.C.Ring.laws far.counted added c.loop-cell.total c.in_ok-with.with _ far.is c.in_ok-with.ensures.value c.in_ok-total-2.ensures.value)

pub times_rest-loop-cell-preserved : goal.times_rest-loop-cell-preserved
times_rest-loop-cell-preserved g t c =
    let far = c.loop-cell.invariant.sum in
    let added = rest c.args.legs.now (c.loop-cell.chosen.items ++ c.in-Some.cell.now ∷ []) c.in-Some.later.now (c.args.left - 1) in
    let step : Step c.args.legs.now c.loop-cell.chosen.items c.times_taking.new.chosen.items c.loop-cell.remaining.now c.in-Some.later.now c.in-Some.cell.now
    c.args.left far.counted added (far.counted + added) (rest c.args.legs.now c.args.chosen.now.items c.args.cells.now c.args.left) =
    record {
      first = c.in-Some.ensures.cases.0;
      some = omega arith;
      rising = c.loop-cell.invariant.rising;
      before = far.sum;
      taking = refl;
      total_is = refl;
      kept = c.in_ok-with.ensures.kept;
    } in
    record {
      kept = c.in_ok-with.ensures.kept ∙ c.loop-cell.invariant.kept;
      rising = step-rises _ _ _ _ _ _ _ _ _ _ _ step;
      sum = record {
        counted = far.counted + added;
        is = times-sum g.met.C.Ring.laws far.counted added c.loop-cell.total c.in_ok-with.with _ far.is c.in_ok-with.ensures.value c.in_ok-total-2.ensures.value;
        sum = step-sum _ _ _ _ _ _ _ _ _ _ _ step;
      };
    }

pub times_rest-returns-clause-value : goal.times_rest-returns-clause-value
times_rest-returns-clause-value g t c =
    let far = c.loop-cell.invariant.sum in
    let whole = step-end c.args.legs.now c.loop-cell.chosen.items c.loop-cell.remaining.now c.args.left far.counted _ c.in_default.ensures.cases (omega arith) far.sum in
    rw (← whole) far.is

pub times_taking-returns-then-not-enters-clause-value :
    goal.times_taking-returns-then-not-enters-clause-value
times_taking-returns-then-not-enters-clause-value g t c =
    let none = rest-refused c.args.legs.now c.args.chosen.now.items c.args.cell c.args.cells.now c.args.left c.requires
    (sym (ap (λ chosen. enters c.args.legs.now chosen c.args.cell) c.as_slice.ensures.value) ∙ (sym c.enters.ensures ∙ c.if-not-enters.true)) in
    rw none c.one_if.ensures.value
