use Rattle.std.proofs.Common.{◌≡◌, ◌-◌, ◌∷◌, true, false, sym, ◌∙◌, ap, arith}
use Rattle.std.proofs.lemmas.Result.{MatchResult-weaker, err_from_is_err_and}
use Rattle.tv_lemmas.proofs.Naturals.{nat_eq-tells}
use Rattle.tv_spec_boxes.specs.Configurations.{fillings}
use Rattle.tv_extras.specs.Nodes.{to_fill, legs_of}
use Rattle.tv_extras.proofs.Filled.{outside-none, kept-itself, kept-length, kept-after, none-filled, last-gives, last-keeps, same-from, filled-from, none-from, inside-found, inside-same, inside-gives, gives-found, gives-none, moved-at, step-none, step-same, step-next, fill-after}
use Rattle.tv_extras.proofs.nodes.+filling.Goals as goal

pub next-returns-in_default : goal.next-returns-in_default
next-returns-in_default t c = none-filled c.args.most c.args.nodes.now c.in_default.ensures.cases c.requires

pub next-returns-then-is_empty : goal.next-returns-then-is_empty
next-returns-then-is_empty t c =
    let none = nat_eq-tells _ _ (sym c.is_empty.ensures ∙ c.if-is_empty.true) in
    MatchResult-weaker c.advance_last.result c.advance_last.ensures.moved
    (last-gives c.args.most c.args.nodes.now c.in-Some.later.now c.in-Some.node.now c.advance_last.new.self c.in-Some.ensures.cases.0 none c.requires c.advance_last.ensures.inside)
    (λ y k. last-keeps c.args.most c.args.nodes.now c.in-Some.later.now c.in-Some.node.now c.advance_last.new.self c.in-Some.ensures.cases.0 none c.requires c.advance_last.ensures.inside k)

pub next-returns-in_err-next_inside : goal.next-returns-in_err-next_inside
next-returns-in_err-next_inside t c =
    let most = c.args.most in
    let n = c.sets.node in
    let l = c.sets.later in
    let inv = c.sets.invariant.same in
    let p = err_from_is_err_and c.from_residual.result c.from_residual.ensures.1 in
    rw p.1
    (same-from most c.args.nodes.now (c.in-Some.node.now ∷ c.in-Some.later.now) (n ∷ l) (n ∷ c.next_inside.new.later) c.in-Some.ensures.cases.0 inv
    (inside-same most n l c.next_inside.new.later inv.kept.valid.0 c.in_err-next_inside.ensures))

pub next-returns-then-branch : goal.next-returns-then-branch
next-returns-then-branch t c =
    let most = c.args.most in
    let n = c.sets.node in
    let l = c.sets.later in
    let m = c.next_inside.new.later in
    let inv = c.sets.invariant.same in
    let g = gives-found most n l m c.in_ok-next_inside.field-0 c.if-branch.true c.in_ok-next_inside.ensures in
    filled-from most c.args.nodes.now (c.in-Some.node.now ∷ c.in-Some.later.now) (n ∷ l) (n ∷ m) c.in-Some.ensures.cases.0 inv
    (inside-found most n l m inv.kept.valid.0 g.0 g.1)

pub next-returns-in_err-advance : goal.next-returns-in_err-advance
next-returns-in_err-advance t c =
    let most = c.args.most in
    let n = c.sets.node in
    let l = c.sets.later in
    let m = c.next_inside.new.later in
    let inv = c.sets.invariant.same in
    let g = gives-none most n l m c.in_ok-next_inside.field-0 c.if-branch.false c.in_ok-next_inside.ensures in
    let p = err_from_is_err_and c.from_residual-in_err-advance.result c.from_residual-in_err-advance.ensures.1 in
    rw p.1
    (same-from most c.args.nodes.now (c.in-Some.node.now ∷ c.in-Some.later.now) (n ∷ l) (c.advance.new.self ∷ m) c.in-Some.ensures.cases.0 inv
    (step-same most n c.advance.new.self l m inv.kept.valid.0 c.sets.invariant.some g.0 g.1 g.2 c.in_err-advance.ensures))

pub next-returns-then-not-branch : goal.next-returns-then-not-branch
next-returns-then-not-branch t c =
    let most = c.args.most in
    let n = c.sets.node in
    let l = c.sets.later in
    let m = c.next_inside.new.later in
    let inv = c.sets.invariant.same in
    let g = gives-none most n l m c.in_ok-next_inside.field-0 c.if-branch.false c.in_ok-next_inside.ensures in
    none-from most c.args.nodes.now (c.in-Some.node.now ∷ c.in-Some.later.now) (n ∷ l) (c.advance.new.self ∷ m) c.in-Some.ensures.cases.0 inv
    (step-none most n c.advance.new.self l m inv.kept.valid.0 c.sets.invariant.some g.0 g.1 (moved-at c.in_ok-advance.field-0 false n c.advance.new.self c.if-not-branch.true c.in_ok-advance.ensures))

pub next-sets-preserved : goal.next-sets-preserved
next-sets-preserved t c =
    let most = c.args.most in
    let n = c.sets.node in
    let l = c.sets.later in
    let m = c.next_inside.new.later in
    let u = c.enter.new.nodes in
    let a = c.advance.new.self in
    let inv = c.sets.invariant.same in
    let g = gives-none most n l m c.in_ok-next_inside.field-0 c.if-branch.false c.in_ok-next_inside.ensures in
    let kept = kept-after most l m u g.0 c.enter.ensures.kept in
    let long = kept-length most l u kept in
    let all : to_fill u ≡ fillings (legs_of l) most (a.sets.last - a.sets.size) =
    c.enter.ensures.all ∙ (ap (λ gs. fillings gs most c.left.result) g.0.legs ∙ ap (fillings (legs_of l) most) c.left.ensures.value) in
    record {
      same = fill-after most (c.in-Some.node.now ∷ c.in-Some.later.now) (n ∷ l) (a ∷ u) inv
          (step-next most n a l u inv.kept.valid.0 c.sets.invariant.some kept g.1 (moved-at c.in_ok-advance.field-0 true n a c.if-not-branch.false c.in_ok-advance.ensures) all);
      some = omega (arith, c.sets.invariant.some);
    }

pub next_inside-returns-then-node : goal.next_inside-returns-then-node
next_inside-returns-then-node t c =
    MatchResult-weaker c.next.result c.next.ensures
    (inside-gives c.args.most c.args.node.now c.args.later.now c.next.new.nodes c.if-node.true)
    (λ y k. k)

pub next_inside-returns-else-node : goal.next_inside-returns-else-node
next_inside-returns-else-node t c = (
  kept-itself c.args.most c.args.later.now c.requires,
  outside-none c.args.node.now (to_fill c.args.later.now) c.if-node.false,
  outside-none c.args.node.now (to_fill c.args.later.now) c.if-node.false,
)
