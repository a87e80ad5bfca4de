use Rattle.std.proofs.Common.{◌≡◌, ◌+◌, true, take, subst, sym, ◌∙◌}
use Rattle.tv_triangulation.proofs.Earliest.{IsEarliest, earliest-more-skips, earliest-more-takes, earliest-all}
use Rattle.tv_triangulation.proofs.Matching.{IsLeft, bare-pair}
use Rattle.tv_triangulation.proofs.pairs.first_bare.Goals as goal
use Rattle.tv_triangulation.proofs.pairs.first_bare.Goals.{then-not-contains, else-not-contains}

pub loop-s-preserved : goal.loop-s-preserved
loop-s-preserved c =
    let es = c.args.edges.now in let xs = c.args.hull.now in let i = c.loop-s.s-index in let first = c.loop-s.first in
    elim c.if-not-contains.branch [
      | then-not-contains w ↦ subst (IsEarliest (IsLeft es) (take (i + 1) xs)) (sym (w.first-is ∙ w.earlier-first.ensures)) (earliest-more-takes (IsLeft es) xs i first c.loop-s-test.true c.loop-s.invariant (λ among. let is : c.contains.result ≡ true = c.contains.ensures.1 among in let not = w.if-not-contains.true in cc))
      | else-not-contains w ↦ subst (IsEarliest (IsLeft es) (take (i + 1) xs)) (sym w.first-is) (earliest-more-skips (IsLeft es) xs i first c.loop-s-test.true c.loop-s.invariant (λ left. left (c.contains.ensures.0 w.if-not-contains.false)))
    ]

pub returns : goal.returns
returns c = bare-pair c.args.hull.now c.args.edges.now c.loop-s.first (earliest-all (IsLeft c.args.edges.now) c.args.hull.now c.loop-s.s-index c.loop-s.first c.loop-s-test.false c.loop-s.invariant)
