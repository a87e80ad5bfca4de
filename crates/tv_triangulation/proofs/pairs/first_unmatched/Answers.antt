use Rattle.std.proofs.Common.{◌≡◌, ◌+◌, true, take, subst, sym, ◌∙◌}
use Rattle.tv_triangulation.proofs.Earliest.{IsEarliest, earliest-more-skips, earliest-more-takes, earliest-all}
use Rattle.tv_triangulation.proofs.Matching.{IsAlone, unmatched-pair}
use Rattle.tv_triangulation.proofs.pairs.first_unmatched.Goals as goal
use Rattle.tv_triangulation.proofs.pairs.first_unmatched.Goals.{then-is_unmatched, else-is_unmatched}

pub loop-s-preserved : goal.loop-s-preserved
loop-s-preserved c =
    let xs = c.args.edges.now in let hull = c.args.hull.now in let i = c.loop-s.s-index in let first = c.loop-s.first in
    elim c.if-is_unmatched.branch [
      | then-is_unmatched w ↦ subst (IsEarliest (IsAlone xs hull) (take (i + 1) xs)) (sym (w.first-is ∙ w.earlier-first.ensures)) (earliest-more-takes (IsAlone xs hull) xs i first c.loop-s-test.true c.loop-s.invariant (c.is_unmatched.ensures.0 w.if-is_unmatched.true))
      | else-is_unmatched w ↦ subst (IsEarliest (IsAlone xs hull) (take (i + 1) xs)) (sym w.first-is) (earliest-more-skips (IsAlone xs hull) xs i first c.loop-s-test.true c.loop-s.invariant (λ alone. let is : c.is_unmatched.result ≡ true = c.is_unmatched.ensures.1 alone in let not = w.if-is_unmatched.false in cc))
    ]

pub returns : goal.returns
returns c = unmatched-pair c.args.hull.now c.args.edges.now c.loop-s.first (earliest-all (IsAlone c.args.edges.now c.args.hull.now) c.args.edges.now c.loop-s.s-index c.loop-s.first c.loop-s-test.false c.loop-s.invariant)
