use Rattle.std.proofs.Common.{◌++◌, [], ◌∷◌, sym, ◌∙◌, ap, append_assoc}
use Rattle.std.specs.Vec.Iter.{into_iter_items}
use Rattle.tv_candidates.proofs.Adding.{added_more}
use Rattle.tv_candidates.proofs.insertion.add_classes.Goals as goal

pub loop-class-preserved : goal.loop-class-preserved
loop-class-preserved c =
    let before = c.loop-class.yielded in let v = c.in-Some.class in
    record {
      can = tt;
      finite = tt;
      whole = append_assoc before (v ∷ []) (into_iter_items c.next.new.self) ∙
          (ap (λ vs. before ++ vs) (sym c.in-Some.ensures.steps.0) ∙ c.loop-class.invariant.whole);
      added = added_more before v c.args.family.now c.loop-class.family c.add_class.new.family
          c.loop-class.invariant.added c.in_ok-add_class.ensures.added;
    }
