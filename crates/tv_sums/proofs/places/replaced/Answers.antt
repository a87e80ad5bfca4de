use Rattle.std.proofs.Common.{◌≡◌, ◌+◌, suc, ℤ, Bool, true, false, List, take, sym, ap, subst, arith}
use Rattle.std.specs.List.{AllByRecursion}
use Rattle.tv_lemmas.proofs.Members.{all-onto}
use Rattle.tv_spec_slices.specs.Slices.{Shape, at}
use Rattle.tv_slices.specs.declared.row.Row.{Row}
use Rattle.tv_slices.proofs.Levels.{got}
use Rattle.tv_slices.proofs.Neighbours.{take-next, take-whole}
use Rattle.tv_laws_sums.specs.Laws.{AreLow}
use Rattle.tv_sums.specs.Plans.{plan_for, are_fit}
use Rattle.tv_sums.specs.Keys.{IsKey, opened}
use Rattle.tv_sums.specs.Parts.{all_done, grouped, IsPart}
use Rattle.tv_sums.proofs.Walked.{lawful}
use Rattle.tv_sums.proofs.Done.{all-got, all-push, part-empty, part-whole}
use Rattle.tv_sums.proofs.places.replaced.Goals as goal
use Rattle.tv_sums.proofs.places.replaced.Goals.{in-Some+in_ok-push_group, in_default}

pub loop-j-init : goal.loop-j-init
loop-j-init g c = (
  tt,
  λ t slices e low part. part-empty g.C.Ring.ring c.args.legs.now t c.args.plan (suc c.args.i) slices (grouped c.args.plan c.args.i c.new-done.result.entries) c.new-next.result.entries c.new-next.ensures.empty
      (λ s. ap (λ rows. grouped c.args.plan c.args.i rows s) c.new-done.ensures.empty),
)

pub loop-j-preserved : goal.loop-j-preserved
loop-j-preserved g c =
    let plan = c.args.plan in let i = c.args.i in let es = c.args.table.now.entries in
    elim c.match-get_index.branch [
      | in-Some+in_ok-push_group w ↦
          let entry = sym w.in-Some.ensures.entry in
          let here = got es c.loop-j.j _ entry in
          let marked = w.push_group.new.done.entries in
          let all = subst (AllByRecursion (λ e. grouped plan i marked e.0 ≡ true)) (sym (take-next es c.loop-j.j _ here.0 here.1))
          (all-push (λ e. grouped plan i marked e.0 ≡ true) (take c.loop-j.j es) _
          (all-onto (λ e. grouped plan i c.loop-j.done.entries e.0 ≡ true) (λ e. grouped plan i marked e.0 ≡ true) (λ e h. w.in_ok-push_group.ensures.keeps (opened plan i e.0) h) (take c.loop-j.j es) c.loop-j.invariant.0)
          w.in_ok-push_group.ensures.found) in
          let M : List (Shape × Bool) → List (Shape × Row g.row.C.Denot) → Type 0 = λ marked next.
          AllByRecursion (λ e. grouped plan i marked e.0 ≡ true) (take (c.loop-j.j + 1) es)
          × ((t : ℤ) (slices : List Shape) → plan ≡ plan_for plan.k t plan.top plan.n → AreLow plan.top plan.n slices → IsPart g.C.Ring.ring c.args.legs.now t plan i slices all_done es →
          IsPart g.C.Ring.ring c.args.legs.now t plan (suc i) slices (grouped plan i marked) next) in
          let both : M marked w.push_group.new.next.entries = (
            all,
            λ t slices e low part.
                let key_here = all-got (λ e. IsKey plan.top plan.n e.0 × (are_fit c.args.legs.now plan i (at e.0) ≡ true)) es c.loop-j.j _ part.keys entry in
                w.in_ok-push_group.ensures.table t slices e low key_here.0 key_here.1 part (c.loop-j.invariant.1 t slices e low part),
          ) in
          subst (λ d. M d.entries c.match-get_index.next.entries) (sym w.done-is) (subst (λ n. M marked n.entries) (sym w.next-is) both)
      | in_default w ↦ absurd (let off : false ≡ true = w.in_default.ensures.found.1 (omega arith) in cc)
    ]

pub returns : goal.returns
returns g c = λ t slices e low part.
    part-whole g.C.Ring.ring c.args.legs.now t c.args.plan c.args.i slices c.args.table.now.entries c.loop-j.next.entries c.loop-j.done.entries (lawful c.args.legs.now t c.args.plan e) c.requires.some low part
    (subst (AllByRecursion (λ e. grouped c.args.plan c.args.i c.loop-j.done.entries e.0 ≡ true)) (take-whole c.args.table.now.entries c.loop-j.j (omega arith)) c.loop-j.invariant.0) (c.loop-j.invariant.1 t slices e low part)
