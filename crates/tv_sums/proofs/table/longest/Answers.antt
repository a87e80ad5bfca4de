use Rattle.std.proofs.Common.{◌≡◌, ℕ, ◌<◌, ◌≤◌, ◌^◌, true, false, take, sym, ap, ◌∙◌, subst, arith}
use Rattle.std.specs.Prelude.{max}
use Rattle.std.specs.List.{AllByRecursion}
use Rattle.tv_lemmas.proofs.Members.{all-onto}
use Rattle.tv_spec_slices.specs.Slices.{reach}
use Rattle.tv_slices.proofs.Levels.{got}
use Rattle.tv_slices.proofs.Neighbours.{take-next}
use Rattle.tv_sums.proofs.Done.{all-got, all-push}
use Rattle.tv_sums.proofs.table.longest.Goals as goal
use Rattle.tv_sums.proofs.table.longest.Goals.{in-Some, in_default}

greater : (x y z : ℕ) → z ≡ max x y → x ≤ z
greater x y z e = omega arith

wider : (x y z v : ℕ) → z ≡ max x y → v ≤ y → v ≤ z
wider x y z v e l = omega arith

most : (m x y z : ℕ) → z ≡ max x y → x < m → y < m → z < m
most m x y z e l n = omega arith

least : (x y z m : ℕ) → z ≡ max x y → x ≤ m → y ≤ m → z ≤ m
least x y z m e l n = omega arith

pub loop-j-preserved : goal.loop-j-preserved
loop-j-preserved g c =
    let es = c.args.table.now.entries in let old = c.loop-j.most in
    elim c.match-get_index.branch [
      | in-Some w ↦
          let entry = sym w.in-Some.ensures.entry in
          let here = got es c.loop-j.j _ entry in
          let a = w.in-Some.a.now in let new = c.match-get_index.most in
          let is : new ≡ max (reach a) old = w.most-is ∙ (w.max-most.ensures ∙ ap (λ v. max v old) w.reach.ensures.value) in
          let second : reach a ≤ new = greater (reach a) old new is in
          let bound : new < 2 ^ 31 = most (2 ^ 31) (reach a) old new is (subst (λ v. v < 2 ^ 31) w.reach.ensures.value w.reach.ensures.bound) c.loop-j.invariant.0 in (
            bound,
            (
              subst (AllByRecursion (λ e. reach e.0 ≤ new)) (sym (take-next es c.loop-j.j _ here.0 here.1)) (all-push (λ e. reach e.0 ≤ new) (take c.loop-j.j es) _ (all-onto (λ e. reach e.0 ≤ old) (λ e. reach e.0 ≤ new) (λ e l. wider (reach a) old new (reach e.0) is l) (take c.loop-j.j es) c.loop-j.invariant.1.0) second),
              λ m all. least (reach a) old new m is (all-got (λ e. reach e.0 ≤ m) es c.loop-j.j _ all entry) (c.loop-j.invariant.1.1 m all),
            ),
          )
      | in_default w ↦ absurd (let off : false ≡ true = w.in_default.ensures.found.1 (omega arith) in cc)
    ]
