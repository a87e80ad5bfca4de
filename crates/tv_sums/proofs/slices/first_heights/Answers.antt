use Rattle.std.proofs.Common.{◌≡◌, ◌+◌, ◌++◌, ◌∷◌, [], true, false, take, sym, ap, ◌∙◌, subst, arith}
use Rattle.std.specs.Map.{keys_of}
use Rattle.tv_laws_sums.specs.Laws.{IsLow}
use Rattle.tv_slices.proofs.Levels.{got, row-of, suits-of}
use Rattle.tv_slices.proofs.Neighbours.{take-next, take-whole}
use Rattle.tv_sums.specs.Parts.{all_done, IsPart}
use Rattle.tv_sums.proofs.First.{part-none, key-got, keys-next}
use Rattle.tv_sums.proofs.slices.first_heights.Goals as goal
use Rattle.tv_sums.proofs.slices.first_heights.Goals.{in-Some+in_ok-push_first, in_default}

pub loop-j-init : goal.loop-j-init
loop-j-init g c = λ t e table low. part-none g.C.Ring.ring c.args.legs.now t c.args.plan c.new-all.result.entries c.new-all.ensures.empty

pub loop-j-preserved : goal.loop-j-preserved
loop-j-preserved g c = λ t e table low.
    let r = g.C.Ring.ring in let legs = c.args.legs.now in let plan = c.args.plan in let es = c.args.table.now.entries in let are = c.known.ensures.diagrams in
    elim c.match-get_index.branch [
      | in-Some+in_ok-push_first w ↦
          let a = w.in-Some.a.now in let row = w.in-Some.row.now in
          let entry = sym w.in-Some.ensures.entry in
          let here = got es c.loop-j.j (a, row) entry in
          let fit = suits-of r legs plan.k t are es table c.loop-j.j a row entry in
          let has = row-of r legs plan.k t are es table a row w.in-Some.ensures.value fit in
          let next : keys_of (take c.loop-j.j es) ++ a ∷ [] ≡ keys_of (take (c.loop-j.j + 1) es) = sym (ap keys_of (take-next es c.loop-j.j (a, row) here.0 here.1) ∙ keys-next (take c.loop-j.j es) a row) in
          let pushed = w.in_ok-push_first.ensures t (keys_of (take c.loop-j.j es)) e (key-got (IsLow plan.top plan.n) es c.loop-j.j a row low entry) has (c.loop-j.invariant t e table low) in
          subst (λ m. IsPart r legs t plan 0 (keys_of (take (c.loop-j.j + 1) es)) all_done m.entries) (sym w.all-is)
          (subst (λ ks. IsPart r legs t plan 0 ks all_done w.push_first.new.all.entries) next pushed)
      | in_default w ↦ absurd (let off : false ≡ true = w.in_default.ensures.found.1 (omega arith) in cc)
    ]

pub returns : goal.returns
returns g c = λ t e table low.
    subst (λ xs. IsPart g.C.Ring.ring c.args.legs.now t c.args.plan 0 (keys_of xs) all_done c.loop-j.all.entries) (take-whole c.args.table.now.entries c.loop-j.j (omega arith)) (c.loop-j.invariant t e table low)
