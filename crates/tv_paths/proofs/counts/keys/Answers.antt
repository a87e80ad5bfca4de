use Rattle.std.proofs.Common.{◌≡◌, true, false, sym, ◌∙◌, ap, arith, rules}
use Rattle.tv_paths.proofs.Entries.{keys-next}
use Rattle.tv_paths.proofs.counts.keys.Goals as goal
use Rattle.tv_paths.proofs.counts.keys.Goals.{in-Some+in_ok-clone+in_ok-push, in_default}

pub loop-i-preserved : goal.loop-i-preserved
loop-i-preserved g c = elim c.match-get_index.branch [
  | in-Some+in_ok-clone+in_ok-push w ↦
      let copied : w.in_ok-clone.field-0 ≡ w.in-Some.slice.now = search rules in
      ap (λ ks. ks.items) w.keys-is ∙ keys-next c.args.table.now.entries c.loop-i.i w.in-Some.slice.now _ w.in_ok-clone.field-0 w.push.new.self.items c.loop-i.keys.items (sym w.in-Some.ensures.entry) copied w.in_ok-push.ensures.items c.loop-i.invariant
  | in_default w ↦ absurd (let off : false ≡ true = w.in_default.ensures.found.1 (omega arith) in cc)
]
