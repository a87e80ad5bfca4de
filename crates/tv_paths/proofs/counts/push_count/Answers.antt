use Rattle.std.proofs.Common.{◌≡◌, sym, ◌∙◌, ap, rules}
use Rattle.tv_slices.specs.Rows.{is_reached}
use Rattle.tv_ring.specs.Sums.{at}
use Rattle.tv_paths.proofs.Entries.{count-on, count-off}
use Rattle.tv_paths.proofs.counts.push_count.Goals as goal

pub returns-in_ok-push-clause-value : goal.returns-in_ok-push-clause-value
returns-in_ok-push-clause-value g c =
    let copied : c.in_ok-clone.field-0 ≡ c.args.slice.now = search rules in
    count-on g.C.Ring.ring c.args.slice.now c.in_ok-clone.field-0 c.args.row.now c.args.cost c.in_ok-count.count c.push.new.self.items c.args.all.now.items
    (ap (λ ms. is_reached ms c.args.cost) (sym c.as_slice.ensures.value) ∙ (sym c.is_reached.ensures ∙ c.if-is_reached.true)) copied (c.in_ok-count.ensures.value ∙ ap (λ xs. at g.C.Ring.ring xs c.args.cost) c.as_slice-then-is_reached.ensures.value) c.in_ok-push.ensures.items

pub returns-else-is_reached-clause-value : goal.returns-else-is_reached-clause-value
returns-else-is_reached-clause-value g c =
    count-off g.C.Ring.ring c.args.slice.now c.args.row.now c.args.cost c.args.all.now.items
    (ap (λ ms. is_reached ms c.args.cost) (sym c.as_slice.ensures.value) ∙ (sym c.is_reached.ensures ∙ c.if-is_reached.false))
