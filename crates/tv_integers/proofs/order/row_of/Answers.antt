use Rattle.std.proofs.Common.{◌≡◌, length, sym, ap, ◌∙◌, arith}
use Rattle.std.specs.List.{AllByRecursion}
use Rattle.tv_lemmas.proofs.Members.{all-onto}
use Rattle.tv_integers.specs.Rows.{ClassRow, IsKeptRow}
use Rattle.tv_integers.proofs.Places.{place_within, values-place, values-gap, values-other_length}
use Rattle.tv_integers.proofs.order.row_of.Goals as goal

pub returns-then-entries-heights : goal.returns-then-entries-heights
returns-then-entries-heights c =
    let hs = c.args.heights.now in let rows = c.args.rows.now in let entries = c.entries.ensures.value in
    let lengths : AllByRecursion (λ (r : ClassRow). length r.class ≡ length hs) rows = all-onto (IsKeptRow hs) (λ (r : ClassRow). length r.class ≡ length hs) (λ r k. k.class.entries) rows c.requires.kept.each in
    record { value = values-other_length (length hs) c.args.class.now rows lengths (λ e. c.if-entries-heights.true (let l = ap length entries in omega arith)) }

pub bounds-rows-place : goal.bounds-rows-place
bounds-rows-place c = place_within c.args.class.now c.args.rows.now c.place_of-place.result (sym c.is_at.ensures.value ∙ c.if-is_at.true)

pub returns-then-is_at : goal.returns-then-is_at
returns-then-is_at c =
    record { value = values-place c.args.heights.now c.args.class.now c.args.rows.now c.place_of-place.result c.index-rows-place.result c.requires.kept.rises c.place_of-place.ensures.place (sym c.is_at.ensures.value ∙ c.if-is_at.true) c.index-rows-place.is }

pub returns-else-is_at : goal.returns-else-is_at
returns-else-is_at c =
    let hs = c.args.heights.now in let v = c.args.class.now in let rows = c.args.rows.now in let entries = c.entries.ensures.value in
    let same : length hs ≡ length v = let l = ap length entries in let e = c.if-entries-heights.false in omega arith in
    let lengths : AllByRecursion (λ (r : ClassRow). length r.class ≡ length v) rows = all-onto (IsKeptRow hs) (λ (r : ClassRow). length r.class ≡ length v) (λ r k. k.class.entries ∙ same) rows c.requires.kept.each in
    record { value = values-gap hs v rows c.place_of-place.result lengths c.requires.kept.rises c.place_of-place.ensures.place (sym c.is_at.ensures.value ∙ c.if-is_at.false) }
