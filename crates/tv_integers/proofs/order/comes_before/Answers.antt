use Rattle.std.proofs.Common.{◌≡◌, rules, refl, ap, w64, of_z, SFits, int_lt, arith}
use Rattle.std.proofs.lemmas.Int.{ints, to_z-of_z}
use Rattle.tv_graded.proofs.Degrees.{before_entries, before_degrees}
use Rattle.tv_integers.proofs.order.comes_before.Goals as goal

pub returns-then-degree-other : goal.returns-then-degree-other
returns-then-degree-other c =
    let d = c.degree-degree.result in let e = c.degree-other.result in
    let same : d ≡ e = let t = c.if-degree-other.true in let fd = c.degree-degree.type_inv in let fe = c.degree-other.type_inv in omega (arith, ints) in
    record { value = before_entries c.args.heights.now c.args.first.now c.args.second.now _ _ d e _ c.degree-degree.ensures c.degree-other.ensures same c.entries.ensures.value c.entries-then-degree-other.ensures.value c.entries_before.ensures.value }

pub returns-else-degree-other : goal.returns-else-degree-other
returns-else-degree-other c =
    let d = c.degree-degree.result in let e = c.degree-other.result in
    let fd : SFits w64 d = search rules in let fe : SFits w64 e = search rules in
    record { value = rw (to_z-of_z w64 d fd, to_z-of_z w64 e fe) (before_degrees c.args.heights.now c.args.first.now c.args.second.now d e (int_lt d e) c.degree-degree.ensures c.degree-other.ensures (λ k. c.if-degree-other.false (ap (of_z w64) k)) refl) }
