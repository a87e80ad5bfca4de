use Rattle.std.proofs.Common.{◌≡◌, ◌+◌, pos, refl, arith}
use Rattle.tv_laws_series.specs.Terms.{Terms, upto}
use Rattle.tv_spec_boxes.specs.Assignments.{no_legs}
use Rattle.tv_spec_series.specs.Families.{row}
use Rattle.tv_spec_series.specs.ReducedFamilies.{IsDivisor}
use Rattle.tv_reduced.specs.Divisors.{from_zero}
use Rattle.tv_reduced.proofs.Divisors.{is_divisor, from_zero-upto}
use Rattle.tv_reduced.proofs.ZeroRows.{zero_rows, zero_first}
use Rattle.tv_reduced.proofs.Results.{on_ok}
use Rattle.tv_reduced.proofs.divisor.of_family.Goals as goal

pub unreachable-requires : goal.unreachable-requires
unreachable-requires g c =
    let none = c.in-None.ensures.none.0 refl in
    let some = zero_rows g.C.Ring.ring c.args.web.now (pos c.args.order) c.args.zeros.now c.requires.full in
    omega arith

pub returns-clause-divisor : goal.returns-clause-divisor
returns-clause-divisor g c =
    let r = g.C.Ring.ring in let w = c.args.web.now in let s = c.in-Some.entry.series.now in
    let first = zero_first r w (pos c.args.order) c.args.zeros.now (row c.in-Some.entry.class.now s) c.requires.full c.in-Some.ensures.row in
    on_ok c.series_from_zero.result (λ (b : Terms g.row.C.Denot). b ≡ from_zero r s (c.args.order + 1)) (λ b. IsDivisor r w (no_legs w) b)
    (λ b e. rw e (is_divisor g.met.C.Ring.laws w c.requires.graded s c.args.order (λ i h. rw first.0 at (first.1.counts i h)))) c.series_from_zero.ensures.value

pub returns-clause-known : goal.returns-clause-known
returns-clause-known g c =
    let r = g.C.Ring.ring in let w = c.args.web.now in let s = c.in-Some.entry.series.now in
    let first = zero_first r w (pos c.args.order) c.args.zeros.now (row c.in-Some.entry.class.now s) c.requires.full c.in-Some.ensures.row in
    on_ok c.series_from_zero.result (λ (b : Terms g.row.C.Denot). b ≡ from_zero r s (c.args.order + 1)) (λ b. upto b ≡ pos c.args.order)
    (λ b e. rw e (from_zero-upto g.met.C.Ring.laws w c.requires.graded s c.args.order (λ i h. rw first.0 at (first.1.counts i h)))) c.series_from_zero.ensures.value
