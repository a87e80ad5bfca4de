use Rattle.std.proofs.Common.{◌≡◌, ◌≤◌, ap, ◌∙◌, length, arith, w64, to_z, of_z}
use Rattle.std.proofs.lemmas.Int.{ints}
use Rattle.tv_laws_series.specs.Terms.{upto}
use Rattle.tv_spec_series.specs.Families.{Family, row}
use Rattle.tv_frontier.proofs.WithSigns.{signed-known, signed-next, signed-place, put-read, signed-all}
use Rattle.tv_frontier.proofs.signed.signed_part.Goals as goal

pub add_into-requires-clause-place : goal.add_into-requires-clause-place
add_into-requires-clause-place g c = signed-place c.args.part.now c.loop-k.family c.loop-k.k (row c.in-Some.entry.class.now c.in-Some.entry.series.now) c.in_ok-copy.field-0 c.known-2.ensures.family c.in-Some.ensures.row c.loop-k.invariant.heights c.loop-k.invariant.top c.in_ok-copy.ensures.value

pub add_into-requires-clause-known : goal.add_into-requires-clause-known
add_into-requires-clause-known g c =
    let last : upto c.in-Ok.series ≡ to_z w64 (of_z w64 c.args.n) = ap upto c.in-Ok.ensures.value ∙ signed-known g.C.Ring.ring c.args.web.now.points (to_z w64 (of_z w64 c.args.n)) c.in-Some.entry.class.now c.in-Some.entry.series.now in
    let e = c.loop-k.invariant.upto in omega (arith, ints)

pub loop-k-preserved : goal.loop-k-preserved
loop-k-preserved g c =
    let x = row c.in-Some.entry.class.now c.in-Some.entry.series.now in
    record {
      heights = ap (λ (f : Family _). f.heights) c.in-Ok-add_into.ensures.ok ∙ c.loop-k.invariant.heights;
      top = ap (λ (f : Family _). f.top) c.in-Ok-add_into.ensures.ok ∙ c.loop-k.invariant.top;
      upto = ap (λ (f : Family _). f.upto) c.in-Ok-add_into.ensures.ok ∙ c.loop-k.invariant.upto;
      rows = signed-next g.C.Ring.ring c.args.web.now.points c.args.part.now.heights (to_z w64 (of_z w64 c.args.n)) c.args.part.now.rows c.loop-k.family.rows c.add_into.new.self.rows c.loop-k.k x c.in_ok-copy.field-0 c.in-Ok.series c.known-2.ensures.family.rises c.in-Some.ensures.row c.in_ok-copy.ensures.value c.in-Ok.ensures.value c.loop-k.invariant.rows
          (put-read g.C.Ring.ring c.loop-k.family c.add_into.new.self c.args.part.now.heights (to_z w64 (of_z w64 c.args.n)) c.in_ok-copy.field-0 c.in-Ok.series c.in-Ok-add_into.ensures.ok c.loop-k.invariant.heights c.loop-k.invariant.upto);
    }

pub returns-clause-value : goal.returns-clause-value
returns-clause-value g c =
    let past : length c.args.part.now.rows ≤ c.loop-k.k = (let e = c.len-k-end.ensures in let h = c.loop-k-test.false in omega arith) in
    let read : to_z w64 (of_z w64 c.args.n) ≡ c.args.n = (let o = c.requires.order in omega (arith, ints)) in
    signed-all g.C.Ring.ring c.args.web.now.points c.args.n (to_z w64 (of_z w64 c.args.n)) c.loop-k.family c.args.part.now c.loop-k.k read past c.loop-k.invariant.heights c.loop-k.invariant.top c.loop-k.invariant.upto c.loop-k.invariant.rows
