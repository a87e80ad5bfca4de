use Rattle.std.proofs.Common.{rules, ◌∙◌, ◌≡◌, [], slice_index_or, w64, SFits}
use Rattle.std.proofs.lemmas.Int.{to_z-of_z}
use Rattle.std.proofs.lemmas.List.{get_or_default}
use Rattle.tv_cert.proofs.Compared.{class-at, computed-none, computed-more, agree-more, verified, first-difference}
use Rattle.tv_cert.proofs.Planned.{row-room}
use Rattle.tv_cert.proofs.verification.compare_classes.Goals as goal

pub loop-k-init : goal.loop-k-init
loop-k-init c = record {
  computed = rw c.in_ok-lines.ensures.value (computed-none c.args.report.now.series c.args.report.now.integers c.args.slope c.args.classes.now c.requires.plan);
  agree = tt;
}

pub first_difference-requires-clause-room : goal.first_difference-requires-clause-room
first_difference-requires-clause-room c =
    let same : c.index-classes-k.result ≡ slice_index_or c.args.classes.now c.loop-k.k [] =
    c.index-classes-k.is ∙ get_or_default c.args.classes.now c.loop-k.k c.index-classes-k.result [] c.loop-k-test.true in
    let degree = rw same at c.degree_in.ensures.value in
    rw c.row.ensures.value (row-room c.args.report.now.series c.args.report.now.integers c.args.slope c.args.classes.now c.requires.plan (slice_index_or c.args.classes.now c.loop-k.k []) (class-at c.args.report.now.series c.args.report.now.integers c.args.slope c.args.classes.now c.requires.plan c.loop-k.k c.loop-k-test.true)
    c.degree_in.result c.base_of-base.result degree c.base_of-base.ensures.value c.in_ok-line.line.row c.in_ok-line.ensures.count)

pub loop-k-preserved : goal.loop-k-preserved
loop-k-preserved c =
    let same : c.index-classes-k.result ≡ slice_index_or c.args.classes.now c.loop-k.k [] =
    c.index-classes-k.is ∙ get_or_default c.args.classes.now c.loop-k.k c.index-classes-k.result [] c.loop-k-test.true in
    let other : c.index-classes-k-in-loop-k.result ≡ slice_index_or c.args.classes.now c.loop-k.k [] =
    c.index-classes-k-in-loop-k.is ∙ get_or_default c.args.classes.now c.loop-k.k c.index-classes-k-in-loop-k.result [] c.loop-k-test.true in
    let degree = rw same at c.degree_in.ensures.value in
    record {
      computed = computed-more c.args.report.now.series c.args.report.now.integers c.args.slope c.args.classes.now c.requires.plan c.loop-k.k c.loop-k.lines.items c.push.new.self.items c.in_ok-line.line c.loop-k-test.true c.loop-k.invariant.computed c.in_ok-line.ensures.class c.in_ok-line.ensures.product c.in_ok-push.ensures.items;
      agree = agree-more c.args.report.now.series c.args.report.now.integers c.args.slope c.args.classes.now c.requires.plan c.loop-k.k c.loop-k-test.true c.in_ok-line.line c.in_ok-line.ensures.class c.in_ok-line.ensures.product c.degree_in.result c.base_of-base.result degree c.base_of-base.ensures.value c.loop-k.invariant.agree (rw (other, c.row.ensures.value) at c.in_default.ensures.found);
    }

pub returns-in-Some-clause-verdict : goal.returns-in-Some-clause-verdict
returns-in-Some-clause-verdict c =
    let same : c.index-classes-k.result ≡ slice_index_or c.args.classes.now c.loop-k.k [] =
    c.index-classes-k.is ∙ get_or_default c.args.classes.now c.loop-k.k c.index-classes-k.result [] c.loop-k-test.true in
    let other : c.index-classes-k-in-loop-k.result ≡ slice_index_or c.args.classes.now c.loop-k.k [] =
    c.index-classes-k-in-loop-k.is ∙ get_or_default c.args.classes.now c.loop-k.k c.index-classes-k-in-loop-k.result [] c.loop-k-test.true in
    let third : c.index-classes-k-in-Some.result ≡ slice_index_or c.args.classes.now c.loop-k.k [] =
    c.index-classes-k-in-Some.is ∙ get_or_default c.args.classes.now c.loop-k.k c.index-classes-k-in-Some.result [] c.loop-k-test.true in
    let degree = rw same at c.degree_in.ensures.value in
    let fits : SFits w64 c.in-Some.difference.exponent = search rules in
    rw (c.in_ok-copy.ensures.value, third, to_z-of_z w64 c.in-Some.difference.exponent fits)
    (first-difference c.args.report.now.series c.args.report.now.integers c.args.slope c.args.classes.now c.requires.plan c.loop-k.k c.loop-k-test.true c.in_ok-line.line c.in_ok-line.ensures.class c.in_ok-line.ensures.product c.degree_in.result c.base_of-base.result degree c.base_of-base.ensures.value c.loop-k.invariant.agree c.in-Some.difference (rw (other, c.row.ensures.value) at c.in-Some.ensures.found))

pub returns-clause-verdict : goal.returns-clause-verdict
returns-clause-verdict c =
    verified c.args.report.now.series c.args.report.now.integers c.args.slope c.args.classes.now c.requires.plan c.loop-k.k c.loop-k-test.false c.loop-k.invariant.agree
