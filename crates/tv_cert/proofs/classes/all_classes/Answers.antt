use Rattle.std.specs.List.{AllByRecursion}
use Rattle.std.proofs.lemmas.Result.{IfOk-weaker}
use Rattle.tv_lemmas.specs.Naturals.{as_natural}
use Rattle.tv_laws_integers.specs.Closed.{IsClosedList, IsListed}
use Rattle.tv_gv.specs.Extracted.{degree_to}
use Rattle.tv_cert.proofs.Named.{numbered-placed, named-small, named-closed, named-listed}
use Rattle.tv_cert.proofs.classes.all_classes.Goals as goal

pub add_classes-requires-clause-places : goal.add_classes-requires-clause-places
add_classes-requires-clause-places c =
    rw c.in_ok-named.ensures.value
    (numbered-placed c.args.report.now.series c.args.report.now.integers c.requires.checkable c.known-2.ensures.kept)

pub closed_list-requires-clause-small : goal.closed_list-requires-clause-small
closed_list-requires-clause-small c =
    named-small c.args.report.now.series c.args.report.now.integers c.requires.checkable c.known-2.ensures.kept
    c.known.ensures.family c.add_classes.new.family (rw c.in_ok-named.ensures.value at c.in_ok-add_classes.ensures.added)

pub returns-clause-closed : goal.returns-clause-closed
returns-clause-closed c =
    let f = c.args.report.now.series in let g = c.add_classes.new.family in
    IfOk-weaker c.closed_list.result (λ list. IsClosedList (as_natural g.top) g list.items)
    (λ list. IsClosedList (degree_to f) f list.items)
    (λ list closed. named-closed f c.args.report.now.integers c.requires.checkable c.known-2.ensures.kept c.known.ensures.family g
    (rw c.in_ok-named.ensures.value at c.in_ok-add_classes.ensures.added) list.items closed) c.closed_list.ensures.value

pub returns-clause-listed : goal.returns-clause-listed
returns-clause-listed c =
    let f = c.args.report.now.series in let g = c.add_classes.new.family in
    IfOk-weaker c.closed_list.result (λ list. IsClosedList (as_natural g.top) g list.items)
    (λ list. AllByRecursion (IsListed list.items) c.args.report.now.integers.integers)
    (λ list closed. named-listed f c.args.report.now.integers c.requires.checkable c.known-2.ensures.kept c.known.ensures.family g
    (rw c.in_ok-named.ensures.value at c.in_ok-add_classes.ensures.added) list.items closed) c.closed_list.ensures.value
