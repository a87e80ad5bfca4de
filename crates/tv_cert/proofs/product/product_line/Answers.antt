use Rattle.std.proofs.Common.{ap, ◌∙◌, ◌≡◌, ◌+◌, [], length, map, slice_index_or}
use Rattle.std.proofs.lemmas.List.{get_or_default}
use Rattle.tv_recurrence.specs.Parts.{parts_size}
use Rattle.tv_class_parts.specs.ReadClasses.{ReadClass, part_of}
use Rattle.tv_cert.proofs.PowerLines.{fault-below, fault-is}
use Rattle.tv_cert.proofs.Compared.{class-at, lines-lengths, can-be, degree-positive, exact, product-line, sums-wide, row-wide}
use Rattle.tv_cert.proofs.product.product_line.Goals as goal

pub degree_in-degree-requires-clause-class : goal.degree_in-degree-requires-clause-class
degree_in-degree-requires-clause-class c =
    let same : c.index-classes-k.result ≡ slice_index_or c.args.classes.now c.args.k [] = c.index-classes-k.is ∙ get_or_default c.args.classes.now c.args.k c.index-classes-k.result [] c.requires.within in
    rw same (class-at c.args.report.now.series c.args.report.now.integers c.args.slope c.args.classes.now c.requires.plan c.args.k c.requires.within)

pub quotients-requires-clause-lines : goal.quotients-requires-clause-lines
quotients-requires-clause-lines c =
    let same : c.index-classes-k.result ≡ slice_index_or c.args.classes.now c.args.k [] = c.index-classes-k.is ∙ get_or_default c.args.classes.now c.args.k c.index-classes-k.result [] c.requires.within in
    rw (c.entries.ensures.value, same) (lines-lengths c.args.report.now.series c.args.report.now.integers c.args.slope c.args.classes.now c.requires.plan c.args.k c.requires.within c.args.lines.now c.requires.table)

pub quotients-requires-clause-powers : goal.quotients-requires-clause-powers
quotients-requires-clause-powers c =
    let same : c.index-classes-k.result ≡ slice_index_or c.args.classes.now c.args.k [] = c.index-classes-k.is ∙ get_or_default c.args.classes.now c.args.k c.index-classes-k.result [] c.requires.within in
    rw (c.entries.ensures.value, same) (can-be c.args.report.now.series c.args.report.now.integers c.args.slope c.args.classes.now c.requires.plan c.args.k c.requires.within c.args.lines.now c.requires.table c.args.powers.now c.requires.powers c.degree_in-degree.result (rw same at c.degree_in-degree.ensures.value))

pub quotients-requires-clause-positive : goal.quotients-requires-clause-positive
quotients-requires-clause-positive c =
    let same : c.index-classes-k.result ≡ slice_index_or c.args.classes.now c.args.k [] = c.index-classes-k.is ∙ get_or_default c.args.classes.now c.args.k c.index-classes-k.result [] c.requires.within in
    degree-positive c.args.report.now.series c.args.report.now.integers c.args.slope c.args.classes.now c.requires.plan c.args.k c.requires.within c.args.lines.now c.requires.table c.args.powers.now c.requires.powers c.degree_in-degree.result (rw same at c.degree_in-degree.ensures.value)

pub quotients-requires-clause-exact : goal.quotients-requires-clause-exact
quotients-requires-clause-exact c =
    let same : c.index-classes-k.result ≡ slice_index_or c.args.classes.now c.args.k [] = c.index-classes-k.is ∙ get_or_default c.args.classes.now c.args.k c.index-classes-k.result [] c.requires.within in
    rw (c.entries.ensures.value, same, c.last_weight-last.ensures.value) (exact c.args.report.now.series c.args.report.now.integers c.args.slope c.args.classes.now c.requires.plan c.args.k c.requires.within c.args.lines.now c.requires.table c.args.powers.now c.requires.powers c.degree_in-degree.result (rw same at c.degree_in-degree.ensures.value))

pub returns-in_ok-copy-in-Ok-clause-class : goal.returns-in_ok-copy-in-Ok-clause-class
returns-in_ok-copy-in-Ok-clause-class c =
    let same : c.index-classes-k.result ≡ slice_index_or c.args.classes.now c.args.k [] = c.index-classes-k.is ∙ get_or_default c.args.classes.now c.args.k c.index-classes-k.result [] c.requires.within in
    ap (λ (l : ReadClass). l.class) c.new-in-Ok.ensures.value ∙ (c.in_ok-copy-in-Ok.ensures.value ∙ same)

pub returns-in_ok-copy-in-Ok-clause-count : goal.returns-in_ok-copy-in-Ok-clause-count
returns-in_ok-copy-in-Ok-clause-count c =
    let same : c.index-classes-k.result ≡ slice_index_or c.args.classes.now c.args.k [] = c.index-classes-k.is ∙ get_or_default c.args.classes.now c.args.k c.index-classes-k.result [] c.requires.within in
    ap (λ (l : ReadClass). length l.row) c.new-in-Ok.ensures.value ∙ (c.in-Ok.ensures.value.count ∙ ap (λ m. m + 1) c.last_weight-last.ensures.value)

pub returns-in_ok-copy-in-Ok-clause-product : goal.returns-in_ok-copy-in-Ok-clause-product
returns-in_ok-copy-in-Ok-clause-product c =
    let same : c.index-classes-k.result ≡ slice_index_or c.args.classes.now c.args.k [] = c.index-classes-k.is ∙ get_or_default c.args.classes.now c.args.k c.index-classes-k.result [] c.requires.within in
    product-line c.args.report.now.series c.args.report.now.integers c.args.slope c.args.classes.now c.requires.plan c.args.k c.requires.within c.args.lines.now c.requires.table c.args.powers.now c.requires.powers c.degree_in-degree.result (rw same at c.degree_in-degree.ensures.value) c.new-in-Ok.result (ap (λ (l : ReadClass). l.class) c.new-in-Ok.ensures.value ∙ (c.in_ok-copy-in-Ok.ensures.value ∙ same)) (ap (λ (l : ReadClass). l.degree) c.new-in-Ok.ensures.value)
    (rw c.new-in-Ok.ensures.value (rw (c.entries.ensures.value, same, c.last_weight-last.ensures.value) at c.in-Ok.ensures.value))

pub fault_at-requires-clause-weight : goal.fault_at-requires-clause-weight
fault_at-requires-clause-weight c =
    let same : c.index-classes-k.result ≡ slice_index_or c.args.classes.now c.args.k [] = c.index-classes-k.is ∙ get_or_default c.args.classes.now c.args.k c.index-classes-k.result [] c.requires.within in
    fault-below c.args.report.now.series c.args.report.now.integers c.args.slope c.args.classes.now c.requires.plan (slice_index_or c.args.classes.now c.args.k []) (class-at c.args.report.now.series c.args.report.now.integers c.args.slope c.args.classes.now c.requires.plan c.args.k c.requires.within) c.degree_in-degree.result c.base_of.result (rw same at c.degree_in-degree.ensures.value) c.base_of.ensures.value (λ t. parts_size t (map (part_of c.args.lines.now (slice_index_or c.args.classes.now c.args.k []) c.degree_in-degree.result) c.args.powers.now)) c.in-Err.fault (row-wide (map (part_of c.args.lines.now (slice_index_or c.args.classes.now c.args.k []) c.degree_in-degree.result) c.args.powers.now) _ c.in-Err.fault (rw (c.entries.ensures.value, same, c.last_weight-last.ensures.value) at c.in-Err.ensures.wide))

pub returns-in_ok-copy-in-Err-clause-fault : goal.returns-in_ok-copy-in-Err-clause-fault
returns-in_ok-copy-in-Err-clause-fault c =
    let same : c.index-classes-k.result ≡ slice_index_or c.args.classes.now c.args.k [] = c.index-classes-k.is ∙ get_or_default c.args.classes.now c.args.k c.index-classes-k.result [] c.requires.within in
    fault-is c.args.report.now.series c.args.report.now.integers c.args.slope c.args.classes.now c.requires.plan (slice_index_or c.args.classes.now c.args.k []) (class-at c.args.report.now.series c.args.report.now.integers c.args.slope c.args.classes.now c.requires.plan c.args.k c.requires.within) c.degree_in-degree.result c.base_of.result (rw same at c.degree_in-degree.ensures.value) c.base_of.ensures.value (λ t. parts_size t (map (part_of c.args.lines.now (slice_index_or c.args.classes.now c.args.k []) c.degree_in-degree.result) c.args.powers.now)) (sums-wide c.args.report.now.series c.args.report.now.integers c.args.slope c.args.classes.now c.requires.plan c.args.k c.requires.within c.args.lines.now c.requires.table c.args.powers.now c.requires.powers c.degree_in-degree.result (rw same at c.degree_in-degree.ensures.value) c.base_of.result c.base_of.ensures.value) c.in-Err.fault _ (row-wide (map (part_of c.args.lines.now (slice_index_or c.args.classes.now c.args.k []) c.degree_in-degree.result) c.args.powers.now) _ c.in-Err.fault (rw (c.entries.ensures.value, same, c.last_weight-last.ensures.value) at c.in-Err.ensures.wide))
    (rw (c.in_ok-copy-in-Err.ensures.value, same) at c.fault_at.ensures.value)
