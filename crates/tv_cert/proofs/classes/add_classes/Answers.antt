use Rattle.std.proofs.Common.{◌∙◌, arith, []}
use Rattle.std.proofs.lemmas.List.{take_all}
use Rattle.tv_lemmas.proofs.Members.{all-at}
use Rattle.tv_spec_series.specs.Families.{HasPlace}
use Rattle.tv_cert.proofs.Genera.{numbered}
use Rattle.tv_cert.proofs.Named.{named-none, named-next}
use Rattle.tv_cert.proofs.classes.add_classes.Goals as goal

pub loop-k-init : goal.loop-k-init
loop-k-init c = named-none c.args.family.now (numbered c.args.integers.now)

pub add_class-requires-clause-place : goal.add_class-requires-clause-place
add_class-requires-clause-place c =
    let f = c.args.family.now in let vs = numbered c.args.integers.now in
    let adds = c.loop-k.invariant in
    rw (adds.heights, adds.top, c.in_ok-copy.ensures.value, c.class_number.ensures.class)
    (all-at (HasPlace f.heights f.top) vs [] c.requires.places c.loop-k.k (omega arith))

pub loop-k-preserved : goal.loop-k-preserved
loop-k-preserved c =
    named-next (numbered c.args.integers.now) c.loop-k.k c.in_ok-copy.field-0 c.args.family.now c.loop-k.family c.add_class.new.family
    (omega arith) (c.in_ok-copy.ensures.value ∙ c.class_number.ensures.class) c.loop-k.invariant c.in_ok-add_class.ensures.added

pub returns : goal.returns
returns c =
    let vs = numbered c.args.integers.now in
    record { added = rw (take_all c.loop-k.k vs (omega arith)) at c.loop-k.invariant }
