use Rattle.std.proofs.Common.{◌≡◌, ◌*ℤ◌, ◌+ℤ◌, pos, refl, sym, arith, below_more}
use Rattle.std.proofs.lemmas.Int.{ints}
use Rattle.tv_ring.specs.Whole.{wholes}
use Rattle.tv_ring.specs.Sums.{at}
use Rattle.tv_class_parts.proofs.ClassesAfter.{after-is, is-after}
use Rattle.tv_class_parts.proofs.ReadEntries.{read-entry}
use Rattle.tv_class_parts.proofs.lookup.is_after.Goals as goal

pub returns-then-sum-entry : goal.returns-then-sum-entry
unfolding at
returns-then-sum-entry c =
    let k = c.loop-k.k in let j = c.args.times in
    let l : at wholes c.args.left.now k ≡ c.entry_at-first.result = sym c.entry_at-first.ensures.value in
    let p : at wholes c.args.part.now k ≡ c.entry_at-second.result = sym c.entry_at-second.ensures.value in
    let e : at wholes c.args.class.now k ≡ c.entry_at-entry.result = sym c.entry_at-entry.ensures.value in
    let value : c.with_multiple-sum.result ≡ at wholes c.args.left.now k +ℤ (pos j *ℤ at wholes c.args.part.now k) =
    rw (l, p) (rw (read-entry c.entry_at-first.result c.entry_at-first.ensures.limit, read-entry c.entry_at-second.result c.entry_at-second.ensures.limit) at c.with_multiple-sum.ensures.value) in
    record {
      value = (
        (λ t. cc),
        (λ same. let here = is-after j c.args.left.now c.args.class.now c.args.part.now c.requires.part_length same k in
            absurd (omega (arith, ints))),
      );
    }

pub returns-then-entry-sum : goal.returns-then-entry-sum
unfolding at
returns-then-entry-sum c =
    let k = c.loop-k.k in let j = c.args.times in
    let l : at wholes c.args.left.now k ≡ c.entry_at-first.result = sym c.entry_at-first.ensures.value in
    let p : at wholes c.args.part.now k ≡ c.entry_at-second.result = sym c.entry_at-second.ensures.value in
    let e : at wholes c.args.class.now k ≡ c.entry_at-entry.result = sym c.entry_at-entry.ensures.value in
    let value : c.with_multiple-sum.result ≡ at wholes c.args.left.now k +ℤ (pos j *ℤ at wholes c.args.part.now k) =
    rw (l, p) (rw (read-entry c.entry_at-first.result c.entry_at-first.ensures.limit, read-entry c.entry_at-second.result c.entry_at-second.ensures.limit) at c.with_multiple-sum.ensures.value) in
    record {
      value = (
        (λ t. cc),
        (λ same. let here = is-after j c.args.left.now c.args.class.now c.args.part.now c.requires.part_length same k in
            absurd (omega (arith, ints))),
      );
    }

pub loop-k-preserved : goal.loop-k-preserved
unfolding at
loop-k-preserved c =
    let k = c.loop-k.k in let j = c.args.times in
    let l : at wholes c.args.left.now k ≡ c.entry_at-first.result = sym c.entry_at-first.ensures.value in
    let p : at wholes c.args.part.now k ≡ c.entry_at-second.result = sym c.entry_at-second.ensures.value in
    let e : at wholes c.args.class.now k ≡ c.entry_at-entry.result = sym c.entry_at-entry.ensures.value in
    let value : c.with_multiple-sum.result ≡ at wholes c.args.left.now k +ℤ (pos j *ℤ at wholes c.args.part.now k) =
    rw (l, p) (rw (read-entry c.entry_at-first.result c.entry_at-first.ensures.limit, read-entry c.entry_at-second.result c.entry_at-second.ensures.limit) at c.with_multiple-sum.ensures.value) in
    let here : at wholes c.args.left.now k +ℤ (pos j *ℤ at wholes c.args.part.now k) ≡ at wholes c.args.class.now k = omega
    (arith, ints) in
    below_more _ _ c.loop-k.invariant here

pub returns : goal.returns
returns c =
    let j = c.args.times in
    record {
      value = (
        (λ t. after-is j c.args.left.now c.args.class.now c.args.part.now c.requires.left_length c.requires.part_length
            (λ i h. c.loop-k.invariant i (omega arith))),
        (λ same. refl),
      );
    }
