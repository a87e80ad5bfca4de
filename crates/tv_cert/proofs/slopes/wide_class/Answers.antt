use Rattle.std.proofs.Common.{arith}
use Rattle.tv_cert.proofs.Genera.{low-next, low-all, wide-there}
use Rattle.tv_cert.proofs.slopes.wide_class.Goals as goal

pub loop-k-preserved : goal.loop-k-preserved
loop-k-preserved c =
    low-next c.args.integers.now c.loop-k.k c.genus_number.result (omega arith) c.loop-k.invariant c.genus_number.ensures.value
    c.if-genus_number-ge-LEAST_WIDE_GENUS.false

pub returns-then-genus_number-ge-LEAST_WIDE_GENUS : goal.returns-then-genus_number-ge-LEAST_WIDE_GENUS
returns-then-genus_number-ge-LEAST_WIDE_GENUS c = record {
  value = rw c.class_number.ensures.class (wide-there c.args.integers.now _ c.genus_number.result c.genus_number.ensures.value
      c.if-genus_number-ge-LEAST_WIDE_GENUS.true);
}

pub returns : goal.returns
returns c = record { value = low-all c.args.integers.now c.loop-k.k (omega arith) c.loop-k.invariant }
