use Rattle.tv_class_parts.proofs.TestWay.{is-given}
use Rattle.tv_class_parts.proofs.tests.read_first.Goals as goal

pub read_class-requires : goal.read_class-requires
read_class-requires c =
    rw (
      c.deref.ensures.value,
      c.in_ok-lines.ensures.value,
      c.in_ok-class.ensures.value,
      c.deref-2.ensures.value,
      c.in_ok-series.ensures.value,
    ) is-given
