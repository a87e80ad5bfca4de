use Rattle.tv_class_parts.proofs.TestWay.{test_way}
use Rattle.tv_class_parts.proofs.tests.read_first.Given as goal

abbrev pub ghost-read_class : goal.ghost-read_class
ghost-read_class a = test_way
