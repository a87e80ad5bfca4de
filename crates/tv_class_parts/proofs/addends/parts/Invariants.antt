use Rattle.std.proofs.Common.{◌≡◌, ◌++◌, map, drop}
use Rattle.tv_class_parts.specs.ReadClasses.{part_of}
use Rattle.tv_class_parts.proofs.addends.parts.Given as goal

abbrev pub invariant-loop-line : goal.invariant-loop-line
invariant-loop-line l =
    let g = part_of l.lines l.class l.degree in l.parts.items ++ map g (drop l.line-index l.some) ≡ map g l.some
