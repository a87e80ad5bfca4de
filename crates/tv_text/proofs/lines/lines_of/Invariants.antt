use Rattle.tv_text.proofs.Parts.{AllLines}
use Rattle.std.proofs.Common.{map}
use Rattle.tv_text.proofs.lines.lines_of.Given as goal

abbrev pub invariant-loop-i : goal.invariant-loop-i
invariant-loop-i l = AllLines (λ p. p.now) (map (λ w. w.now) l.lines.items) l.i l.part-items
