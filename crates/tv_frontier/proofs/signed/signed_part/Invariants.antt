use Rattle.std.specs.Prelude.{◌≡◌, map, take}
use Rattle.tv_frontier.specs.Signs.{signed_row}
use Rattle.tv_frontier.proofs.signed.signed_part.Given as goal

abbrev pub invariant-loop-k : goal.invariant-loop-k
invariant-loop-k g l = record {
  heights : l.family.heights ≡ l.part.heights;
  top : l.family.top ≡ l.part.top;
  upto : l.family.upto ≡ l.n;
  rows : l.family.rows ≡ map (signed_row g.C.Ring.ring l.web.points l.n) (take l.k l.part.rows);
}
