use Rattle.std.proofs.Common.{◌≡◌, ◌+◌, ◌*◌, ◌≤◌}
use Rattle.tv_interlace.specs.Rooms.{low, high, open_from}
use Rattle.tv_interlace.proofs.rooms.room_from.Given as goal

abbrev pub invariant-loop-d : goal.invariant-loop-d
invariant-loop-d l = record {
  least : l.least + open_from (low l.legs l.t l.a) l.d l.d-end ≡ open_from (low l.legs l.t l.a) l.from l.d-end;
  most : l.most + open_from (high l.legs l.t l.a) l.d l.d-end ≡ open_from (high l.legs l.t l.a) l.from l.d-end;
  few : l.least ≤ 4294967295 * l.d;
  many : l.most ≤ 4294967295 * l.d;
}
