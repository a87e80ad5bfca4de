use Rattle.std.proofs.Common.{[], drop, length}
use Rattle.std.specs.Prelude.{◌&&◌, nat_lt}
use Rattle.tv_frontier.specs.Picks.{put_by}
use Rattle.tv_frontier.proofs.Picked.{put-next, put-few, put-last}
use Rattle.tv_frontier.proofs.picks.put.Goals as goal

pub loop-k-preserved : goal.loop-k-preserved
loop-k-preserved c =
    let f = c.args.flags.now in let g = c.args.choice.now in let a = c.args.base.now in
    record {
      put = put-next f g a c.loop-k.all.items c.put_one.new.all.items (put_by f g a) c.loop-k.k c.loop-k.next c.in_ok-next.next c.takes.result c.index-base-k.result [] c.loop-k-test.true c.index-base-k.is c.takes.ensures c.in_ok-next.ensures.put c.in_ok-next.ensures.next c.loop-k.invariant.put;
      few = put-few (c.takes.result && nat_lt c.loop-k.next (length g)) c.loop-k.next c.loop-k.k c.in_ok-next.next c.in_ok-next.ensures.next c.loop-k.invariant.few;
    }

pub returns : goal.returns
returns c = put-last c.args.flags.now (drop c.loop-k.next c.args.choice.now) c.args.base.now c.loop-k.all.items (put_by c.args.flags.now c.args.choice.now c.args.base.now) c.loop-k.k c.loop-k-test.false c.loop-k.invariant.put
