use Rattle.std.proofs.Common.{rules, ◌≢◌, pos, ap, ◌∙◌}
use Rattle.tv_integers.proofs.Kept.{on_ok}
use Rattle.tv_gv.proofs.Placed.{put-in-front}
use Rattle.tv_gv.proofs.values.put_value.Goals as goal

pub returns : goal.returns
returns c =
    let hs = c.args.integers.now.heights in
    let other : c.args.value.now ≢ pos 0 = search rules in
    let front = put-in-front hs c.args.class.now c.args.genus c.args.value.now c.args.integers.now.integers c.requires.positive
    c.known.ensures.kept c.requires.last other in
    record {
      value = on_ok c.put.result (λ e. e ∙ ap (λ js. record { heights = hs; integers = js }) front)
          (rw c.in_ok-copy.ensures.value at c.put.ensures.ok);
    }
