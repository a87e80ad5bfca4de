use Rattle.std.proofs.Common.{refl, arith}
use Rattle.tv_extras.proofs.Steps.{take-same, take-less, rises-taken, choices-push, pushed-length}
use Rattle.tv_extras.proofs.search.Search.take.Goals as goal

pub returns : goal.returns
returns c =
    let s = c.args.self.now in
    let v = c.requires.ahead.valid in
    let rising = v.rising c.requires.ahead.forward in
    let longer = pushed-length s.chosen.items c.push.new.self.items c.args.cell c.in_ok-push.ensures.items in
    record {
      kept = record {
        valid = record {
          order = v.order;
          choices = rw (c.in_ok-push.ensures.items, c.in-Ok.ensures.items) (choices-push s.cells.items s.chosen.items s.places.items c.args.cell s.at c.requires.next rising v.choices);
          rising = λ e. rw c.in_ok-push.ensures.items (rises-taken s.chosen.items s.cells.items c.args.cell s.at c.requires.next rising);
          within = omega (arith, c.requires.ahead.before);
          few = omega (arith, v.few, c.requires.ahead.some, longer);
        };
        legs = refl;
        cells = refl;
        same = take-same s.legs s.cells.items s.chosen.items c.push.new.self.items s.places.items c.push-2.new.self.items c.args.cell s.at s.left s.forward c.requires.ahead.forward c.requires.ahead.some c.requires.next
            c.in_ok-push.ensures.items c.in-Ok.ensures.items;
      };
      less = take-less s.cells.items s.places.items c.push-2.new.self.items s.at s.forward c.requires.ahead.forward c.requires.ahead.before c.in-Ok.ensures.items;
    }
