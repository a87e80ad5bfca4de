use Rattle.std.proofs.Common.{refl, ◌∙◌, ap, arith}
use mathlib.Core.Bool.{not}
use Rattle.tv_cells.specs.Cuts.{leaves_gap}
use Rattle.tv_extras.proofs.Steps.{leave-same, leave-less, rises-next}
use Rattle.tv_extras.proofs.search.Search.leave.Goals as goal

pub returns : goal.returns
returns c =
    let s = c.args.self.now in
    let v = c.requires.ahead.valid in
    let rising = v.rising c.requires.ahead.forward in
    record {
      kept = record {
        valid = record {
          order = v.order;
          choices = v.choices;
          rising = λ e. rises-next s.chosen.items s.cells.items c.args.cell s.at c.requires.next rising;
          within = omega (arith, c.requires.ahead.before);
          few = v.few;
        };
        legs = refl;
        cells = refl;
        same = leave-same s.legs s.cells.items s.chosen.items s.places.items c.args.cell s.at s.left c.leaves_gap.result s.forward c.requires.ahead.forward c.requires.ahead.some c.requires.next rising c.requires.refused
            (c.leaves_gap.ensures ∙ ap (λ d. leaves_gap s.legs d c.args.cell) c.as_slice.ensures.value);
      };
      less = leave-less s.cells.items s.places.items s.at (not c.leaves_gap.result) s.forward c.requires.ahead.forward c.requires.ahead.before;
    }
