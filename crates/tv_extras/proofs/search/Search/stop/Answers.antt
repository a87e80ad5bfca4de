use Rattle.std.proofs.Common.{refl}
use Rattle.tv_extras.proofs.Steps.{end-same, end-less, stop-none}
use Rattle.tv_extras.proofs.search.Search.stop.Goals as goal

pub returns : goal.returns
returns c =
    let s = c.args.self.now in
    record {
      kept = record {
        valid = record { order = c.requires.valid.order; choices = c.requires.valid.choices; rising = λ e. cc; within = c.requires.valid.within; few = c.requires.valid.few };
        legs = refl;
        cells = refl;
        same = end-same s.legs s.cells.items s.chosen.items s.places.items s.at s.left s.forward (stop-none s.legs s.cells.items s.chosen.items s.at s.left c.requires.short c.requires.none);
      };
      less = end-less s.cells.items s.places.items s.at s.forward c.requires.forward;
    }
