use Rattle.std.proofs.Common.{◌≡◌, [], drop, refl, sym, ◌∙◌, ap}
use Rattle.tv_cells.specs.Extras.{is_extras}
use Rattle.tv_extras.specs.Search.{ahead}
use Rattle.tv_extras.proofs.Steps.{end-same, end-less, arrive-none, same-itself}
use Rattle.tv_extras.proofs.search.Search.arrive.Goals as goal

pub returns-then-is_extras : goal.returns-then-is_extras
returns-then-is_extras c = (
  same-itself c.args.self.now c.requires.valid,
  record {
    forward = c.requires.forward;
    all = c.requires.all;
    extras = sym (ap (is_extras c.args.self.now.legs) c.as_slice.ensures.value) ∙ (sym c.is_extras.ensures ∙ c.if-is_extras.true);
  },
)

pub returns : goal.returns
returns c =
    let s = c.args.self.now in
    let none : ahead s.legs s.chosen.items (drop s.at s.cells.items) s.left ≡ [] =
    arrive-none s.legs s.cells.items s.chosen.items s.at s.left c.requires.all
    (sym (ap (is_extras s.legs) c.as_slice.ensures.value) ∙ (sym c.is_extras.ensures ∙ c.if-is_extras.false)) in
    record {
      kept = record {
        valid = record { order = c.requires.valid.order; choices = c.requires.valid.choices; rising = λ e. cc; within = c.requires.valid.within; few = c.requires.valid.few };
        legs = refl;
        cells = refl;
        same = end-same s.legs s.cells.items s.chosen.items s.places.items s.at s.left s.forward none;
      };
      less = end-less s.cells.items s.places.items s.at s.forward c.requires.forward;
    }
