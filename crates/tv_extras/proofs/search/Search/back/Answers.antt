use Rattle.std.proofs.Common.{◌≡◌, [], List, ℕ, length, reverse, refl, sym, ◌∙◌, ap, subst, arith}
use mathlib.Core.Bool.{not}
use Rattle.tv_cells.specs.Cuts.{leaves_gap}
use Rattle.tv_extras.specs.Search.{AreChoices}
use Rattle.tv_extras.proofs.Steps.{behind-same, behind-less, behind-none, choices-pop, rises-next, places-some, place-within, pushed-length, nil_by}
use Rattle.tv_extras.proofs.search.Search.back.Goals as goal

pub returns-in_default : goal.returns-in_default
returns-in_default c =
    let s = c.args.self.now in
    let was : s.places.items ≡ [] = nil_by s.places.items _ (omega arith) c.in_default.ensures.cases.0 in
    let is : c.pop.new.self.items ≡ [] = nil_by c.pop.new.self.items _ (omega arith) c.in_default.ensures.cases.1 in
    let P : List ℕ → Type 0 = λ places. AreChoices s.cells.items (reverse s.chosen.items) (reverse places) in
    let none = behind-none s.legs s.cells.items s.chosen.items c.pop.new.self.items s.at s.left s.forward c.requires.behind is in (
      record {
        valid = record { order = c.requires.valid.order; choices = subst P (was ∙ sym is) c.requires.valid.choices; rising = c.requires.valid.rising; within = c.requires.valid.within; few = c.requires.valid.few };
        legs = refl;
        cells = refl;
        same = none ∙ sym (behind-none s.legs s.cells.items s.chosen.items s.places.items s.at s.left s.forward c.requires.behind was);
      },
      none,
    )

pub returns-in_default-pop : goal.returns-in_default-pop
returns-in_default-pop c =
    let s = c.args.self.now in
    let was : s.chosen.items ≡ [] = nil_by s.chosen.items _ (omega arith) c.in_default-pop.ensures.cases.0 in
    let none = places-some s.cells.items s.chosen.items s.places.items was c.requires.valid.choices in
    let some = pushed-length c.pop.new.self.items s.places.items c.in-Some.place c.in-Some.ensures.items in
    let empty = ap length none in
    absurd (omega arith)

pub overflow_add-self : goal.overflow_add-self
overflow_add-self c =
    let s = c.args.self.now in
    let some = pushed-length c.pop-2.new.self.items s.chosen.items c.in-Some-pop.cell c.in-Some-pop.ensures.items in
    omega (arith, c.requires.valid.few)

pub overflow_add-self-2 : goal.overflow_add-self-2
overflow_add-self-2 c =
    let s = c.args.self.now in
    let is = choices-pop s.cells.items c.pop-2.new.self.items s.chosen.items c.pop.new.self.items s.places.items c.in-Some-pop.cell c.in-Some.place c.in-Some-pop.ensures.items c.in-Some.ensures.items c.requires.valid.choices in
    let l = place-within s.cells.items _ c.in-Some-pop.cell c.in-Some.place is.at in
    omega (arith, s.cells.ok, s.cells.small)

pub returns : goal.returns
returns c =
    let s = c.args.self.now in
    let v = c.requires.valid in
    let chosen = c.pop-2.new.self.items in
    let places = c.pop.new.self.items in
    let is = choices-pop s.cells.items chosen s.chosen.items places s.places.items c.in-Some-pop.cell c.in-Some.place c.in-Some-pop.ensures.items c.in-Some.ensures.items v.choices in
    let some = pushed-length chosen s.chosen.items c.in-Some-pop.cell c.in-Some-pop.ensures.items in
    let within = place-within s.cells.items _ c.in-Some-pop.cell c.in-Some.place is.at in
    record {
      kept = record {
        valid = record {
          order = v.order;
          choices = is.before;
          rising = λ e. rises-next chosen s.cells.items c.in-Some-pop.cell c.in-Some.place is.at is.rising;
          within = omega arith;
          few = omega (arith, v.few);
        };
        legs = refl;
        cells = refl;
        same = behind-same s.legs s.cells.items chosen s.chosen.items places s.places.items c.in-Some-pop.cell c.in-Some.place s.at s.left c.leaves_gap.result s.forward c.requires.behind c.in-Some-pop.ensures.items c.in-Some.ensures.items is
            (c.leaves_gap.ensures ∙ ap (λ d. leaves_gap s.legs d c.in-Some-pop.cell) c.as_slice.ensures.value);
      };
      less = behind-less s.cells.items places s.places.items c.in-Some.place s.at (not c.leaves_gap.result) s.forward c.requires.behind c.in-Some.ensures.items;
    }
