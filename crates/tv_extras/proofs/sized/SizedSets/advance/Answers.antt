use Rattle.std.proofs.Common.{◌≡◌, [], sym, ◌∙◌, arith}
use Rattle.tv_extras.specs.Search.{to_come}
use Rattle.tv_extras.proofs.Sizes.{sized-kept, sized-first, sized-same, sized-next, sizes-none, finds-none}
use Rattle.tv_extras.proofs.sized.SizedSets.advance.Goals as goal

pub returns-then-branch : goal.returns-then-branch
returns-then-branch c =
    let s = c.loop-self.self in
    let inv = c.loop-self.invariant in
    let found = c.find.ensures.same in
    let u = c.pass.new.self in
    record {
      valid = sized-kept s u s.size inv.valid c.pass.ensures.valid (c.pass.ensures.legs ∙ found.legs) (c.pass.ensures.cells ∙ found.cells) inv.valid.size;
      legs = c.pass.ensures.legs ∙ (found.legs ∙ inv.legs);
      most = inv.most;
      last = inv.last;
      size = inv.size;
      first = sym inv.same ∙ sized-first s c.find.new.self u found c.pass.ensures.legs c.pass.ensures.chosen c.pass.ensures.passed;
    }

pub returns-then-self : goal.returns-then-self
returns-then-self c =
    let s = c.loop-self.self in
    let inv = c.loop-self.invariant in
    let found = c.find.ensures.same in
    let t = c.find.new.self in
    let none : to_come t ≡ [] = finds-none c.in_ok-find.field-0 t c.if-branch.false c.in_ok-find.ensures.found in
    record {
      kept = record {
        valid = sized-kept s t s.size inv.valid found.valid found.legs found.cells inv.valid.size;
        legs = found.legs ∙ inv.legs;
        most = inv.most;
        last = inv.last;
        size = inv.size;
        same = sized-same s t found ∙ inv.same;
      };
      none = sizes-none t.legs s.most s.size s.last (to_come t) none c.if-self.true;
    }

pub loop-self-preserved : goal.loop-self-preserved
loop-self-preserved c =
    let s = c.loop-self.self in
    let inv = c.loop-self.invariant in
    let found = c.find.ensures.same in
    let t = c.find.new.self in
    let u = c.restart.new.self in
    let none : to_come t ≡ [] = finds-none c.in_ok-find.field-0 t c.if-branch.false c.in_ok-find.ensures.found in
    record {
      valid = sized-kept s u _ inv.valid c.restart.ensures.valid (c.restart.ensures.legs ∙ found.legs) (c.restart.ensures.cells ∙ found.cells) (omega (arith, inv.valid.size, c.if-self.false));
      legs = c.restart.ensures.legs ∙ (found.legs ∙ inv.legs);
      most = inv.most;
      last = inv.last;
      size = omega (arith, inv.size);
      same = sized-next s t u inv.valid found none (omega (arith, inv.valid.size, c.if-self.false)) c.restart.ensures.legs c.restart.ensures.value ∙ inv.same;
    }
