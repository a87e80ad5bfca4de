use Rattle.std.proofs.Common.{◌≡◌, ◌<◌, ◌≤◌, length, sym, ap, ◌∙◌, arith, refl, rules}
use Rattle.tv_integers.specs.Kept.{classes_of}
use Rattle.tv_integers.specs.Rows.{ClassRow, listed}
use Rattle.tv_integers.proofs.Found.{classes-listed, class_found}
use Rattle.tv_integers.proofs.Search.{length-classes}
use Rattle.tv_integers.proofs.integers.Integers.class_at.Goals as goal

pub returns-in-Some-clause-none : goal.returns-in-Some-clause-none
returns-in-Some-clause-none c =
    let f = c.self.inside in let h = c.in-Some.ensures.lookup.3.0 in let d = ap length c.deref.ensures.value in let n = length-classes f.rows.items in
    let same = classes-listed f.heights.items f.rows.items c.self.invariant.rises c.self.invariant.each in let l = ap length same in
    rw (← c.self.view_is) (λ e. absurd (cc), λ few. absurd (omega arith))

pub returns-in-Some-clause-class : goal.returns-in-Some-clause-class
returns-in-Some-clause-class c =
    let f = c.self.inside in let h = rw c.deref.ensures.value at c.in-Some.ensures.lookup.3.0 in
    let read = rw c.deref.ensures.value at c.in-Some.ensures.lookup.1 in
    let same = classes-listed f.heights.items f.rows.items c.self.invariant.rises c.self.invariant.each in
    rw (← c.self.view_is, same, c.class.ensures.value) (class_found f.rows.items c.args.k c.in-Some.row.now h read)

pub returns-in-None-clause-none : goal.returns-in-None-clause-none
returns-in-None-clause-none c =
    let f = c.self.inside in let h = c.in-None.ensures.lookup.3 in let d = ap length c.deref.ensures.value in let n = length-classes f.rows.items in
    let same = classes-listed f.heights.items f.rows.items c.self.invariant.rises c.self.invariant.each in let l = ap length same in
    rw (← c.self.view_is) (λ e. omega arith, λ few. refl)
