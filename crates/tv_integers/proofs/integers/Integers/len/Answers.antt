use Rattle.std.proofs.Common.{◌≡◌, length, sym, ap, ◌∙◌, arith}
use Rattle.tv_integers.proofs.Found.{classes-listed}
use Rattle.tv_integers.proofs.Search.{length-classes}
use Rattle.tv_integers.proofs.integers.Integers.len.Goals as goal

pub returns : goal.returns
returns c =
    let f = c.self.inside in let ok = f.rows.ok in let n = c.len.ensures in
    let count : c.len.result ≡ length f.rows.items = omega arith in
    record { value = rw (← c.self.view_is) (count ∙ sym (length-classes f.rows.items) ∙ ap length (sym (classes-listed f.heights.items f.rows.items c.self.invariant.rises c.self.invariant.each))) }
