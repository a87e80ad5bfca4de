use Rattle.std.proofs.Common.{◌∙◌, ap, arith, subst, w64, pos, ℤ}
use Rattle.std.specs.Prelude.{◌≤ℤ◌}
use Rattle.std.proofs.lemmas.Int.{ints, to_z-of_z}
use Rattle.tv_spec_plane.specs.Web.{degree_of}
use Rattle.tv_class_assignments.proofs.tests.small.Goals as goal

pub returns-clause-degree : goal.returns-clause-degree
returns-clause-degree c =
    let read = to_z-of_z w64 c.degree.result (record { sfits = c.degree.type_inv }) in
    let test = rw read at c.if-degree-gt24.false in
    let low : c.degree.result ≤ℤ pos 24 = omega (arith, ints) in
    let same = c.degree.ensures ∙ ap (λ hs. degree_of hs c.new-class.result) c.heights-2.ensures.value in
    let P : ℤ → Type 0 = λ z. z ≤ℤ pos 24 in
    subst P same low
