use Rattle.std.proofs.Common.{◌≡◌, ◌∙◌, drop, take, length, min, ap, sym, arith}
use Rattle.std.proofs.lemmas.List.{length-append, length-drop}
use Rattle.tv_outside.specs.Supply.{Supply}
use Rattle.tv_outside.proofs.ReadSteps.{slice_from, front_given, none_left}
use Rattle.tv_outside.proofs.mem_source.MemSourceSource.read.Goals as goal

pub returns-clause-bytes : goal.returns-clause-bytes
returns-clause-bytes c =
    let left = c.args.self.now.left in
    let bytes = c.self.inside.bytes.items in
    let count = c.min-count.result in
    let copied = c.copy_from_slice.new.self in
    let buffer = c.args.buf.now in
    let is_left : left ≡ drop c.self.inside.position bytes = ap (λ (s : Supply). s.left) (sym c.self.view_is) in
    let slice = slice_from _ _ _ _ c.deref.ensures.value is_left in
    let size = ap length slice in
    let is_copied : copied ≡ take count left = c.copy_from_slice.ensures.after ∙ ap (take count) slice in
    let is_count : count ≡ min (min c.self.inside.piece (length buffer)) (length left) = omega (arith, size) in (
      front_given _ _ _ _ _ _ is_left is_copied (omega arith),
      λ none some_room. none_left left bytes _ count _ (length buffer) is_left is_count (omega arith) none
          (omega (arith, length-append copied (drop count buffer), length-drop count buffer, ap length is_copied)),
    )
