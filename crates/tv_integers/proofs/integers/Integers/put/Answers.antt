use Rattle.std.proofs.Common.{◌≡◌, true, false, List, ◌∷◌, [], sym, ap, ◌∙◌}
use Rattle.std.specs.List.{insert}
use Rattle.tv_spec_katz.specs.Katz.{Integer}
use Rattle.tv_spec_katz.specs.Relations.{IsPositiveClass}
use Rattle.tv_integers.specs.declared.genus_value.GenusValue.{GenusValue}
use Rattle.tv_integers.specs.Kept.{Kept}
use Rattle.tv_integers.specs.Rows.{is_at, IsPlace}
use Rattle.tv_integers.proofs.Kept.{kept_there, listed_there, listed_same, kept_between, listed_between, on_ok, on_err}
use Rattle.tv_integers.proofs.integers.Integers.put.Goals as goal

-- the class was there, and its row is written over
pub invariant_of-self : goal.invariant_of-self
invariant_of-self c =
    let f = c.self.inside in let v = c.args.class in let hs = f.heights.items in let rows = f.rows.items in let p = c.place_of-place.result in
    let g : GenusValue = record { genus = c.args.genus; value = c.args.value } in
    let place = rw (c.deref.ensures.value, c.deref-2.ensures.value) at c.place_of-place.ensures.place in
    let here : is_at v rows p ≡ true = rw (← c.deref-3.ensures.value) (sym c.is_at.ensures.value ∙ c.if-is_at.true) in
    let class : IsPositiveClass hs v = rw (← c.self.view_is) at c.requires.class in
    kept_there hs v g rows p c.index_mut.result.now c.put.new.self c.self.invariant class place here c.index_mut.ensures.value c.put.result c.requires.value c.put.ensures.ok c.put.ensures.err

pub returns-then-is_at-clause-ok : goal.returns-then-is_at-clause-ok
returns-then-is_at-clause-ok c =
    let f = c.self.inside in let v = c.args.class in let hs = f.heights.items in let rows = f.rows.items in let p = c.place_of-place.result in
    let g : GenusValue = record { genus = c.args.genus; value = c.args.value } in
    let place = rw (c.deref.ensures.value, c.deref-2.ensures.value) at c.place_of-place.ensures.place in
    let here : is_at v rows p ≡ true = rw (← c.deref-3.ensures.value) (sym c.is_at.ensures.value ∙ c.if-is_at.true) in
    let class : IsPositiveClass hs v = rw (← c.self.view_is) at c.requires.class in
    on_ok c.put.result (λ e. rw (← c.self.view_is) (ap (λ (is : List Integer). let k : Kept = record { heights = hs; integers = is } in k)
    (listed_there hs v g rows p c.index_mut.result.now c.put.new.self c.self.invariant class place here c.index_mut.ensures.value e))) c.put.ensures.ok

-- it was not, and its row is put in its place
pub invariant_of-self-else-is_at : goal.invariant_of-self-else-is_at
invariant_of-self-else-is_at c =
    let f = c.self.inside in let v = c.args.class in let hs = f.heights.items in let rows = f.rows.items in let p = c.place_of-place.result in
    let g : GenusValue = record { genus = c.args.genus; value = c.args.value } in
    let place = rw (c.deref.ensures.value, c.deref-2.ensures.value) at c.place_of-place.ensures.place in
    let gap : is_at v rows p ≡ false = rw (← c.deref-3.ensures.value) (sym c.is_at.ensures.value ∙ c.if-is_at.false) in
    let class : IsPositiveClass hs v = rw (← c.self.view_is) at c.requires.class in
    kept_between hs v g rows c.insert.new.self.items p c.self.invariant class place gap (c.in_ok-insert.ensures.items ∙ ap (insert rows p) c.in_ok-row.ensures.value) c.requires.value

pub returns-in_ok-insert-clause-ok : goal.returns-in_ok-insert-clause-ok
returns-in_ok-insert-clause-ok c =
    let f = c.self.inside in let v = c.args.class in let hs = f.heights.items in let rows = f.rows.items in let p = c.place_of-place.result in
    let g : GenusValue = record { genus = c.args.genus; value = c.args.value } in
    let place = rw (c.deref.ensures.value, c.deref-2.ensures.value) at c.place_of-place.ensures.place in
    let gap : is_at v rows p ≡ false = rw (← c.deref-3.ensures.value) (sym c.is_at.ensures.value ∙ c.if-is_at.false) in
    let class : IsPositiveClass hs v = rw (← c.self.view_is) at c.requires.class in
    rw (← c.self.view_is) (ap (λ (is : List Integer). let k : Kept = record { heights = hs; integers = is } in k)
    (listed_between hs v g rows c.insert.new.self.items p c.self.invariant class place gap (c.in_ok-insert.ensures.items ∙ ap (insert rows p) c.in_ok-row.ensures.value)))
