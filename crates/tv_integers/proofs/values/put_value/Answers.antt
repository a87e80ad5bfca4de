use Rattle.std.proofs.Common.{◌≡◌, ◌<◌, true, false, sym, ◌∙◌, arith, slice_get}
use Rattle.tv_integers.specs.Places.{has_genus}
use Rattle.tv_integers.proofs.Genera.{put-there, put-between, there_within, place_length}
use Rattle.tv_integers.proofs.values.put_value.Goals as goal

pub insert-requires : goal.insert-requires
insert-requires c =
    let l = place_length c.args.value.genus c.deref.result.now in let n = c.deref.ensures.len in let e = c.genus_place-place.ensures.value in omega arith

pub index_mut-requires : goal.index_mut-requires
index_mut-requires c =
    let l = there_within c.args.value.genus c.deref-2.result.now c.genus_place-place.result (sym c.is_there.ensures.value ∙ c.if-is_there.true) in let n = c.deref-2.ensures.len in omega arith

pub returns-then-is_there-clause-ok : goal.returns-then-is_there-clause-ok
returns-then-is_there-clause-ok c =
    let there = rw c.deref-2.ensures.value at (sym c.is_there.ensures.value ∙ c.if-is_there.true) in
    sym (put-there c.args.value c.args.values.now.items c.genus_place-place.result (rw c.deref.ensures.value at c.genus_place-place.ensures.value) there)

pub returns-in_ok-insert-clause-ok : goal.returns-in_ok-insert-clause-ok
returns-in_ok-insert-clause-ok c =
    let there = rw c.deref-2.ensures.value at (sym c.is_there.ensures.value ∙ c.if-is_there.false) in
    c.in_ok-insert.ensures.items ∙ sym (put-between c.args.value c.args.values.now.items c.genus_place-place.result (rw c.deref.ensures.value at c.genus_place-place.ensures.value) there)
