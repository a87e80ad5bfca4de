use Rattle.std.proofs.Common.{◌+◌, ◌≤◌, sym, ap, subst, ◌∙◌, List, [], ◌∷◌, ◌++◌, length, take, drop, take_all, arith}
use Rattle.std.specs.Prelude.{ℤ}
use Rattle.std.proofs.lemmas.List.{length-map, take-append-drop}
use Rattle.tv_spec_series.specs.Families.{classes, row}
use Rattle.tv_frontier.specs.Rows.{KeepsRows, IsCrowdedBy}
use Rattle.tv_frontier.proofs.RowAdded.{rows-none, rows-next, rows-crowded, row-of-state, row-has, row-taken, row-among}
use Rattle.tv_assigned_series.proofs.FamilyTold.{on-wide}
use Rattle.tv_frontier.proofs.joins.join_rows.Goals as goal

pub loop-k-init : goal.loop-k-init
loop-k-init g c = record { shape = c.requires.shape; held = rows-none g.C.Ring.IsValue g.C.Ring.ring c.args.stage.now.web.now c.args.stage.now.d c.args.stage.now.n c.args.stage.now.t c.args.join.now.first.now c.args.join.now.new.now c.args.family.now }

pub join_row-requires-clause-state : goal.join_row-requires-clause-state
join_row-requires-clause-state g c =
    let x = row c.in-Some.entry.class.now c.in-Some.entry.series.now in
    row-of-state g.C.Ring.ring c.args.stage.now.web.now c.args.stage.now.d c.args.stage.now.n c.args.stage.now.t c.args.join.now.first.now c.args.part.now x c.requires.part (row-among c.args.part.now.rows c.loop-k.k x c.in-Some.ensures.row) c.args.stage.now.upto c.args.join.now.shift c.requires.reaches

pub join_row-requires-clause-class : goal.join_row-requires-clause-class
join_row-requires-clause-class g c =
    let x = row c.in-Some.entry.class.now c.in-Some.entry.series.now in
    row-has g.C.Ring.ring c.args.stage.now.web.now c.args.stage.now.d c.args.stage.now.n c.args.stage.now.t c.args.join.now.first.now c.args.part.now x c.requires.part (row-among c.args.part.now.rows c.loop-k.k x c.in-Some.ensures.row)

pub loop-k-preserved : goal.loop-k-preserved
loop-k-preserved g c =
    let x = row c.in-Some.entry.class.now c.in-Some.entry.series.now in
    let us = classes c.args.part.now.rows in
    record {
      shape = c.in-Ok.ensures.shape;
      held = rows-next g.C.Ring.IsValue g.C.Ring.ring c.args.stage.now.web.now c.args.stage.now.d c.args.stage.now.n c.args.stage.now.t c.args.join.now.first.now c.args.join.now.new.now (take c.loop-k.k us) (take (c.loop-k.k + 1) us) c.in-Some.entry.class.now c.args.family.now c.loop-k.family c.join_row.new.family
          (row-taken c.args.part.now.rows c.loop-k.k x c.in-Some.ensures.row) c.loop-k.invariant.held c.in-Ok.ensures.held;
    }

pub returns-in-Err-clause-wide : goal.returns-in-Err-clause-wide
returns-in-Err-clause-wide g c =
    let x = row c.in-Some.entry.class.now c.in-Some.entry.series.now in
    let us = classes c.args.part.now.rows in
    on-wide (IsCrowdedBy g.C.Ring.IsValue g.C.Ring.ring c.args.stage.now.web.now c.args.stage.now.d c.args.stage.now.n c.args.stage.now.t c.args.join.now.first.now c.args.join.now.new.now (c.in-Some.entry.class.now ∷ []) c.loop-k.family) (IsCrowdedBy g.C.Ring.IsValue g.C.Ring.ring c.args.stage.now.web.now c.args.stage.now.d c.args.stage.now.n c.args.stage.now.t c.args.join.now.first.now c.args.join.now.new.now us c.args.family.now) c.in-Err.fault
    (λ v one. rows-crowded g.C.Ring.IsValue g.C.Ring.ring c.args.stage.now.web.now c.args.stage.now.d c.args.stage.now.n c.args.stage.now.t c.args.join.now.first.now c.args.join.now.new.now (take c.loop-k.k us) (drop (c.loop-k.k + 1) us) us c.in-Some.entry.class.now v c.args.family.now c.loop-k.family
    (sym (take-append-drop (c.loop-k.k + 1) us) ∙ ap (λ z. z ++ drop (c.loop-k.k + 1) us) (row-taken c.args.part.now.rows c.loop-k.k x c.in-Some.ensures.row))
    c.loop-k.invariant.held one)
    c.in-Err.ensures.wide

pub returns-clause-held : goal.returns-clause-held
returns-clause-held g c =
    let us = classes c.args.part.now.rows in
    let same = length-map c.args.part.now.rows (λ x. x.class) in
    let past : length us ≤ c.loop-k.k = (let e = c.len-k-end.ensures in let h = c.loop-k-test.false in omega arith) in
    subst (λ (vs : List (List ℤ)). KeepsRows g.C.Ring.IsValue g.C.Ring.ring c.args.stage.now.web.now c.args.stage.now.d c.args.stage.now.n c.args.stage.now.t c.args.join.now.first.now c.args.join.now.new.now vs c.args.family.now c.loop-k.family) (take_all c.loop-k.k us past) c.loop-k.invariant.held
