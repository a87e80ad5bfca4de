use Rattle.std.proofs.Common.{◌≡◌, ℕ, ◌+◌, ◌-◌, List, [], ◌∷◌, ◌++◌, rules, arith, refl, sym, ◌∙◌, ap, subst, append-nil}
use Rattle.std.specs.Prelude.{OnOk}
use Rattle.std.specs.List.{flat_map}
use Rattle.tv_partition.specs.Rows.{IsSmall, size, diagrams_within, down_from}
use Rattle.tv_partition.specs.Within.{CanEnd, behind}
use Rattle.tv_partition.proofs.Written.{after, rows-start, rows-next, whole-front, no-room, front-small, size-push}
use Rattle.tv_partition.proofs.listing.+within.Goals as goal

pub push_after-push_within-requires : goal.push_after-push_within-requires
push_after-push_within-requires t c =
    let longer : size c.push.new.self.items ≡ size c.args.front.now.items + c.args.row = ap size c.in_ok-push.ensures.items ∙ size-push c.args.front.now.items c.args.row in
    let P : List ℕ → Type 0 = λ front. CanEnd front c.args.row in
    (search rules, (omega (arith, c.requires.small), subst P (sym c.in_ok-push.ensures.items) c.requires.falls))

pub push_within-push_copy-requires : goal.push_within-push_copy-requires
push_within-push_copy-requires t c =
    let P : List ℕ → Type 0 = λ rows. IsSmall rows in
    subst P (sym c.as_slice.ensures.value) (front-small c.args.front.now.items c.args.top c.args.left c.requires.falls c.requires.small)

pub push_within-returns-then-left-eq0-clause-all :
    goal.push_within-returns-then-left-eq0-clause-all
push_within-returns-then-left-eq0-clause-all t c =
    let P : List (List ℕ) → Type 0 = λ lists. OnOk c.push_copy.result (c.push_copy.new.all.items ≡ c.args.all.now.items ++ lists) in
    subst P (ap (λ s. s ∷ []) c.as_slice.ensures.value ∙ sym (whole-front c.args.front.now.items c.args.room c.args.top c.args.left c.if-left-eq0.true)) c.push_copy.ensures

pub push_within-returns-then-room-eq0-clause-all :
    goal.push_within-returns-then-room-eq0-clause-all
push_within-returns-then-room-eq0-clause-all t c =
    sym (append-nil c.args.all.now.items) ∙ ap (λ lists. c.args.all.now.items ++ lists) (sym (no-room c.args.front.now.items c.args.room c.args.top c.args.left c.if-room-eq0.true (omega arith)))

pub push_within-loop-row-init : goal.push_within-loop-row-init
push_within-loop-row-init t c = record {
  kept = refl;
  within_top = omega arith;
  within_left = omega arith;
  lists = ap (λ j. c.args.all.now.items ++ flat_map (after c.args.front.now.items (c.args.room - 1) c.args.left) (down_from j)) c.min-row.ensures
      ∙ rows-start c.args.all.now.items c.args.front.now.items c.args.room c.args.top c.args.left (omega arith) (omega arith);
}

pub push_within-loop-row-preserved : goal.push_within-loop-row-preserved
push_within-loop-row-preserved t c = record {
  kept = c.in_ok-push_after.ensures.front ∙ c.loop-row.invariant.kept;
  within_top = omega arith;
  within_left = omega arith;
  lists = rows-next c.push_after.new.all.items c.loop-row.all.items _ c.args.front.now.items (c.args.room - 1) c.args.left c.loop-row.row (omega arith)
      (c.in_ok-push_after.ensures.all ∙ ap (λ front. c.loop-row.all.items ++ behind (front ++ c.loop-row.row ∷ []) (diagrams_within (c.args.room - 1) c.loop-row.row (c.args.left - c.loop-row.row))) c.loop-row.invariant.kept)
      c.loop-row.invariant.lists;
}
