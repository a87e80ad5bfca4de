use Rattle.std.proofs.Common.{◌≡◌, refl, sym, ◌∙◌, ap, arith, subst, append-nil, ◌++◌, ◌∷◌, [], List}
use Rattle.std.specs.Prelude.{OnOk, slice_get, length}
use Rattle.std.proofs.lemmas.Option.{slice_get_within, get_or_from_slice_get}
use Rattle.tv_partition.specs.Rows.{diagrams}
use Rattle.tv_spec_boxes.specs.Assignments.{choices, Assignment}
use Rattle.tv_assignment.specs.Listing.{behind, sized}
use Rattle.tv_assignment.proofs.Written.{sizes-first, sizes-next, sizes-last, diagrams-first, diagrams-next, diagrams-last, sized-none, whole-front, size_read}
use Rattle.tv_assignment.proofs.listing.+choosing.Goals as goal

pub push_choices-returns-in_default-clause-all : goal.push_choices-returns-in_default-clause-all
push_choices-returns-in_default-clause-all t c =
    let P : List Assignment → Type 0 = λ lists. OnOk c.push_copy.result (c.push_copy.new.all.items ≡ c.args.all.now.items ++ lists) in
    subst P (ap (λ s. s ∷ []) c.as_slice.ensures.value ∙ sym (whole-front c.args.front.now.items c.args.degrees.now c.args.left c.in_default.ensures.cases)) c.push_copy.ensures

pub push_choices-loop-size-init : goal.push_choices-loop-size-init
push_choices-loop-size-init t c = record {
  kept = refl;
  lists = sizes-first c.args.all.now.items c.args.front.now.items c.in-Some.degree.now c.in-Some.later.now c.args.degrees.now c.args.left c.in-Some.ensures.cases.0;
}

pub push_choices-loop-size-preserved : goal.push_choices-loop-size-preserved
push_choices-loop-size-preserved t c = record {
  kept = c.in_ok-push_sized.ensures.front ∙ c.loop-size.invariant.kept;
  lists = sizes-next c.loop-size.all.items c.push_sized.new.all.items _ c.args.front.now.items c.in-Some.degree.now c.in-Some.later.now c.args.left c.loop-size.size c.loop-size-test.true
      (c.in_ok-push_sized.ensures.all ∙ ap (λ front. c.loop-size.all.items ++ sized front c.in-Some.later.now c.args.left c.in-Some.degree.now c.loop-size.size) c.loop-size.invariant.kept)
      c.loop-size.invariant.lists;
}

pub push_choices-returns-clause-all : goal.push_choices-returns-clause-all
push_choices-returns-clause-all t c = sizes-last c.loop-size.all.items _ c.args.front.now.items c.in-Some.degree.now c.in-Some.later.now c.args.left c.loop-size.size (omega arith) c.loop-size.invariant.lists

pub push_sized-returns-in_default-clause-all : goal.push_sized-returns-in_default-clause-all
push_sized-returns-in_default-clause-all t c =
    sym (append-nil c.args.all.now.items) ∙ ap (λ ss. c.args.all.now.items ++ ss) (sym (sized-none c.args.front.now.items c.args.later.now c.args.left c.args.degree c.args.size c.in_default.ensures))

pub push_sized-loop-k-init : goal.push_sized-loop-k-init
push_sized-loop-k-init t c = record {
  kept = refl;
  lists = diagrams-first c.args.all.now.items c.args.front.now.items c.args.later.now c.args.left c.args.degree c.args.size c.in-Some.rest c.in-Some.ensures.0 c.in-Some.ensures.1;
}

pub push_sized-loop-k-preserved : goal.push_sized-loop-k-preserved
push_sized-loop-k-preserved t c =
    let number : c.index-sizes-size.result ≡ c.args.size = size_read c.args.sizes.now c.args.size c.index-sizes-size.result (omega arith) c.index-sizes-size.is c.requires.sizes in
    let found = ap (λ n. slice_get (diagrams n) c.loop-k.k) (sym number) ∙ sym c.in-Some-at.ensures.value in
    record {
      kept = c.in_ok-push_behind.ensures.front ∙ c.loop-k.invariant.kept;
      lists = diagrams-next c.loop-k.all.items c.push_behind.new.all.items _ c.args.front.now.items c.args.later.now c.in-Some.rest c.loop-k.k (diagrams c.args.size) c.in-Some-at.diagram.now
          (slice_get_within (diagrams c.args.size) c.loop-k.k c.in-Some-at.diagram.now found) (sym (get_or_from_slice_get (diagrams c.args.size) c.loop-k.k c.in-Some-at.diagram.now [] found))
          (c.in_ok-push_behind.ensures.all ∙ ap (λ front. c.loop-k.all.items ++ behind (front ++ c.in-Some-at.diagram.now ∷ []) (choices c.args.later.now c.in-Some.rest)) c.loop-k.invariant.kept)
          c.loop-k.invariant.lists;
    }

pub push_sized-returns-clause-all : goal.push_sized-returns-clause-all
push_sized-returns-clause-all t c =
    let number : c.index-sizes-size.result ≡ c.args.size = size_read c.args.sizes.now c.args.size c.index-sizes-size.result (omega arith) c.index-sizes-size.is c.requires.sizes in
    let count : length (diagrams c.index-sizes-size.result) ≡ length (diagrams c.args.size) = ap (λ n. length (diagrams n)) number in
    diagrams-last c.loop-k.all.items _ c.args.front.now.items c.args.later.now c.in-Some.rest c.loop-k.k (diagrams c.args.size) (omega arith) c.loop-k.invariant.lists
