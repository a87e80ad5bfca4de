use Rattle.std.proofs.Common.{[], sym, ◌∙◌}
use Rattle.std.proofs.lemmas.List.{get_or_read}
use Rattle.tv_laws_frontier.proofs.Listed.{choice_equality}
use Rattle.tv_frontier.proofs.places.place_of.Goals as goal

pub returns-then-is_same : goal.returns-then-is_same
returns-then-is_same c =
    let same = choice_equality.tells c.args.choice.now c.diagrams.result.now (sym c.is_same.ensures ∙ c.if-is_same.true) in
    (c.loop-k-test.true, sym (get_or_read c.args.keys.now c.loop-k.k c.index-keys-k.result c.loop-k-test.true c.index-keys-k.is []) ∙ (sym c.diagrams.ensures ∙ sym same))
