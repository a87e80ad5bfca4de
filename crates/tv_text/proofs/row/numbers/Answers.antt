use Rattle.std.proofs.Common.{◌≡◌, ◌++◌, ◌∷◌, [], ◌∙◌, ℤ, List, map, take, ap, subst, sym, ◌+◌}
use Rattle.std.specs.List.{AllByRecursion}
use Rattle.tv_text.proofs.Spellings.{no_spelling, spelled_more, same_number}
use Rattle.tv_text.specs.Rows.{texts}
use Rattle.tv_lattice.proofs.Each.{each_push}
use Rattle.tv_spec_text.specs.Lines.{IsNumber, spelled}
use Rattle.tv_text.proofs.row.numbers.Goals as goal

pub returns-in-None : goal.returns-in-None
returns-in-None c = λ hs all e. no_spelling (λ w. w.now) c.args.words.now c.loop-word.word-index _ hs c.loop-word-test.true c.in-None.ensures all e

pub loop-word-preserved : goal.loop-word-preserved
loop-word-preserved c =
    let z = c.in-Some.z in
    let here = c.in-Some.ensures in
    let pushed : c.push.new.self.items ≡ c.loop-word.numbers.items ++ z ∷ [] = c.in_ok-push-in-Some.ensures.items ∙ ap (λ (v : ℤ). c.loop-word.numbers.items ++ v ∷ []) (same_number z here.0) in
    subst (λ (zs : List ℤ). AllByRecursion IsNumber zs × (texts (take (c.loop-word.word-index + 1) c.args.words.now) ≡ map spelled zs)) (sym pushed) (
      each_push IsNumber _ z c.loop-word.invariant.0 here.0,
      spelled_more (λ w. w.now) c.args.words.now c.loop-word.word-index _ c.loop-word.numbers.items z c.loop-word-test.true c.loop-word.invariant.1 here.1,
    )
