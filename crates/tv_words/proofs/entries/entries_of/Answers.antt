use Rattle.std.proofs.Common.{◌≡◌, ◌≢◌, ◌++◌, ◌∷◌, [], ◌∙◌, ℕ, ℤ, List, map, take, ap, subst, sym, ◌+◌, string_bytes, arith}
use Rattle.std.specs.List.{AllByRecursion}
use Rattle.tv_text.proofs.Spellings.{spelled_more, same_number}
use Rattle.tv_lattice.proofs.Each.{each_push}
use Rattle.tv_spec_text.specs.Lines.{IsNumber, spelled}
use Rattle.tv_words.proofs.EntryWords.{leaves_entries}
use Rattle.tv_words.proofs.entries.entries_of.Goals as goal

pub returns-in_default : goal.returns-in_default
returns-in_default c =
    let word = c.as_bytes.ensures.value ∙ ap string_bytes c.word-item.is in
    let other = subst (λ (w : List ℕ). (z : ℤ) → IsNumber z → w ≢ spelled z) word c.in_default.ensures in
    leaves_entries string_bytes c.args.words.now c.loop-word.word-index _ c.loop-word.numbers.items _ c.loop-word-test.true
    c.loop-word.invariant.0 c.loop-word.invariant.1 other (omega (arith, c.len.ensures, c.loop-word.numbers.ok))

pub loop-word-preserved : goal.loop-word-preserved
loop-word-preserved c =
    let z = c.in-Some.z in
    let here = c.in-Some.ensures in
    let word = c.as_bytes.ensures.value ∙ ap string_bytes c.word-item.is in
    let pushed : c.push.new.self.items ≡ c.loop-word.numbers.items ++ z ∷ [] =
    c.in-Ok.ensures.items ∙ ap (λ (v : ℤ). c.loop-word.numbers.items ++ v ∷ []) (same_number z here.0) in
    subst
    (λ (zs : List ℤ). AllByRecursion IsNumber zs × (map string_bytes (take (c.loop-word.word-index + 1) c.args.words.now) ≡ map spelled zs))
    (sym pushed) (
      each_push IsNumber _ z c.loop-word.invariant.0 here.0,
      spelled_more string_bytes c.args.words.now c.loop-word.word-index _ c.loop-word.numbers.items z c.loop-word-test.true
          c.loop-word.invariant.1 (sym word ∙ here.1),
    )
