use Rattle.std.proofs.Common.{◌≡◌, ◌+◌, ◌++◌, ◌∷◌, [], ◌∙◌, List, ap, subst, sym, take, Some, ℤ}
use Rattle.std.specs.List.{AllByRecursion}
use Rattle.serde_json.specs.Find.{as_array}
use Rattle.serde_json.specs.View.{view, items_view}
use Rattle.tv_text.proofs.Spellings.{same_number}
use Rattle.tv_lattice.proofs.Each.{each_push}
use Rattle.tv_spec_text.specs.Lines.{IsNumber}
use Rattle.tv_spec_json.specs.Files.{whole, items}
use Rattle.tv_json.proofs.Arrays.{other_item, items-more, whole-array}
use Rattle.tv_json.proofs.items.numbers.Goals as goal

pub returns-in-None : goal.returns-in-None
returns-in-None c =
    let read : Some (items_view c.deref-item-items.result.now) ≡ as_array (view c.args.value.now) = ap (λ vs. Some (items_view vs)) c.deref-item-items.ensures.value ∙ c.in-Some.ensures in
    other_item whole IsNumber (view c.args.value.now) c.deref-item-items.result.now c.loop-item.item-index c.item-item.result read c.loop-item-test.true (λ z h e. c.in-None.ensures z h (subst (λ v. view v ≡ whole z) (sym c.item-item.is) e))

pub loop-item-preserved : goal.loop-item-preserved
loop-item-preserved c =
    let z = c.in-Some-number.z in
    let here = c.in-Some-number.ensures in
    let pushed : c.push.new.self.items ≡ c.loop-item.numbers.items ++ z ∷ [] = c.in_ok-push-in-Some-number.ensures.items ∙ ap (λ (v : ℤ). c.loop-item.numbers.items ++ v ∷ []) (same_number z here.0) in
    let seen = subst (λ v. view v ≡ whole z) c.item-item.is here.1 in
    subst (λ (zs : List ℤ). AllByRecursion IsNumber zs × (items_view (take (c.loop-item.item-index + 1) c.deref-item-items.result.now) ≡ items whole zs)) (sym pushed) (
      each_push IsNumber _ z c.loop-item.invariant.0 here.0,
      items-more whole c.deref-item-items.result.now c.loop-item.numbers.items c.loop-item.item-index _ z c.loop-item.invariant.1 c.loop-item-test.true seen,
    )

pub returns : goal.returns
returns c =
    let read : Some (items_view c.deref-item-items.result.now) ≡ as_array (view c.args.value.now) = ap (λ vs. Some (items_view vs)) c.deref-item-items.ensures.value ∙ c.in-Some.ensures in
    (c.loop-item.invariant.0, whole-array whole (view c.args.value.now) c.deref-item-items.result.now c.loop-item.numbers.items c.loop-item.item-index read c.loop-item-test.false c.loop-item.invariant.1)
