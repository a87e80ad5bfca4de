use Rattle.std.proofs.Common.{◌≡◌, ◌∷◌, [], ◌∙◌, ap, Some, arith}
use Rattle.serde_json.specs.Find.{as_array}
use Rattle.serde_json.specs.View.{view, items_view}
use Rattle.tv_spec_json.specs.Files.{whole}
use Rattle.tv_json.proofs.Arrays.{other_length}
use Rattle.tv_json.proofs.items.point.Goals as goal

pub returns-in_default : goal.returns-in_default
returns-in_default c =
    let read : Some (items_view c.as_slice.result.now) ≡ as_array (view c.args.value.now) = ap (λ vs. Some (items_view vs)) c.as_slice.ensures.value ∙ c.in_ok-as_array.ensures in
    λ p h. other_length whole (view c.args.value.now) c.as_slice.result.now (p.x ∷ p.y ∷ []) read (λ e. omega (arith, e, c.in_default.len_below))

pub returns-in_default-2 : goal.returns-in_default-2
returns-in_default-2 c =
    let read : Some (items_view c.as_slice.result.now) ≡ as_array (view c.args.value.now) = ap (λ vs. Some (items_view vs)) c.as_slice.ensures.value ∙ c.in_ok-as_array.ensures in
    λ p h. other_length whole (view c.args.value.now) c.as_slice.result.now (p.x ∷ p.y ∷ []) read (λ e. omega (arith, e, c.in_default.len_at_least))
