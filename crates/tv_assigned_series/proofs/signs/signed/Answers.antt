use Rattle.std.proofs.Common.{◌∙◌, sym, w64, to_z, of_z}
use Rattle.tv_laws_series.proofs.Listed.{listed-none, listed_push}
use Rattle.tv_assigned_series.specs.Terms.{signed}
use Rattle.tv_assigned_series.proofs.signs.signed.Goals as goal

pub loop-place-init : goal.loop-place-init
loop-place-init g c = c.new-coefficients.ensures.items ∙ sym (listed-none _)

pub loop-place-preserved : goal.loop-place-preserved
loop-place-preserved g c = listed_push (signed g.C.Ring.ring c.args.series.now.coefficients (to_z w64 (of_z w64 c.args.first))) c.loop-place.place c.loop-place.coefficients.items _ c.in_ok-signed_at.field-0 c.loop-place.invariant c.in_ok-push.ensures.items c.in_ok-signed_at.ensures.value
