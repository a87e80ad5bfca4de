-- The edge rule of an accepted file's web, whose triangles are the file's own turned, and the signs that follow.
use Rattle.std.proofs.Common.{ℤ, length, ap, sym, ◌∙◌, subst}
use Rattle.std.specs.Prelude.{◌+ℤ◌, unsigned_abs, nat_eq}
use Rattle.tv_spec_plane.specs.Web.{even_sum, parity}
use Rattle.tv_spec_boxes.specs.Configurations.{configurations}
use Rattle.tv_laws_edges.specs.Rule.{HasEdgeRule}
use Rattle.tv_laws_tiled_edges.proofs.Rules.{has_edge_rule}
use Rattle.tv_laws_tiled_edges.proofs.Turned.{tiled-turned}
use Rattle.tv_laws_signs.proofs.Signs.{configuration_has_sign, counted_sign}
use Rattle.tv_laws_signs.proofs.PartialSigns.{partial_has_sign}
use Rattle.tv_spec_json.specs.Files.{is_json}
use Rattle.tv_acceptance.specs.Acceptance.{turned_web}
use Rattle.tv_acceptance.proofs.Reading.{within_limits}
use Rattle.tv_acceptance.specs.Laws.{AcceptedHasEdgeRule, AcceptedConfigurationSign, AcceptedPartialSign, AcceptedNoneCancels, AcceptedSizeIsNumber}
use Rattle.tv_lemmas.proofs.Signs.{signed-size}

pub accepted_rule : AcceptedHasEdgeRule
accepted_rule bytes w accepted =
    let file = accepted.file in
    subst HasEdgeRule (sym accepted.sound.turned) (has_edge_rule (turned_web file) (within_limits (is_json bytes) bytes file accepted.read).coordinates (tiled-turned file.points file.triangles accepted.sound.tiled))

pub accepted_sign : AcceptedConfigurationSign
accepted_sign bytes w fixed c accepted = configuration_has_sign w fixed c (accepted_rule bytes w accepted)

pub accepted_partial_sign : AcceptedPartialSign
accepted_partial_sign bytes w t c accepted = partial_has_sign w t c (accepted_rule bytes w accepted)

pub accepted_number : AcceptedNoneCancels
accepted_number bytes w fixed v n accepted = counted_sign w fixed v n (accepted_rule bytes w accepted)

pub accepted_size : AcceptedSizeIsNumber
accepted_size bytes w fixed v n accepted =
    ap unsigned_abs (accepted_number bytes w fixed v n accepted)
    ∙ signed-size (nat_eq (parity (n +ℤ even_sum w.points v)) 0) (length (configurations w fixed v n))
