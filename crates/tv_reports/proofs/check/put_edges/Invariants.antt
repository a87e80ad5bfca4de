use Rattle.std.proofs.Common.{◌≡◌, ◌++◌, take}
use Rattle.std.specs.Prelude.{string_bytes}
use Rattle.std.specs.List.{flat_map}
use Rattle.tv_spec_plane.specs.Web.{compact}
use Rattle.tv_spec_text.specs.Lines.{line_text}
use Rattle.tv_spec_text.specs.Checks.{edge_line}
use Rattle.tv_reports.proofs.check.put_edges.Given as goal

abbrev pub invariant-loop-e : goal.invariant-loop-e
invariant-loop-e l = string_bytes l.text ≡ string_bytes l.initial.text ++ flat_map (λ e. line_text (edge_line l.web e)) (take l.e (compact l.web))
