use Rattle.std.proofs.Common.{◌≤◌, ap, length, arith}
use Rattle.tv_spec_plane.specs.Web.{compact}
use Rattle.tv_spec_text.specs.Checks.{edge_line}
use Rattle.tv_reports.proofs.Printing.{lines-whole}
use Rattle.tv_reports.proofs.check.put_edges.Goals as goal

pub returns : goal.returns
returns c =
    let all : length (compact c.args.web.now) ≤ c.loop-e.e = omega (arith, ap length c.compact.ensures.value) in
    lines-whole (edge_line c.args.web.now) _ _ (compact c.args.web.now) c.loop-e.e all c.loop-e.invariant
