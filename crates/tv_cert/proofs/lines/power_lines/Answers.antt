use Rattle.std.proofs.Common.{arith}
use Rattle.tv_cert.proofs.PowerLines.{lines-none, lines-more, lines-all}
use Rattle.tv_cert.proofs.lines.power_lines.Goals as goal

pub loop-k-init : goal.loop-k-init
loop-k-init c = lines-none c.args.report.now.series c.args.report.now.integers c.args.slope c.new-lines.result.items c.new-lines.ensures.items

pub loop-k-preserved : goal.loop-k-preserved
loop-k-preserved c =
    lines-more c.args.report.now.series c.args.report.now.integers c.args.slope c.loop-k.k c.loop-k.lines.items c.push.new.self.items
    c.in_ok-power_line.field-0 (omega arith) c.loop-k.invariant c.in_ok-power_line.ensures.class c.in_ok-power_line.ensures.powers
    c.in_ok-push.ensures.items

pub returns-clause-lines : goal.returns-clause-lines
returns-clause-lines c =
    lines-all c.args.report.now.series c.args.report.now.integers c.args.slope c.loop-k.k c.loop-k.lines.items (omega arith)
    c.loop-k.invariant
