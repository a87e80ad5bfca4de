use Rattle.tv_reports.proofs.Sections.{sections_more}
use Rattle.tv_reports.proofs.series.sections_of.Goals as goal

pub loop-k-preserved : goal.loop-k-preserved
loop-k-preserved c =
    let pushed = c.in_ok-push_section.ensures.value in
    record {
      value = sections_more c.args.series.now.heights c.args.series.now.rows c.loop-k.k pushed.0 c.loop-k.sections.items _ pushed.1 c.loop-k.invariant.value pushed.2;
      small = c.in_ok-push_section.ensures.small c.loop-k.invariant.small;
    }
