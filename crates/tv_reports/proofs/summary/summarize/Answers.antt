use Rattle.std.proofs.Common.{◌≡◌, arith, rules, w64}
use Rattle.std.specs.Int.{w128}
use Rattle.std.proofs.lemmas.Int.{to_z-of_z, fits_signed_from_abs}
use Rattle.tv_spec_text.specs.Reports.{IsPrintable}
use Rattle.tv_spec_reports.specs.Summaries.{zero_in}
use Rattle.tv_reports.proofs.Counts.{zero_small}
use Rattle.tv_reports.proofs.summary.summarize.Goals as goal

pub returns-clause-small : goal.returns-clause-small
returns-clause-small c small =
    let zero : c.zero_in.result ≡ zero_in c.args.upto c.args.sections.now = rw (to_z-of_z w64 c.args.upto c.ranges.upto) at c.zero_in.ensures in
    let printable : IsPrintable c.zero_in.result = rw zero (zero_small c.args.upto c.args.sections.now small) in
    record {
      classes = search rules;
      terms = c.terms_in.ensures.small;
      zero = rw (to_z-of_z w128 c.zero_in.result (fits_signed_from_abs w128 c.zero_in.result (omega (arith, printable)))) printable;
    }
