use Rattle.std.proofs.Common.{◌∙◌, ap}
use Rattle.tv_text.specs.Rows.{texts}
use Rattle.tv_text.proofs.BadLines.{lines-count}
use Rattle.tv_text.proofs.file.read_file.Goals as goal

pub read_lines-requires : goal.read_lines-requires
read_lines-requires c = lines-count (λ w. w.now) c.deref.result.now c.args.bytes.now (ap texts c.deref.ensures.value ∙ c.in_ok-lines.ensures) c.if-bytes-gt-MOST_BYTES.false
