use Rattle.std.proofs.Common.{arith, pos, get_or}
use Rattle.std.proofs.lemmas.Int.{ints}
use Rattle.tv_lemmas.proofs.Members.{all-at}
use Rattle.tv_class_assignments.specs.Remaining.{IsWithin}
use Rattle.tv_class_assignments.proofs.Words.{read_entry, read_size, read_product, read_less, less-fits, less-bound}
use Rattle.tv_class_assignments.proofs.remaining.less_at.Goals as goal

pub overflow_sub-result : goal.overflow_sub-result
overflow_sub-result c =
    let y = get_or c.args.entries.now c.args.k (pos 0) in
    let within = all-at (IsWithin 0) c.args.entries.now (pos 0) c.requires.small c.args.k c.requires.within in
    rw (read_entry y within, read_size c.args.size c.from.result (omega (arith, ints)) c.requires.few, read_entry c.args.entry (omega arith), read_product c.args.size c.args.entry c.requires.few c.requires.entry) (less-fits c.args.size y c.args.entry c.requires.few within c.requires.entry)

pub returns-clause-value : goal.returns-clause-value
returns-clause-value c =
    let y = get_or c.args.entries.now c.args.k (pos 0) in
    let within = all-at (IsWithin 0) c.args.entries.now (pos 0) c.requires.small c.args.k c.requires.within in
    rw (read_entry y within, read_size c.args.size c.from.result (omega (arith, ints)) c.requires.few, read_entry c.args.entry (omega arith), read_product c.args.size c.args.entry c.requires.few c.requires.entry) (read_less c.args.size y c.args.entry c.requires.few within c.requires.entry)

pub returns-clause-bound : goal.returns-clause-bound
returns-clause-bound c =
    let y = get_or c.args.entries.now c.args.k (pos 0) in
    let within = all-at (IsWithin 0) c.args.entries.now (pos 0) c.requires.small c.args.k c.requires.within in
    rw (read_entry y within, read_size c.args.size c.from.result (omega (arith, ints)) c.requires.few, read_entry c.args.entry (omega arith), read_product c.args.size c.args.entry c.requires.few c.requires.entry, read_less c.args.size y c.args.entry c.requires.few within c.requires.entry) (less-bound c.args.size y c.args.entry c.requires.few within c.requires.entry)
