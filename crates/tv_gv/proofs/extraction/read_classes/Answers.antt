use Rattle.std.proofs.Common.{rules, ◌≡◌, refl, arith}
use Rattle.tv_integers.specs.Kept.{without_integers}
use Rattle.tv_gv.proofs.Zero.{begins-way}
use Rattle.tv_gv.proofs.Reading.{reads-all}
use Rattle.tv_gv.proofs.extraction.read_classes.Goals as goal

pub loop-k-init : goal.loop-k-init
loop-k-init c =
    let none : c.new-integers.result ≡ without_integers c.args.reduced.now.heights = search rules in
    rw (none, c.in_ok-lines.ensures.value) (record {
      heights = refl;
      way = begins-way c.args.reduced.now c.args.slope c.args.classes.now c.known.ensures.family c.requires.extractable
          c.requires.slope c.requires.closed;
    })

pub returns-clause-value : goal.returns-clause-value
returns-clause-value c =
    reads-all c.args.reduced.now c.args.slope c.args.classes.now c.loop-k.integers c.loop-k.lines.items c.loop-k.k (omega arith)
    c.loop-k.invariant
