use Rattle.std.proofs.Common.{arith}
use Rattle.std.proofs.lemmas.Int.{ints}
use Rattle.tv_laws_series.proofs.Exponents.{above_is}
use Rattle.tv_report_reader.proofs.series.span.Goals as goal

pub returns : goal.returns
returns c = let a = c.requires.from in let b = c.requires.to in let o = above_is c.args.from c.args.to in omega (arith, ints)
