use Rattle.std.proofs.Common.{arith}
use Rattle.std.proofs.lemmas.Int.{ints}
use Rattle.tv_laws_series.proofs.Exponents.{above_is}
use Rattle.tv_laurent.proofs.exponents.places.Goals as goal

pub returns-clause-value : goal.returns-clause-value
returns-clause-value c = let a = c.requires.from in let b = c.requires.to in let o = above_is c.args.from c.args.to in omega (arith, ints)

pub returns-clause-small : goal.returns-clause-small
returns-clause-small c = let a = c.requires.from in let b = c.requires.to in omega (arith, ints)
