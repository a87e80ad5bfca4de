use Rattle.std.proofs.Common.{◌≡◌, ◌<◌, ◌≤◌, length, arith, refl}
use Rattle.tv_reports.proofs.SameClasses.{classes_more, classes_all}
use Rattle.tv_reports.proofs.residue_tests.have_one_list.Goals as goal

pub loop-k-preserved : goal.loop-k-preserved
loop-k-preserved c =
    let xs = c.args.first.now.rows in let ys = c.args.second.now.rows in
    let within : c.loop-k.k < length xs = omega arith in
    let same : length xs ≡ length ys = omega arith in
    classes_more xs ys c.loop-k.k within same c.loop-k.invariant (c.if-not-have_one_class.ensures refl)

pub returns : goal.returns
returns c =
    let xs = c.args.first.now.rows in let ys = c.args.second.now.rows in
    let all : length xs ≤ c.loop-k.k = omega arith in
    let same : length xs ≡ length ys = omega arith in
    λ _. classes_all xs ys c.loop-k.k all same c.loop-k.invariant
