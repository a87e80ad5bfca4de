use Rattle.std.proofs.Common.{rules, refl, w64, SFits, arith}
use Rattle.std.proofs.lemmas.Int.{ints, to_z-of_z}
use Rattle.tv_gv.proofs.tests.is_extractable.Goals as goal

pub returns-then-begins_with_one : goal.returns-then-begins_with_one
returns-then-begins_with_one c =
    let fits_upto : SFits w64 c.upto.result = search rules in
    let fits_upto_again : SFits w64 c.upto-else-upto-lt1.result = search rules in
    let fits_top : SFits w64 c.top.result = search rules in
    let fits_top_again : SFits w64 c.top-else-top-lt0.result = search rules in
    let least = rw (to_z-of_z w64 c.upto.result fits_upto, c.upto.ensures.value) at c.if-upto-lt1.false in
    let most = rw (to_z-of_z w64 c.upto-else-upto-lt1.result fits_upto_again, c.upto-else-upto-lt1.ensures.value) at c.if-upto-gt64.false in
    let least_degree = rw (to_z-of_z w64 c.top.result fits_top, c.top.ensures.value) at c.if-top-lt0.false in
    let most_degree = rw (to_z-of_z w64 c.top-else-top-lt0.result fits_top_again, c.top-else-top-lt0.ensures.value) at c.if-top-gt24.false in
    record {
      value = λ holds. record {
        least = omega (arith, ints);
        most = omega (arith, ints);
        least_degree = omega (arith, ints);
        most_degree = omega (arith, ints);
        normalized = record {
          unit = c.if-begins_with_one.ensures.unit refl;
          none = λ n within other. c.if-begins_with_one.ensures.none refl n other;
          others = c.are_small.ensures.others holds;
        };
        entries = c.are_small.ensures.entries holds;
      };
    }
