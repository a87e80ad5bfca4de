-- The reports of the tests can be checked.
--
-- tested-normalized its series are normalized
-- tested-checkable  such a report can be checked
use Rattle.std.specs.Prelude.{◌≡◌, ◌≢◌, zero, suc, ℤ, pos, negsuc, ◌≤ℤ◌, [], ◌∷◌}
use Rattle.std.proofs.Common.{refl, arith, inl, inr}
use Rattle.std.proofs.lemmas.Int.{ints}
use Rattle.tv_ring.specs.Whole.{wholes}
use Rattle.tv_ring.specs.Sums.{at}
use Rattle.tv_laws_series.specs.Terms.{Terms, above}
use Rattle.tv_spec_series.specs.Families.{classes, put, find, comes_before, coefficient, coefficient_of}
use Rattle.tv_spec_katz.specs.Relations.{IsNormalized}
use Rattle.tv_cert.specs.Verified.{IsCheckable}
use Rattle.tv_cert.specs.Tested.{one, none, tested, tested_integer}

tested-unit : (s : Terms ℤ) → coefficient_of wholes (tested s) none (pos 0) ≡ pos 1
unfolding put find comes_before coefficient at above
tested-unit s = refl

tested-none : (s : Terms ℤ) (n : ℤ) → n ≤ℤ pos 3 → n ≢ pos 0 → coefficient_of wholes (tested s) none n ≡ pos 0
unfolding put find comes_before coefficient at above
tested-none s (negsuc n) h other = refl
tested-none s (pos zero) h other = absurd (other refl)
tested-none s (pos (suc zero)) h other = refl
tested-none s (pos (suc (suc zero))) h other = refl
tested-none s (pos (suc (suc (suc zero)))) h other = refl
tested-none s (pos (suc (suc (suc (suc n))))) h other = absurd (omega (arith, ints))

tested-classes : (s : Terms ℤ) → classes (tested s).rows ≡ none ∷ one ∷ []
unfolding put comes_before
tested-classes s = refl

tested-normalized : (s : Terms ℤ) → IsNormalized (pos 3) (tested s)
tested-normalized s = record {
  unit = tested-unit s;
  none = tested-none s;
  others = rw (tested-classes s) (inl refl, (inr (record { entries = refl; degree = omega (arith, ints) }), tt));
}

pub tested-checkable : (s : Terms ℤ) (x : ℤ) → IsCheckable (tested s) (tested_integer x)
tested-checkable s x = record {
  extractable = record {
    least = omega (arith, ints);
    most = omega (arith, ints);
    least_degree = omega (arith, ints);
    most_degree = omega (arith, ints);
    normalized = tested-normalized s;
    entries = rw (tested-classes s) ((omega arith, tt), ((omega arith, tt), tt));
  };
  heights = refl;
  within = (omega (arith, ints), tt);
  entries = ((omega arith, tt), tt);
}
