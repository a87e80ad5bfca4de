-- The laws, from their parts.
use Rattle.std.specs.Prelude.{pos}
use Rattle.tv_spec_katz.specs.Integers.{integers, candidates}
use Rattle.tv_laws_integers.specs.Laws.{IntegersAre, OnlyWhereTheyBegin, IntegersListed, IntegersGoOn, AgreeEverywhere, SlopeOfSeries, ReducedNormalized, MismatchFirst, MismatchSeen}
use Rattle.tv_laws_integers.proofs.Candidates.{candidates_closed}
use Rattle.tv_laws_integers.proofs.Existence.{agrees_through, kept, extends, are_integers, integers_listed as listed_integers}
use Rattle.tv_laws_integers.proofs.Only.{only_at}
use Rattle.tv_laws_integers.proofs.Slopes.{slopes-most, slopes-least, integers_within, series_within}
use Rattle.tv_laws_integers.proofs.Normalized.{reduced_normalized}
use Rattle.tv_laws_integers.proofs.Mismatches.{mismatch_of, mismatch_at}

pub integers_are : IntegersAre
unfolding integers
integers_are D f normal = are_integers D f (candidates D f) (candidates_closed D (pos 1) f normal) normal

pub only_where_they_begin : OnlyWhereTheyBegin
only_where_they_begin D hs is js first second own other = only_at hs D is js first second own other

pub integers_listed : IntegersListed
integers_listed D f vs is normal closed are = listed_integers D f vs closed normal is are

pub integers_go_on : IntegersGoOn
integers_go_on D f read back is normal closed begun = record {
  are = extends D f read back closed is begun normal;
  kept = kept D f read back closed is begun;
}

pub agree_everywhere : AgreeEverywhere
agree_everywhere D N f vs is normal closed listed all = agrees_through D f N vs is closed normal listed all

pub slope_of_series : SlopeOfSeries
slope_of_series D f is c are = (
  λ h. series_within D f c is are (slopes-least D f.heights c is are.ordered h),
  λ begins. slopes-most D f.heights c is are.ordered (integers_within D f c begins is are),
)

pub reduced_is_normalized : ReducedNormalized
reduced_is_normalized w d n f graded each up is = reduced_normalized w d n f graded each up is

pub mismatch_first : MismatchFirst
mismatch_first D N f v n normal = (
  mismatch_of D N f (integers D f) v n (integers_are D f normal),
  λ mismatch. record { integers = integers D f; are = integers_are D f normal; mismatch = mismatch },
)

pub mismatch_seen : MismatchSeen
mismatch_seen D N f read back is v n up normal closed begun seen = mismatch_at D N f read back closed is begun v n seen up normal
