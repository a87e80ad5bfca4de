-- The ways up to a slice, where all places are replaced.
use Rattle.std.specs.Prelude.{◌-◌, pos, ◌+ℤ◌, cond, nat_le, filter}
use Rattle.std.proofs.Common.{sym, ap, ◌∙◌}
use Rattle.tv_spec_slices.specs.Slices.{interlaces, extras_of}
use Rattle.tv_spec_slices.specs.Paths.{fitting, ways_at}
use Rattle.tv_laws_slices.proofs.Sums.{sum_of-filter}
use Rattle.tv_laws_slices.proofs.Pushed.{sum_of-all, ways-next}
use Rattle.tv_laws_sums.specs.Mixed.{grows, value, mixed}
use Rattle.tv_laws_sums.specs.Sums.{charged, spent, through}
use Rattle.tv_laws_sums.specs.Laws.{IsLow, LastSums, SumsAreWays}
use Rattle.tv_laws_sums.proofs.Running.{sum_of-cond}
use Rattle.tv_laws_sums.proofs.Both.{last-interlaces, last-spends}

pub last-sums : LastSums
unfolding through
last-sums legs k t top n slices b c are f low all =
    sum_of-all (IsLow top n) (λ a. cond (mixed (grows t) top n n (value top a) (value top b)) (charged (ways_at legs k t a) (spent legs t n n (value top b)) c) 0)
    (λ a. cond (interlaces t a b) (charged (ways_at legs k t a) (extras_of legs (t +ℤ pos 1) b) c) 0)
    (λ a is. ap (λ q. cond q (charged (ways_at legs k t a) (spent legs t n n (value top b)) c) 0) (last-interlaces t top n a b is low)
    ∙ ap (λ x. cond (interlaces t a b) (charged (ways_at legs k t a) x c) 0) (last-spends legs t top n b are f low)) slices all

pub sums-are-ways : SumsAreWays
sums-are-ways legs k t top n b c are from f low all =
    let x = extras_of legs (t +ℤ pos 1) b in
    last-sums legs k t top n (fitting legs t k) b c are f low all
    ∙ (sym (sum_of-filter (λ a. charged (ways_at legs k t a) x c) (λ a. interlaces t a b) (fitting legs t k))
    ∙ (sum_of-cond (nat_le x c) (λ a. ways_at legs k t a (c - x)) (filter (λ a. interlaces t a b) (fitting legs t k))
    ∙ ways-next legs k t b c from))
