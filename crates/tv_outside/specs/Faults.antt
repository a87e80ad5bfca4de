-- Counts, and what one call does to a count of faults.
--
-- last_count              == the number at which a count stops
-- next_count n            == n counted one further
-- count_after before r    == a count of faults after a call that answered r: one further where r is an error
-- Rose before now         == a count rose, or stands at its last number
-- RoseOnce before now     == a count rose by one, or stands at its last number
use Rattle.std.specs.Prelude.{◌≡◌, ℕ, ◌+◌, ◌-◌, ◌^◌, ◌≤◌, min, Result, is_ok, if◌then◌else◌}

abbrev pub last_count : ℕ
last_count = 2 ^ 64 - 1

abbrev pub next_count : ℕ → ℕ
next_count n = min (n + 1) last_count

abbrev pub count_after : {A E : Type 0} → ℕ → Result A E → ℕ
count_after before r = if is_ok r then before else next_count before

abbrev pub Rose : ℕ → ℕ → Type 0
Rose before now = next_count before ≤ now

abbrev pub RoseOnce : ℕ → ℕ → Type 0
RoseOnce before now = now ≡ next_count before
