-- The limits of what words may ask for and of what is read, as a law.
--
-- WordsHaveLimits == sides from 1 to 7, degrees to 24 and orders from -64 to 64 are those that words may ask for; a file has at most
--                    65,536 bytes, and a report that is checked 16,777,216
use Rattle.std.specs.Prelude.{◌≡◌, pos, neg_ℤ}
use Rattle.tv_spec_plane.specs.declared.limits.TheConstants.{MOST_BYTES}
use Rattle.tv_report_reader.specs.declared.limits.TheConstants.{MOST_REPORT_BYTES}
use Rattle.tv_words.specs.declared.command.TheConstants.{MIN_SIDE, MAX_SIDE, MAX_DEGREE, MIN_ORDER, MIN_INTEGERS_ORDER, MAX_ORDER}

pub record WordsHaveLimits : Type 0 where
  pub least_side : MIN_SIDE ≡ pos 1
  pub greatest_side : MAX_SIDE ≡ pos 7
  pub greatest_degree : MAX_DEGREE ≡ pos 24
  pub least_order : MIN_ORDER ≡ neg_ℤ (pos 64)
  pub least_integers_order : MIN_INTEGERS_ORDER ≡ pos 1
  pub greatest_order : MAX_ORDER ≡ pos 64
  pub most_bytes : MOST_BYTES ≡ 65536
  pub most_report_bytes : MOST_REPORT_BYTES ≡ 16777216
