-- The place of what is looked for, or the number of items.
use Rattle.std.specs.Prelude.{◌≡◌, List, length, Bool, true, false, nat_lt, cond, Some, None}
use Rattle.std.specs.Option.{unwrap_or}
use Rattle.std.specs.List.{position, position_or_len}
use Rattle.std.proofs.Common.{ℕ, ◌≤◌, refl, arith}
use Rattle.std.proofs.lemmas.Bool.Decides.{nat_tests}
use Rattle.std.proofs.lemmas.List.Sums.{prefix_len-le-length}

by_test : (k n : ℕ) → k ≤ n → (b : Bool) → nat_lt k n ≡ b → unwrap_or (cond b (Some k) None) n ≡ k
by_test k n l true e = refl
by_test k n l false e = grind (arith, nat_tests)

pub place_or_len : {A : Type 0} (p : A → Bool) (xs : List A) → unwrap_or (position p xs) (length xs) ≡ position_or_len p xs
place_or_len p xs = by_test (position_or_len p xs) (length xs) (prefix_len-le-length _ xs) (nat_lt (position_or_len p xs) (length xs)) refl

pub place_within : {A : Type 0} (p : A → Bool) (xs : List A) → position_or_len p xs ≤ length xs
place_within p xs = prefix_len-le-length _ xs

pub ruleset places = (place_or_len, place_within)
