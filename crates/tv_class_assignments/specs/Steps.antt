-- How many steps there are at most, so that they end.
--
-- options count n k == how many diagrams there are from number k of n cells on, of fewer than count cells, and sizes
-- branch count i    == the steps of a new frame with i edges behind it
-- steps count i fs  == the steps of the frames on the first of i edges
use Rattle.std.specs.Prelude.{ℕ, zero, suc, ◌+◌, ◌-◌, ◌*◌, List, [], ◌∷◌, length, drop}
use Rattle.std.specs.List.{range_with_len}
use Rattle.tv_lemmas.specs.Sums.{sum_of}
use Rattle.tv_partition.specs.Rows.{diagrams}
use Rattle.tv_class_assignments.specs.declared.frame.Frame.{Frame}

unfoldable pub options : ℕ → ℕ → ℕ → ℕ
options count n k =
    length (drop k (diagrams n)) + sum_of (λ m. suc (length (diagrams m))) (range_with_len (suc n) (count - suc n))

unfoldable pub branch : ℕ → ℕ → ℕ
branch count zero = 1
branch count (suc i) = suc (options count 0 0 * suc (branch count i))

abbrev pub steps : ℕ → ℕ → List Frame → ℕ
steps count i [] = 0
steps count zero (f ∷ fs) = 1
steps count (suc i) (f ∷ fs) = suc (options count f.size f.place * suc (branch count i)) + steps count i fs
