-- The rows of the diagonals, as they are put together and read.
use Rattle.std.proofs.Common.{◌≡◌, ℕ, zero, suc, ◌+◌, ◌*◌, ◌<◌, ℤ, pos, ◌-ℤ◌, ◌<ℤ◌, List, [], ◌∷◌, ◌++◌, map, length, get_or, arith, sym, ◌∙◌, ap}
use Rattle.std.specs.List.{range_with_len}
use Rattle.std.proofs.lemmas.Int.{ints}
use Rattle.std.proofs.lemmas.List.{length-map}
use Rattle.tv_laws_series.specs.Terms.{listed}
use Rattle.tv_laws_series.proofs.Listed.{length-listed, listed-none, listed_push}
use Rattle.tv_paths.proofs.Entries.{map-joined}

pub before-end : (d : ℤ) (i k e x : ℕ) → d ≡ pos i -ℤ pos (k + x) → x ≡ e → i < 2 * (k + x) → d <ℤ pos (k + e)
before-end d i k e x at is l = omega (arith, ints)

module _ {V B : Type 0} (items : V → B) (g : ℕ → B) where
  pub row-push : (n : ℕ) (old new : List V) (v : V) → map items old ≡ listed g n → new ≡ old ++ v ∷ [] → items v ≡ g n → map items new ≡ listed g (n + 1)
  row-push n old new v before push value = listed_push g n (map items old) (map items new) (items v) before (ap (map items) push ∙ map-joined items old (v ∷ [])) value

  pub row-first : (old new : List V) (v : V) → old ≡ [] → new ≡ old ++ v ∷ [] → items v ≡ g 0 → map items new ≡ listed g 1
  row-first old new v none push value = row-push 0 old new v (ap (map items) none ∙ sym (listed-none g)) push value

  read-from : (a n i : ℕ) (xs : List V) (v : V) → map items xs ≡ map g (range_with_len a n) → i < n → v ≡ get_or xs i v → items v ≡ g (a + i)
  read-from a zero i xs v is l read = absurd (omega arith)
  read-from a (suc n) i [] v is l read = absurd (let e : [] ≡ g a ∷ map g (range_with_len (a + 1) n) = is in cc)
  read-from a (suc n) zero (x ∷ xs) v is l read =
      let both : items x ∷ map items xs ≡ g a ∷ map g (range_with_len (a + 1) n) = is in
      let head : items x ≡ g a = cc in
      let z : a ≡ a + 0 = omega arith in
      ap items read ∙ (head ∙ ap g z)
  read-from a (suc n) (suc i) (x ∷ xs) v is l read =
      let both : items x ∷ map items xs ≡ g a ∷ map g (range_with_len (a + 1) n) = is in
      let tail : map items xs ≡ map g (range_with_len (a + 1) n) = cc in
      let s : (a + 1) + i ≡ a + suc i = omega arith in
      read-from (a + 1) n i xs v tail (omega arith) read ∙ ap g s

  pub row-read : (n i : ℕ) (xs : List V) (v : V) → map items xs ≡ listed g n → i < n → v ≡ get_or xs i v → items v ≡ g i
  unfolding listed
  row-read n i xs v is l read = let z : 0 + i ≡ i = omega arith in read-from 0 n i xs v is l read ∙ ap g z

  pub row-long : (n : ℕ) (xs : List V) → map items xs ≡ listed g n → length xs ≡ n
  row-long n xs is = sym (length-map xs items) ∙ (ap length is ∙ length-listed g n)
