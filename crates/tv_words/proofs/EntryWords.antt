-- The entries of a class that words spell.
use Rattle.std.proofs.Common.{◌≡◌, ◌≢◌, ℕ, ◌+◌, ◌<◌, ◌≤◌, ℤ, pos, negsuc, List, [], ◌∷◌, ◌++◌, length, map, take, drop, get_or, sym, ap, ◌∙◌, arith}
use Rattle.std.proofs.lemmas.List.{take-append-drop, drop_more, map-append}
use Rattle.std.specs.List.{AllByRecursion}
use Rattle.tv_spec_text.specs.Lines.{Word, IsNumber, spelled}
use Rattle.tv_spec_plane.specs.declared.limits.TheConstants.{MOST_POINTS}
use Rattle.tv_lattice.specs.Classes.{IsEntry, IsEntries}
use Rattle.tv_text.proofs.Entries.{number_is_entry}
use Rattle.tv_words.specs.Entries.{LeavesEntries}

-- a word that spells no number, behind those that were read
pub leaves_entries : {A : Type 0} (f : A → Word) (xs : List A) (i : ℕ) (d : A) (zs : List ℤ) (place : ℕ) → i < length xs → AllByRecursion IsNumber zs → map f (take i xs) ≡ map spelled zs → ((z : ℤ) → IsNumber z → f (get_or xs i d) ≢ spelled z) → place ≡ 2 + length zs → LeavesEntries (map f xs) place
leaves_entries f xs i d zs place l small e other p = record {
  before = zs;
  word = f (get_or xs i d);
  behind = map f (drop (i + 1) xs);
  small = small;
  same = ap (map f) (sym (take-append-drop i xs) ∙ ap (λ ys. take i xs ++ ys) (drop_more xs i d l))
      ∙ map-append f (take i xs) (get_or xs i d ∷ drop (i + 1) xs) ∙ ap (λ ws. ws ++ f (get_or xs i d) ∷ map f (drop (i + 1) xs)) e;
  other = other;
  place_is = p;
}

small_entries : (v : List ℤ) → AllByRecursion IsNumber v → AllByRecursion IsEntry v
small_entries [] h = tt
small_entries (z ∷ zs) h = (number_is_entry z h.0, small_entries zs h.1)

pub numbers_are_entries : (v : List ℤ) → length v ≤ MOST_POINTS → AllByRecursion IsNumber v → IsEntries v
numbers_are_entries v few h = record { few = few; small = small_entries v h }
