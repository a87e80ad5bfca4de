-- Words that spell the entries of a class.
--
-- SpellEntries ws v    == the words are the spellings of the entries, each of at most nine digits
-- LeavesEntries ws k   == behind the spellings of some entries stands a word that spells no number of at most nine digits, and k is its
--                         place where two words come before all of these
-- IsEntriesError ws e  == e is such a place, or want of memory
use Rattle.std.specs.Prelude.{◌≡◌, ◌≢◌, ℕ, ◌+◌, ℤ, List, ◌∷◌, ◌++◌, map, length, ⊤}
use Rattle.std.specs.List.{AllByRecursion}
use Rattle.tv_spec_text.specs.Lines.{Word, IsNumber, spelled}
use Rattle.tv_words.specs.declared.entries.EntriesError.{EntriesError}
use Rattle.tv_words.specs.declared.entries.EntriesError.TheVariants.{At, Memory}

pub record SpellEntries (ws : List Word) (v : List ℤ) : Type 0 where
  pub small : AllByRecursion IsNumber v
  pub same : ws ≡ map spelled v

pub record LeavesEntries (ws : List Word) (place : ℕ) : Type 0 where
  pub before : List ℤ
  pub word : Word
  pub behind : List Word
  pub small : AllByRecursion IsNumber before
  pub same : ws ≡ map spelled before ++ word ∷ behind
  pub other : (z : ℤ) → IsNumber z → word ≢ spelled z
  pub place_is : place ≡ 2 + length before

abbrev pub IsEntriesError : List Word → EntriesError → Type 0
IsEntriesError ws (At place) = LeavesEntries ws place
IsEntriesError ws Memory = ⊤
