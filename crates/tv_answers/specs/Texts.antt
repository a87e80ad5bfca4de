-- Texts of refusals that no web decides.
--
-- memory_text, read_text == the texts of want of memory and of a failed read
-- words_text k           == the text that names the place k of the words
use Rattle.std.specs.Prelude.{ℕ, pos, List, [], ◌∷◌, codes}
use Rattle.tv_spec_text.specs.Lines.{line_text, spelled}

abbrev pub memory_text : List ℕ
memory_text = line_text (codes "refused" ∷ codes "memory" ∷ [])

abbrev pub read_text : List ℕ
read_text = line_text (codes "refused" ∷ codes "read" ∷ [])

abbrev pub words_text : ℕ → List ℕ
words_text place = line_text (codes "refused" ∷ codes "words" ∷ spelled (pos place) ∷ [])
