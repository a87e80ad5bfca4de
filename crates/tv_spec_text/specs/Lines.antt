-- Words, lines and numbers.
--
-- Word             == the codes of a word
-- Line             == the words of a line
-- words line       == the parts of a line between its spaces, each space ending one
-- word_lines bytes == the words of each line; a line ends with LF, with CR LF, or with the end of the bytes
-- line_text ws     == the words, a space between two of them, and LF
-- text_of lines    == the texts of the lines, one after another
-- spelled z        == the one spelling of a whole number: 0, or digits of which the first isn't 0, behind a - where it
--                     is below 0
-- IsNumber z       == z has at most nine digits
-- IsCount n        == n has at most nine digits
use Rattle.std.specs.Prelude.{ℕ, suc, ◌^◌, ◌<◌, ℤ, pos, negsuc, List, [], ◌∷◌, ◌++◌, map, ◌==◌}
use Rattle.std.specs.List.{flat_map, slice_split, join_with_byte}
use Rattle.std.specs.Str.Lines.{lines}
use Rattle.std.specs.Fmt.{signed_decimal}

abbrev pub Word : Type 0
Word = List ℕ

abbrev pub Line : Type 0
Line = List Word

abbrev pub words : List ℕ → Line
words line = slice_split (λ b. b == 32) line

abbrev pub word_lines : List ℕ → List Line
word_lines bytes = map words (lines bytes)

unfoldable pub line_text : Line → List ℕ
line_text ws = join_with_byte 32 ws ++ 10 ∷ []

abbrev pub text_of : List Line → List ℕ
text_of ls = flat_map line_text ls

abbrev pub spelled : ℤ → Word
spelled z = signed_decimal z

-- the magnitude of negsuc n is n + 1
abbrev pub IsNumber : ℤ → Type 0
IsNumber (pos n) = n < 10 ^ 9
IsNumber (negsuc n) = suc n < 10 ^ 9

abbrev pub IsCount : ℕ → Type 0
IsCount n = n < 10 ^ 9
