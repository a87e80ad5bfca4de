-- A text of plain words falls into the same lines again, and they into the same words.
--
-- Above n bs == each byte is greater than n
-- IsPlain l  == there is a word, and the bytes of all words are greater than that of a space
use Rattle.std.proofs.Common.{◌≡◌, ℕ, ◌-◌, ◌<◌, ◌≤◌, ◌==◌, List, [], ◌∷◌, ◌++◌, length, map, true, false, refl, ap, ◌∙◌, append_assoc, arith}
use Rattle.std.specs.Prelude.{nat_lt, slice_index}
use Rattle.std.specs.List.{All, AllByRecursion, list_all, slice_split, join_with_byte}
use Rattle.std.specs.Int.{IsInRange}
use Rattle.std.specs.Str.Lines.{lines, lines_of_parts, strip_carriage_return}
use Rattle.std.specs.Str.Parse.{AllDigits}
use Rattle.std.proofs.lemmas.Bool.{and_parts}
use Rattle.std.proofs.lemmas.Bool.Decides.{nat_tests}
use Rattle.std.proofs.lemmas.List.Elements.{All-from_recursion}
use Rattle.std.proofs.lemmas.List.Splits.{slice_split_none, slice_split_at, length-slice_split}
use Rattle.std.proofs.lemmas.Str.Parse.{digit_at}
use Rattle.tv_lemmas.proofs.Members.{all-append, all-onto, all-at}
use Rattle.tv_spec_text.specs.Lines.{Line, words, word_lines, line_text, text_of}

abbrev pub Above : ℕ → List ℕ → Type 0
Above n bs = AllByRecursion (λ b. n < b) bs

abbrev pub IsPlain : Line → Type 0
IsPlain [] = ⊥
IsPlain (w ∷ ws) = Above 32 w × AllByRecursion (Above 32) ws

-- ---- words

pub digits-above : (ds : List ℕ) → AllDigits 10 ds → Above 32 ds
digits-above [] all = tt
digits-above (d ∷ ds) all =
    let digit : IsInRange 48 57 d = digit_at (d ∷ ds) 0 all (omega arith) in
    (omega arith, digits-above ds all.1)

pub word-above : (bs : List ℕ) → list_all (nat_lt 32) bs ≡ true → Above 32 bs
word-above [] e = tt
word-above (b ∷ bs) e =
    let parts = and_parts (nat_lt 32 b) (list_all (nat_lt 32) bs) e in
    let first : 32 < b = grind (arith, nat_tests, parts.0) in (first, word-above bs parts.1)

-- ---- lines

-- a byte that is not above is none of them
other-byte : (n c : ℕ) (bs : List ℕ) → c ≤ n → Above n bs → All (λ b. (b == c) ≡ false) bs
other-byte n c bs h above = All-from_recursion (λ b. (b == c) ≡ false) bs
    (all-onto (λ b. n < b) (λ b. (b == c) ≡ false) (λ b g. grind (arith, nat_tests)) bs above)

words-join : (w : List ℕ) (ws : Line) → Above 32 w → AllByRecursion (Above 32) ws → words (join_with_byte 32 (w ∷ ws)) ≡ w ∷ ws
words-join w [] above all = slice_split_none (λ b. b == 32) w (other-byte 32 32 w (omega arith) above)
words-join w (v ∷ vs) above all =
    slice_split_at (λ b. b == 32) w 32 (join_with_byte 32 (v ∷ vs)) (other-byte 32 32 w (omega arith) above) refl
    ∙ ap (λ z. w ∷ z) (words-join v vs all.0 all.1)

less-above : (bs : List ℕ) → Above 32 bs → Above 31 bs
less-above bs above = all-onto (λ b. 32 < b) (λ b. 31 < b) (λ b h. omega arith) bs above

join-above : (w : List ℕ) (ws : Line) → Above 32 w → AllByRecursion (Above 32) ws → Above 31 (join_with_byte 32 (w ∷ ws))
join-above w [] above all = less-above w above
join-above w (v ∷ vs) above all =
    all-append (λ b. 31 < b) w (32 ∷ join_with_byte 32 (v ∷ vs)) (less-above w above) (omega arith, join-above v vs all.0 all.1)

strip-above : (bs : List ℕ) → Above 31 bs → strip_carriage_return bs ≡ bs
strip-above [] above = refl
strip-above (b ∷ bs) above =
    let last : 31 < slice_index (b ∷ bs) (length (b ∷ bs) - 1) = all-at (λ x. 31 < x) (b ∷ bs) 0 above (length (b ∷ bs) - 1) (omega arith) in
    let other : (slice_index (b ∷ bs) (length (b ∷ bs) - 1) == 13) ≡ false = grind (arith, nat_tests) in
    rw other refl

parts-step : (part : List ℕ) (more : List (List ℕ)) → 0 < length more
    → lines_of_parts (part ∷ more) ≡ strip_carriage_return part ∷ lines_of_parts more
parts-step part [] h = absurd (omega arith)
parts-step part (y ∷ more) h = refl

lines-step : (line rest : List ℕ) → Above 31 line → lines (line ++ 10 ∷ rest) ≡ line ∷ lines rest
lines-step line rest above =
    ap lines_of_parts (slice_split_at (λ b. b == 10) line 10 rest (other-byte 31 10 line (omega arith) above) refl)
    ∙ parts-step line (slice_split (λ b. b == 10) rest) (omega (arith, length-slice_split (λ b. b == 10) rest))
    ∙ ap (λ l. l ∷ lines rest) (strip-above line above)

pub plain_reads_back : (ls : List Line) → AllByRecursion IsPlain ls → word_lines (text_of ls) ≡ ls
unfolding line_text
plain_reads_back [] all = refl
plain_reads_back ([] ∷ ls) all = absurd all.0
plain_reads_back ((w ∷ ws) ∷ ls) all =
    let line = join_with_byte 32 (w ∷ ws) in
    ap word_lines (append_assoc line (10 ∷ []) (text_of ls)) ∙ ap (map words) (lines-step line (text_of ls) (join-above w ws all.0.0 all.0.1))
    ∙ ap (λ l. l ∷ word_lines (text_of ls)) (words-join w ws all.0.0 all.0.1) ∙ ap (λ more. (w ∷ ws) ∷ more) (plain_reads_back ls all.1)
