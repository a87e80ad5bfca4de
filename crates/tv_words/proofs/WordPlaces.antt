-- Where words leave the word lists.
use Rattle.std.proofs.Common.{◌≡◌, ◌≢◌, ℕ, ◌+◌, suc, ℤ, pos, List, [], ◌∷◌, ◌++◌, length, map, get_or, false, ◌==◌, refl, ap, sym, ◌∙◌, subst, arith, append-nil}
use Rattle.std.proofs.lemmas.List.{length-map}
use Rattle.std.proofs.lemmas.Int.{ints}
use Rattle.std.specs.List.{AllByRecursion}
use Rattle.tv_spec_text.specs.Lines.{Word, spelled, IsNumber}
use Rattle.tv_spec_text.specs.Places.{Begins, IsPlace}
use Rattle.tv_text.specs.declared.series.Kind.{Kind}
use Rattle.tv_text.specs.declared.series.Kind.TheVariants.{Full}
use Rattle.tv_text.specs.Sections.{kind_word}
use Rattle.tv_words.specs.Commands.{IsSide, IsDegree, IsOrder, IsIntegersOrder, IsSeries, IsBoxes, IsSummaryOf, IsCommand, Asks, name_word, series_words, gv_words, boxes_words, generate_words, summary_words}
use Rattle.tv_words.specs.Entries.{SpellEntries, LeavesEntries}
use Rattle.tv_words.specs.declared.command.Name.{Name}
use Rattle.tv_words.specs.declared.command.Name.TheVariants.{Check as CheckName, Series as SeriesName, Gv as GvName, Boxes as BoxesName, Generate as GenerateName, Summary as SummaryName, Verify as VerifyName}
use Rattle.tv_words.specs.declared.command.Command.{Command}
use Rattle.tv_words.specs.declared.command.Command.TheVariants.{Check, Series, Gv, Boxes, Generate, Summary, Verify}

-- The words in front begin a list of L, and those behind them go on with none.

pub record GoesOnWithNone (L : List Word → Type 0) (xs : List Word) : Type 0 where
  pub other : (w : Word) (ws rest : List Word) → xs ≡ w ∷ ws → L (w ∷ rest) → ⊥
  pub short : xs ≡ [] → L [] → ⊥

here : (L : List Word → Type 0) (xs : List Word) → Begins L [] → GoesOnWithNone L xs → IsPlace L xs 0
here L [] b g = record { within = omega arith; before = b; outside = λ p. absurd (omega arith); short = λ e l. g.short refl l }
here L (w ∷ ws) b g = record { within = omega arith; before = b; outside = λ p l. g.other w ws l.0 refl l.1; short = λ e. absurd (omega arith) }

further : (L : List Word → Type 0) (w : Word) (ws : List Word) (k : ℕ) → IsPlace (λ us. L (w ∷ us)) ws k → IsPlace L (w ∷ ws) (suc k)
further L w ws k p = record { within = let h = p.within in omega arith; before = p.before; outside = λ h. p.outside (omega arith); short = λ e. p.short (omega arith) }

behind : (L : List Word → Type 0) (front xs : List Word) → Begins L front → GoesOnWithNone (λ us. L (front ++ us)) xs → IsPlace L (front ++ xs) (length front)
behind L [] xs b g = here L xs b g
behind L (w ∷ front) xs b g = further L w (front ++ xs) (length front) (behind (λ us. L (w ∷ us)) front xs b g)

-- some numbers that words may ask for

abbrev nought : Word
nought = spelled (pos 0)

zero_degree : IsDegree 0
zero_degree = (omega (arith, ints), omega (arith, ints))

zero_order : IsOrder (pos 0)
zero_order = (omega (arith, ints), omega (arith, ints))

one_order : IsIntegersOrder (pos 1)
one_order = (omega (arith, ints), omega (arith, ints))

one_side : IsSide 1
one_side = (omega (arith, ints), omega (arith, ints))

-- heads and tails of lists of words

pub head : {a b : Word} {us vs : List Word} → a ∷ us ≡ b ∷ vs → a ≡ b
head e = cc

pub tail : {a b : Word} {us vs : List Word} → a ∷ us ≡ b ∷ vs → us ≡ vs
tail e = cc

pub some_word : {A B : Type 0} (f : A → B) (xs : List A) → false ≡ (length xs == 0) → map f xs ≢ []
some_word f [] h e = cc
some_word f (x ∷ xs) h e = cc

no_more : {w : Word} {ws : List Word} → w ∷ ws ≡ [] → ⊥
no_more e = cc

-- the first word of a command

check_or_boxes : name_word CheckName ≡ name_word BoxesName → ⊥
check_or_boxes e = let firsts : get_or (name_word CheckName) 0 0 ≡ get_or (name_word BoxesName) 0 0 = ap (λ w. get_or w 0 0) e in absurd (omega arith)

series_or_verify : name_word SeriesName ≡ name_word VerifyName → ⊥
series_or_verify e = let firsts : get_or (name_word SeriesName) 0 0 ≡ get_or (name_word VerifyName) 0 0 = ap (λ w. get_or w 0 0) e in absurd (omega arith)

pub same_name : (n m : Name) → name_word n ≡ name_word m → n ≡ m
same_name CheckName CheckName e = refl
same_name SeriesName SeriesName e = refl
same_name GvName GvName e = refl
same_name GenerateName GenerateName e = refl
same_name SummaryName SummaryName e = refl
same_name CheckName SeriesName e = absurd (let lengths = ap length e in omega arith)
same_name CheckName GenerateName e = absurd (let lengths = ap length e in omega arith)
same_name CheckName SummaryName e = absurd (let lengths = ap length e in omega arith)
same_name SeriesName CheckName e = absurd (let lengths = ap length e in omega arith)
same_name SeriesName GenerateName e = absurd (let lengths = ap length e in omega arith)
same_name SeriesName SummaryName e = absurd (let lengths = ap length e in omega arith)
same_name GenerateName CheckName e = absurd (let lengths = ap length e in omega arith)
same_name GenerateName SeriesName e = absurd (let lengths = ap length e in omega arith)
same_name GenerateName SummaryName e = absurd (let lengths = ap length e in omega arith)
same_name SummaryName CheckName e = absurd (let lengths = ap length e in omega arith)
same_name SummaryName SeriesName e = absurd (let lengths = ap length e in omega arith)
same_name SummaryName GenerateName e = absurd (let lengths = ap length e in omega arith)
same_name GvName CheckName e = absurd (let lengths = ap length e in omega arith)
same_name CheckName GvName e = absurd (let lengths = ap length e in omega arith)
same_name GvName SeriesName e = absurd (let lengths = ap length e in omega arith)
same_name SeriesName GvName e = absurd (let lengths = ap length e in omega arith)
same_name GvName GenerateName e = absurd (let lengths = ap length e in omega arith)
same_name GenerateName GvName e = absurd (let lengths = ap length e in omega arith)
same_name GvName SummaryName e = absurd (let lengths = ap length e in omega arith)
same_name SummaryName GvName e = absurd (let lengths = ap length e in omega arith)
same_name BoxesName BoxesName e = refl
same_name BoxesName CheckName e = absurd (check_or_boxes (sym e))
same_name CheckName BoxesName e = absurd (check_or_boxes e)
same_name BoxesName SeriesName e = absurd (let lengths = ap length e in omega arith)
same_name SeriesName BoxesName e = absurd (let lengths = ap length e in omega arith)
same_name BoxesName GvName e = absurd (let lengths = ap length e in omega arith)
same_name GvName BoxesName e = absurd (let lengths = ap length e in omega arith)
same_name BoxesName GenerateName e = absurd (let lengths = ap length e in omega arith)
same_name GenerateName BoxesName e = absurd (let lengths = ap length e in omega arith)
same_name BoxesName SummaryName e = absurd (let lengths = ap length e in omega arith)
same_name SummaryName BoxesName e = absurd (let lengths = ap length e in omega arith)
same_name VerifyName VerifyName e = refl
same_name VerifyName CheckName e = absurd (let lengths = ap length e in omega arith)
same_name CheckName VerifyName e = absurd (let lengths = ap length e in omega arith)
same_name VerifyName SeriesName e = absurd (series_or_verify (sym e))
same_name SeriesName VerifyName e = absurd (series_or_verify e)
same_name VerifyName GvName e = absurd (let lengths = ap length e in omega arith)
same_name GvName VerifyName e = absurd (let lengths = ap length e in omega arith)
same_name VerifyName BoxesName e = absurd (let lengths = ap length e in omega arith)
same_name BoxesName VerifyName e = absurd (let lengths = ap length e in omega arith)
same_name VerifyName GenerateName e = absurd (let lengths = ap length e in omega arith)
same_name GenerateName VerifyName e = absurd (let lengths = ap length e in omega arith)
same_name VerifyName SummaryName e = absurd (let lengths = ap length e in omega arith)
same_name SummaryName VerifyName e = absurd (let lengths = ap length e in omega arith)

abbrev pub name_of : Command → Name
name_of Check = CheckName
name_of (Series kind d n) = SeriesName
name_of (Gv d n) = GvName
name_of (Boxes chi v) = BoxesName
name_of (Generate k) = GenerateName
name_of (Summary k d n) = SummaryName
name_of Verify = VerifyName

-- what follows the name
abbrev pub rest_of : Command → List Word
rest_of Check = []
rest_of (Series kind d n) = kind_word kind ∷ spelled (pos d) ∷ spelled n ∷ []
rest_of (Gv d n) = spelled (pos d) ∷ spelled n ∷ []
rest_of (Boxes chi v) = spelled chi ∷ map spelled v
rest_of (Generate k) = spelled (pos k) ∷ []
rest_of (Summary k d n) = spelled (pos k) ∷ spelled (pos d) ∷ spelled n ∷ []
rest_of Verify = []

pub asks_words : (ws : List Word) (c : Command) → Asks ws c → ws ≡ name_word (name_of c) ∷ rest_of c
asks_words ws Check h = h
asks_words ws (Series kind d n) h = h.same
asks_words ws (Gv d n) h = h.same
asks_words ws (Boxes chi v) h = h.same
asks_words ws (Generate k) h = h.same
asks_words ws (Summary k d n) h = h.same
asks_words ws Verify h = h

pub place_first : (xs : List Word) → ((name : Name) (ws : List Word) → xs ≢ name_word name ∷ ws) → IsPlace IsCommand xs 0
place_first xs h = here IsCommand xs (name_word CheckName ∷ [], (Check, refl)) (record {
  other = λ w ws rest e c. h (name_of c.0) ws (e ∙ ap (λ v. v ∷ ws) (head (asks_words (w ∷ rest) c.0 c.1)));
  short = λ e c. no_more (sym (asks_words [] c.0 c.1));
})

-- no word after `check`
check_rest : (w : Word) (rest : List Word) (c : Command) → Asks (name_word CheckName ∷ w ∷ rest) c → ⊥
check_rest w rest Check h = no_more (tail h)
check_rest w rest (Series kind d n) h = absurd (let lengths = ap length (head h.same) in omega arith)
check_rest w rest (Gv d n) h = absurd (let lengths = ap length (head h.same) in omega arith)
check_rest w rest (Boxes chi v) h = check_or_boxes (head h.same)
check_rest w rest (Generate k) h = absurd (let lengths = ap length (head h.same) in omega arith)
check_rest w rest (Summary k d n) h = absurd (let lengths = ap length (head h.same) in omega arith)
check_rest w rest Verify h = absurd (let lengths = ap length (head h) in omega arith)

pub place_after_check : (xs : List Word) → xs ≢ [] → IsPlace IsCommand (name_word CheckName ∷ xs) 1
place_after_check xs some = behind IsCommand (name_word CheckName ∷ []) xs ([], (Check, refl)) (record {
  other = λ w ws rest e c. check_rest w rest c.0 c.1;
  short = λ e. absurd (some e);
})

-- what follows `series`, `gv`, `boxes`, `generate` and `summary` in a command
record SeriesTail (ws : List Word) : Type 0 where
  kind : Kind
  degree : ℕ
  upto : ℤ
  through : IsDegree degree
  order : IsOrder upto
  same : ws ≡ kind_word kind ∷ spelled (pos degree) ∷ spelled upto ∷ []

record GvTail (ws : List Word) : Type 0 where
  degree : ℕ
  upto : ℤ
  through : IsDegree degree
  order : IsIntegersOrder upto
  same : ws ≡ spelled (pos degree) ∷ spelled upto ∷ []

record BoxesTail (ws : List Word) : Type 0 where
  chi : ℤ
  entries : List ℤ
  order : IsOrder chi
  small : AllByRecursion IsNumber entries
  same : ws ≡ spelled chi ∷ map spelled entries

record GenerateTail (ws : List Word) : Type 0 where
  side : ℕ
  within : IsSide side
  same : ws ≡ spelled (pos side) ∷ []

record SummaryTail (ws : List Word) : Type 0 where
  side : ℕ
  degree : ℕ
  upto : ℤ
  within : IsSide side
  through : IsDegree degree
  order : IsOrder upto
  same : ws ≡ spelled (pos side) ∷ spelled (pos degree) ∷ spelled upto ∷ []

other_name : {A : Type 0} (n m : Name) (us vs : List Word) → (n ≡ m → ⊥) → name_word n ∷ us ≡ name_word m ∷ vs → A
other_name n m us vs differ e = absurd (differ (same_name n m (head e)))

series_tail : (ws : List Word) (c : Command) → Asks (name_word SeriesName ∷ ws) c → SeriesTail ws
series_tail ws Check h = other_name SeriesName CheckName _ _ (λ e. cc) h
series_tail ws (Series k d n) h = record { kind = k; degree = d; upto = n; through = h.through; order = h.order; same = tail h.same }
series_tail ws (Gv d n) h = other_name SeriesName GvName _ _ (λ e. cc) h.same
series_tail ws (Boxes chi v) h = other_name SeriesName BoxesName _ _ (λ e. cc) h.same
series_tail ws (Generate k) h = other_name SeriesName GenerateName _ _ (λ e. cc) h.same
series_tail ws (Summary k d n) h = other_name SeriesName SummaryName _ _ (λ e. cc) h.same
series_tail ws Verify h = other_name SeriesName VerifyName _ _ (λ e. cc) h

gv_tail : (ws : List Word) (c : Command) → Asks (name_word GvName ∷ ws) c → GvTail ws
gv_tail ws Check h = other_name GvName CheckName _ _ (λ e. cc) h
gv_tail ws (Series k d n) h = other_name GvName SeriesName _ _ (λ e. cc) h.same
gv_tail ws (Gv d n) h = record { degree = d; upto = n; through = h.through; order = h.order; same = tail h.same }
gv_tail ws (Boxes chi v) h = other_name GvName BoxesName _ _ (λ e. cc) h.same
gv_tail ws (Generate k) h = other_name GvName GenerateName _ _ (λ e. cc) h.same
gv_tail ws (Summary k d n) h = other_name GvName SummaryName _ _ (λ e. cc) h.same
gv_tail ws Verify h = other_name GvName VerifyName _ _ (λ e. cc) h

boxes_tail : (ws : List Word) (c : Command) → Asks (name_word BoxesName ∷ ws) c → BoxesTail ws
boxes_tail ws Check h = other_name BoxesName CheckName _ _ (λ e. cc) h
boxes_tail ws (Series k d n) h = other_name BoxesName SeriesName _ _ (λ e. cc) h.same
boxes_tail ws (Gv d n) h = other_name BoxesName GvName _ _ (λ e. cc) h.same
boxes_tail ws (Boxes chi v) h = record { chi = chi; entries = v; order = h.order; small = h.small; same = tail h.same }
boxes_tail ws (Generate k) h = other_name BoxesName GenerateName _ _ (λ e. cc) h.same
boxes_tail ws (Summary k d n) h = other_name BoxesName SummaryName _ _ (λ e. cc) h.same
boxes_tail ws Verify h = other_name BoxesName VerifyName _ _ (λ e. cc) h

generate_tail : (ws : List Word) (c : Command) → Asks (name_word GenerateName ∷ ws) c → GenerateTail ws
generate_tail ws Check h = other_name GenerateName CheckName _ _ (λ e. cc) h
generate_tail ws (Series k d n) h = other_name GenerateName SeriesName _ _ (λ e. cc) h.same
generate_tail ws (Gv d n) h = other_name GenerateName GvName _ _ (λ e. cc) h.same
generate_tail ws (Boxes chi v) h = other_name GenerateName BoxesName _ _ (λ e. cc) h.same
generate_tail ws (Generate k) h = record { side = k; within = h.within; same = tail h.same }
generate_tail ws (Summary k d n) h = other_name GenerateName SummaryName _ _ (λ e. cc) h.same
generate_tail ws Verify h = other_name GenerateName VerifyName _ _ (λ e. cc) h

summary_tail : (ws : List Word) (c : Command) → Asks (name_word SummaryName ∷ ws) c → SummaryTail ws
summary_tail ws Check h = other_name SummaryName CheckName _ _ (λ e. cc) h
summary_tail ws (Series k d n) h = other_name SummaryName SeriesName _ _ (λ e. cc) h.same
summary_tail ws (Gv d n) h = other_name SummaryName GvName _ _ (λ e. cc) h.same
summary_tail ws (Boxes chi v) h = other_name SummaryName BoxesName _ _ (λ e. cc) h.same
summary_tail ws (Generate k) h = other_name SummaryName GenerateName _ _ (λ e. cc) h.same
summary_tail ws (Summary k d n) h = record { side = k; degree = d; upto = n; within = h.within; through = h.through; order = h.order; same = tail h.same }
summary_tail ws Verify h = other_name SummaryName VerifyName _ _ (λ e. cc) h

-- no word after `verify`
verify_rest : (w : Word) (rest : List Word) (c : Command) → Asks (name_word VerifyName ∷ w ∷ rest) c → ⊥
verify_rest w rest Check h = other_name VerifyName CheckName _ _ (λ e. cc) h
verify_rest w rest (Series kind d n) h = other_name VerifyName SeriesName _ _ (λ e. cc) h.same
verify_rest w rest (Gv d n) h = other_name VerifyName GvName _ _ (λ e. cc) h.same
verify_rest w rest (Boxes chi v) h = other_name VerifyName BoxesName _ _ (λ e. cc) h.same
verify_rest w rest (Generate k) h = other_name VerifyName GenerateName _ _ (λ e. cc) h.same
verify_rest w rest (Summary k d n) h = other_name VerifyName SummaryName _ _ (λ e. cc) h.same
verify_rest w rest Verify h = no_more (tail h)

pub place_after_verify : (xs : List Word) → xs ≢ [] → IsPlace IsCommand (name_word VerifyName ∷ xs) 1
place_after_verify xs some = behind IsCommand (name_word VerifyName ∷ []) xs ([], (Verify, refl)) (record {
  other = λ w ws rest e c. verify_rest w rest c.0 c.1;
  short = λ e. absurd (some e);
})

-- the places after `series`

series_command : (kind : Kind) (d : ℕ) (n : ℤ) → IsDegree d → IsOrder n → IsCommand (series_words kind d n)
series_command kind d n g h = (Series kind d n, record { through = g; order = h; same = refl })

pub place_kind : (xs : List Word) → ((kind : Kind) (ws : List Word) → xs ≢ kind_word kind ∷ ws) → IsPlace IsCommand (name_word SeriesName ∷ xs) 1
place_kind xs h = behind IsCommand (name_word SeriesName ∷ []) xs (kind_word Full ∷ nought ∷ nought ∷ [], series_command Full 0 (pos 0) zero_degree zero_order) (record {
  other = λ w ws rest e c. let t = series_tail (w ∷ rest) c.0 c.1 in h t.kind ws (e ∙ ap (λ v. v ∷ ws) (head t.same));
  short = λ e c. let t = series_tail [] c.0 c.1 in no_more (sym t.same);
})

pub place_series_degree : (xs rest : List Word) (kind : Kind) → xs ≡ kind_word kind ∷ rest → ((d : ℕ) (ws : List Word) → IsDegree d → rest ≢ spelled (pos d) ∷ ws) → IsPlace IsCommand (name_word SeriesName ∷ xs) 2
place_series_degree xs rest kind e h = rw e (behind IsCommand (name_word SeriesName ∷ kind_word kind ∷ []) rest (nought ∷ nought ∷ [], series_command kind 0 (pos 0) zero_degree zero_order) (record {
  other = λ w ws more e c. let t = series_tail (kind_word kind ∷ w ∷ more) c.0 c.1 in h t.degree ws t.through (e ∙ ap (λ v. v ∷ ws) (head (tail t.same)));
  short = λ e c. let t = series_tail (kind_word kind ∷ []) c.0 c.1 in no_more (sym (tail t.same));
}))

pub place_series_order : (xs rest : List Word) (kind : Kind) (d : ℕ) → IsDegree d → xs ≡ kind_word kind ∷ spelled (pos d) ∷ rest → ((z : ℤ) (ws : List Word) → IsOrder z → rest ≢ spelled z ∷ ws) → IsPlace IsCommand (name_word SeriesName ∷ xs) 3
place_series_order xs rest kind d g e h = rw e (behind IsCommand (name_word SeriesName ∷ kind_word kind ∷ spelled (pos d) ∷ []) rest (nought ∷ [], series_command kind d (pos 0) g zero_order) (record {
  other = λ w ws more e c. let t = series_tail (kind_word kind ∷ spelled (pos d) ∷ w ∷ more) c.0 c.1 in h t.upto ws t.order (e ∙ ap (λ v. v ∷ ws) (head (tail (tail t.same))));
  short = λ e c. let t = series_tail (kind_word kind ∷ spelled (pos d) ∷ []) c.0 c.1 in no_more (sym (tail (tail t.same)));
}))

pub place_series_end : (xs rest : List Word) (kind : Kind) (d : ℕ) (n : ℤ) → IsDegree d → IsOrder n → xs ≡ kind_word kind ∷ spelled (pos d) ∷ spelled n ∷ rest → rest ≢ [] → IsPlace IsCommand (name_word SeriesName ∷ xs) 4
place_series_end xs rest kind d n g o e some = rw e (behind IsCommand (series_words kind d n) rest ([], series_command kind d n g o) (record {
  other = λ w ws more e c. no_more (tail (tail (tail (series_tail (kind_word kind ∷ spelled (pos d) ∷ spelled n ∷ w ∷ more) c.0 c.1).same)));
  short = λ e. absurd (some e);
}))

pub words_of_series : (xs rest : List Word) (kind : Kind) (d : ℕ) (n : ℤ) → IsDegree d → IsOrder n → xs ≡ kind_word kind ∷ spelled (pos d) ∷ spelled n ∷ rest → rest ≡ [] → IsSeries (name_word SeriesName ∷ xs) kind d n
words_of_series xs rest kind d n g o e z = record { through = g; order = o; same = rw (e, z) refl }

-- the places after `gv`

gv_command : (d : ℕ) (n : ℤ) → IsDegree d → IsIntegersOrder n → IsCommand (gv_words d n)
gv_command d n g h = (Gv d n, record { through = g; order = h; same = refl })

pub place_gv_degree : (xs : List Word) → ((d : ℕ) (ws : List Word) → IsDegree d → xs ≢ spelled (pos d) ∷ ws) → IsPlace IsCommand (name_word GvName ∷ xs) 1
place_gv_degree xs h = behind IsCommand (name_word GvName ∷ []) xs (nought ∷ spelled (pos 1) ∷ [], gv_command 0 (pos 1) zero_degree one_order) (record {
  other = λ w ws rest e c. let t = gv_tail (w ∷ rest) c.0 c.1 in h t.degree ws t.through (e ∙ ap (λ v. v ∷ ws) (head t.same));
  short = λ e c. let t = gv_tail [] c.0 c.1 in no_more (sym t.same);
})

pub place_gv_order : (xs rest : List Word) (d : ℕ) → IsDegree d → xs ≡ spelled (pos d) ∷ rest → ((z : ℤ) (ws : List Word) → IsIntegersOrder z → rest ≢ spelled z ∷ ws) → IsPlace IsCommand (name_word GvName ∷ xs) 2
place_gv_order xs rest d g e h = rw e (behind IsCommand (name_word GvName ∷ spelled (pos d) ∷ []) rest (spelled (pos 1) ∷ [], gv_command d (pos 1) g one_order) (record {
  other = λ w ws more e c. let t = gv_tail (spelled (pos d) ∷ w ∷ more) c.0 c.1 in h t.upto ws t.order (e ∙ ap (λ v. v ∷ ws) (head (tail t.same)));
  short = λ e c. let t = gv_tail (spelled (pos d) ∷ []) c.0 c.1 in no_more (sym (tail t.same));
}))

pub place_gv_end : (xs rest : List Word) (d : ℕ) (n : ℤ) → IsDegree d → IsIntegersOrder n → xs ≡ spelled (pos d) ∷ spelled n ∷ rest → rest ≢ [] → IsPlace IsCommand (name_word GvName ∷ xs) 3
place_gv_end xs rest d n g o e some = rw e (behind IsCommand (gv_words d n) rest ([], gv_command d n g o) (record {
  other = λ w ws more e c. no_more (tail (tail (gv_tail (spelled (pos d) ∷ spelled n ∷ w ∷ more) c.0 c.1).same));
  short = λ e. absurd (some e);
}))

-- the places after `boxes`

boxes_command : (chi : ℤ) (v : List ℤ) → IsOrder chi → AllByRecursion IsNumber v → IsCommand (boxes_words chi v)
boxes_command chi v o s = (Boxes chi v, record { order = o; small = s; same = refl })

pub place_boxes_chi : (xs : List Word) → ((z : ℤ) (ws : List Word) → IsOrder z → xs ≢ spelled z ∷ ws) → IsPlace IsCommand (name_word BoxesName ∷ xs) 1
place_boxes_chi xs h = behind IsCommand (name_word BoxesName ∷ []) xs (nought ∷ [], boxes_command (pos 0) [] zero_order tt) (record {
  other = λ w ws rest e c. let t = boxes_tail (w ∷ rest) c.0 c.1 in h t.chi ws t.order (e ∙ ap (λ v. v ∷ ws) (head t.same));
  short = λ e c. let t = boxes_tail [] c.0 c.1 in no_more (sym t.same);
})

-- a word among the spellings of numbers
number_among : (before entries : List ℤ) (w : Word) (more : List Word) → AllByRecursion IsNumber entries → map spelled before ++ w ∷ more ≡ map spelled entries → (z : ℤ) × IsNumber z × (w ≡ spelled z)
number_among before [] w more all e = absurd (none_among before w more e)
  where
    none_among : (before : List ℤ) (w : Word) (more : List Word) → map spelled before ++ w ∷ more ≡ [] → ⊥
    none_among [] w more e = no_more e
    none_among (y ∷ ys) w more e = no_more e
number_among [] (z ∷ zs) w more all e = (z, all.0, head e)
number_among (y ∷ ys) (z ∷ zs) w more all e = number_among ys zs w more all.1 (tail e)

length_words : (chi : ℤ) (v : List ℤ) → length (boxes_words chi v) ≡ 2 + length v
length_words chi v = let both : suc (suc (length (map spelled v))) ≡ 2 + length v = omega (arith, length-map v spelled) in both

pub place_boxes_entry : (xs rest : List Word) (chi : ℤ) (k : ℕ) → IsOrder chi → xs ≡ spelled chi ∷ rest → LeavesEntries rest k → IsPlace IsCommand (name_word BoxesName ∷ xs) k
place_boxes_entry xs rest chi k o e l =
    let place = behind IsCommand (boxes_words chi l.before) (l.word ∷ l.behind) ([], boxes_all chi l.before o l.small) (record {
      other = λ w ws more same c. not_an_entry chi l.before l.word w ws l.behind more l.other same c;
      short = λ same. absurd (no_more same);
    }) in
    let words : name_word BoxesName ∷ xs ≡ boxes_words chi l.before ++ l.word ∷ l.behind = ap (λ ws. name_word BoxesName ∷ ws) (e ∙ ap (λ ws. spelled chi ∷ ws) l.same) in
    subst (λ n. IsPlace IsCommand (name_word BoxesName ∷ xs) n) (length_words chi l.before ∙ sym l.place_is) (subst (λ ws. IsPlace IsCommand ws (length (boxes_words chi l.before))) (sym words) place)
  where
    boxes_all : (chi : ℤ) (v : List ℤ) → IsOrder chi → AllByRecursion IsNumber v → IsCommand (boxes_words chi v ++ [])
    boxes_all chi v o s = subst IsCommand (sym (append-nil (boxes_words chi v))) (boxes_command chi v o s)

    not_an_entry : (chi : ℤ) (before : List ℤ) (word w : Word) (ws behind more : List Word) → ((z : ℤ) → IsNumber z → word ≢ spelled z) → word ∷ behind ≡ w ∷ ws → IsCommand (boxes_words chi before ++ w ∷ more) → ⊥
    not_an_entry chi before word w ws behind more other same c =
        let t = boxes_tail (spelled chi ∷ (map spelled before ++ w ∷ more)) c.0 c.1 in
        let found = number_among before t.entries w more t.small (tail t.same) in
        other found.0 found.1 (head same ∙ found.2)

pub words_of_boxes : (xs rest : List Word) (chi : ℤ) (v : List ℤ) → IsOrder chi → xs ≡ spelled chi ∷ rest → SpellEntries rest v → IsBoxes (name_word BoxesName ∷ xs) chi v
words_of_boxes xs rest chi v o e s = record { order = o; small = s.small; same = rw (e, s.same) refl }

-- the places after `generate`

generate_command : (k : ℕ) → IsSide k → IsCommand (generate_words k)
generate_command k s = (Generate k, record { within = s; same = refl })

pub place_generate_side : (xs : List Word) → ((k : ℕ) (ws : List Word) → IsSide k → xs ≢ spelled (pos k) ∷ ws) → IsPlace IsCommand (name_word GenerateName ∷ xs) 1
place_generate_side xs h = behind IsCommand (name_word GenerateName ∷ []) xs (spelled (pos 1) ∷ [], generate_command 1 one_side) (record {
  other = λ w ws rest e c. let t = generate_tail (w ∷ rest) c.0 c.1 in h t.side ws t.within (e ∙ ap (λ v. v ∷ ws) (head t.same));
  short = λ e c. let t = generate_tail [] c.0 c.1 in no_more (sym t.same);
})

pub place_generate_end : (xs rest : List Word) (k : ℕ) → IsSide k → xs ≡ spelled (pos k) ∷ rest → rest ≢ [] → IsPlace IsCommand (name_word GenerateName ∷ xs) 2
place_generate_end xs rest k s e some = rw e (behind IsCommand (generate_words k) rest ([], generate_command k s) (record {
  other = λ w ws more e c. no_more (tail (generate_tail (spelled (pos k) ∷ w ∷ more) c.0 c.1).same);
  short = λ e. absurd (some e);
}))

-- the places after `summary`

summary_command : (k d : ℕ) (n : ℤ) → IsSide k → IsDegree d → IsOrder n → IsCommand (summary_words k d n)
summary_command k d n s g h = (Summary k d n, record { within = s; through = g; order = h; same = refl })

pub place_summary_side : (xs : List Word) → ((k : ℕ) (ws : List Word) → IsSide k → xs ≢ spelled (pos k) ∷ ws) → IsPlace IsCommand (name_word SummaryName ∷ xs) 1
place_summary_side xs h = behind IsCommand (name_word SummaryName ∷ []) xs (spelled (pos 1) ∷ nought ∷ nought ∷ [], summary_command 1 0 (pos 0) one_side zero_degree zero_order) (record {
  other = λ w ws rest e c. let t = summary_tail (w ∷ rest) c.0 c.1 in h t.side ws t.within (e ∙ ap (λ v. v ∷ ws) (head t.same));
  short = λ e c. let t = summary_tail [] c.0 c.1 in no_more (sym t.same);
})

pub place_summary_degree : (xs rest : List Word) (k : ℕ) → IsSide k → xs ≡ spelled (pos k) ∷ rest → ((d : ℕ) (ws : List Word) → IsDegree d → rest ≢ spelled (pos d) ∷ ws) → IsPlace IsCommand (name_word SummaryName ∷ xs) 2
place_summary_degree xs rest k s e h = rw e (behind IsCommand (name_word SummaryName ∷ spelled (pos k) ∷ []) rest (nought ∷ nought ∷ [], summary_command k 0 (pos 0) s zero_degree zero_order) (record {
  other = λ w ws more e c. let t = summary_tail (spelled (pos k) ∷ w ∷ more) c.0 c.1 in h t.degree ws t.through (e ∙ ap (λ v. v ∷ ws) (head (tail t.same)));
  short = λ e c. let t = summary_tail (spelled (pos k) ∷ []) c.0 c.1 in no_more (sym (tail t.same));
}))

pub place_summary_order : (xs rest : List Word) (k d : ℕ) → IsSide k → IsDegree d → xs ≡ spelled (pos k) ∷ spelled (pos d) ∷ rest → ((z : ℤ) (ws : List Word) → IsOrder z → rest ≢ spelled z ∷ ws) → IsPlace IsCommand (name_word SummaryName ∷ xs) 3
place_summary_order xs rest k d s g e h = rw e (behind IsCommand (name_word SummaryName ∷ spelled (pos k) ∷ spelled (pos d) ∷ []) rest (nought ∷ [], summary_command k d (pos 0) s g zero_order) (record {
  other = λ w ws more e c. let t = summary_tail (spelled (pos k) ∷ spelled (pos d) ∷ w ∷ more) c.0 c.1 in h t.upto ws t.order (e ∙ ap (λ v. v ∷ ws) (head (tail (tail t.same))));
  short = λ e c. let t = summary_tail (spelled (pos k) ∷ spelled (pos d) ∷ []) c.0 c.1 in no_more (sym (tail (tail t.same)));
}))

pub place_summary_end : (xs rest : List Word) (k d : ℕ) (n : ℤ) → IsSide k → IsDegree d → IsOrder n → xs ≡ spelled (pos k) ∷ spelled (pos d) ∷ spelled n ∷ rest → rest ≢ [] → IsPlace IsCommand (name_word SummaryName ∷ xs) 4
place_summary_end xs rest k d n s g o e some = rw e (behind IsCommand (summary_words k d n) rest ([], summary_command k d n s g o) (record {
  other = λ w ws more e c. no_more (tail (tail (tail (summary_tail (spelled (pos k) ∷ spelled (pos d) ∷ spelled n ∷ w ∷ more) c.0 c.1).same)));
  short = λ e. absurd (some e);
}))

pub words_of_summary : (xs rest : List Word) (k d : ℕ) (n : ℤ) → IsSide k → IsDegree d → IsOrder n → xs ≡ spelled (pos k) ∷ spelled (pos d) ∷ spelled n ∷ rest → rest ≡ [] → IsSummaryOf (name_word SummaryName ∷ xs) k d n
words_of_summary xs rest k d n s g o e z = record { within = s; through = g; order = o; same = rw (e, z) refl }

-- words read one after another

pub behind_one : {xs rest more : List Word} {a b : Word} → xs ≡ a ∷ rest → rest ≡ b ∷ more → xs ≡ a ∷ b ∷ more
behind_one {a} p q = p ∙ ap (λ ws. a ∷ ws) q

pub behind_two : {xs rest more last : List Word} {a b c : Word} → xs ≡ a ∷ rest → rest ≡ b ∷ more → more ≡ c ∷ last → xs ≡ a ∷ b ∷ c ∷ last
behind_two p q r = behind_one p (behind_one q r)
