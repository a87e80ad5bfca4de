-- Words ask for one command at most.
use Rattle.std.proofs.Common.{◌≡◌, ℕ, ℤ, pos, List, [], ◌∷◌, map, length, refl, ap, sym, ◌∙◌, arith}
use Rattle.std.proofs.lemmas.Int.{ints}
use Rattle.tv_spec_text.specs.Lines.{Word, spelled, IsNumber}
use Rattle.std.specs.List.{AllByRecursion}
use Rattle.tv_spec_text.proofs.Readings.{spelled_injective}
use Rattle.tv_text.specs.declared.series.Kind.{Kind}
use Rattle.tv_text.specs.declared.series.Kind.TheVariants.{Full, Reduced}
use Rattle.tv_text.specs.Sections.{kind_word}
use Rattle.tv_words.specs.Commands.{IsSide, IsDegree, IsOrder, IsIntegersOrder, IsSeries, IsGv, IsBoxes, IsGenerate, IsSummaryOf, Asks}
use Rattle.tv_words.specs.declared.command.TheConstants.{MIN_SIDE, MAX_SIDE, MAX_DEGREE, MIN_ORDER, MIN_INTEGERS_ORDER, MAX_ORDER}
use Rattle.tv_words.specs.declared.command.Command.{Command}
use Rattle.tv_words.specs.declared.command.Command.TheVariants.{Check, Series, Gv, Boxes, Generate, Summary, Verify}
use Rattle.tv_words.proofs.WordPlaces.{head, tail, same_name, name_of, asks_words}
use Rattle.tv_words.proofs.Between.{between_is_number}

full_or_reduced : kind_word Full ≡ kind_word Reduced → ⊥
full_or_reduced e = let lengths : length (kind_word Full) ≡ length (kind_word Reduced) = ap length e in absurd (omega arith)

same_kind : (k l : Kind) → kind_word k ≡ kind_word l → k ≡ l
same_kind Full Full e = refl
same_kind Full Reduced e = absurd (full_or_reduced e)
same_kind Reduced Full e = absurd (full_or_reduced (sym e))
same_kind Reduced Reduced e = refl

same_degree : (d e : ℕ) → IsDegree d → IsDegree e → spelled (pos d) ≡ spelled (pos e) → d ≡ e
same_degree d e p q s =
    let same : pos d ≡ pos e = spelled_injective (pos d) (pos e) (between_is_number (pos 0) MAX_DEGREE (pos d) (omega arith) (omega arith) p) (between_is_number (pos 0) MAX_DEGREE (pos e) (omega arith) (omega arith) q) s in
    omega (arith, ints)

same_order : (y z : ℤ) → IsOrder y → IsOrder z → spelled y ≡ spelled z → y ≡ z
same_order y z p q s = spelled_injective y z (between_is_number MIN_ORDER MAX_ORDER y (omega arith) (omega arith) p) (between_is_number MIN_ORDER MAX_ORDER z (omega arith) (omega arith) q) s

same_integers_order : (y z : ℤ) → IsIntegersOrder y → IsIntegersOrder z → spelled y ≡ spelled z → y ≡ z
same_integers_order y z p q s = spelled_injective y z (between_is_number MIN_INTEGERS_ORDER MAX_ORDER y (omega arith) (omega arith) p) (between_is_number MIN_INTEGERS_ORDER MAX_ORDER z (omega arith) (omega arith) q) s

same_side : (k l : ℕ) → IsSide k → IsSide l → spelled (pos k) ≡ spelled (pos l) → k ≡ l
same_side k l p q s =
    let same : pos k ≡ pos l = spelled_injective (pos k) (pos l) (between_is_number MIN_SIDE MAX_SIDE (pos k) (omega arith) (omega arith) p) (between_is_number MIN_SIDE MAX_SIDE (pos l) (omega arith) (omega arith) q) s in
    omega (arith, ints)

same_series : (ws : List Word) (k l : Kind) (d e : ℕ) (y z : ℤ) → IsSeries ws k d y → IsSeries ws l e z → Series k d y ≡ Series l e z
same_series ws k l d e y z p q =
    let words = tail (sym p.same ∙ q.same) in
    let kinds = same_kind k l (head words) in
    let degrees = same_degree d e p.through q.through (head (tail words)) in
    let orders = same_order y z p.order q.order (head (tail (tail words))) in
    cc

same_gv : (ws : List Word) (d e : ℕ) (y z : ℤ) → IsGv ws d y → IsGv ws e z → Gv d y ≡ Gv e z
same_gv ws d e y z p q =
    let words = tail (sym p.same ∙ q.same) in
    let degrees = same_degree d e p.through q.through (head words) in
    let orders = same_integers_order y z p.order q.order (head (tail words)) in
    cc

same_entries : (u v : List ℤ) → AllByRecursion IsNumber u → AllByRecursion IsNumber v → map spelled u ≡ map spelled v → u ≡ v
same_entries [] [] p q e = refl
same_entries [] (z ∷ zs) p q e = cc
same_entries (y ∷ ys) [] p q e = cc
same_entries (y ∷ ys) (z ∷ zs) p q e =
    let first = spelled_injective y z p.0 q.0 (head e) in
    let others = same_entries ys zs p.1 q.1 (tail e) in
    cc

same_boxes : (ws : List Word) (y z : ℤ) (u v : List ℤ) → IsBoxes ws y u → IsBoxes ws z v → Boxes y u ≡ Boxes z v
same_boxes ws y z u v p q =
    let words = tail (sym p.same ∙ q.same) in
    let orders = same_order y z p.order q.order (head words) in
    let entries = same_entries u v p.small q.small (tail words) in
    cc

same_generate : (ws : List Word) (k l : ℕ) → IsGenerate ws k → IsGenerate ws l → Generate k ≡ Generate l
same_generate ws k l p q = ap Generate (same_side k l p.within q.within (head (tail (sym p.same ∙ q.same))))

same_summary : (ws : List Word) (k l d e : ℕ) (y z : ℤ) → IsSummaryOf ws k d y → IsSummaryOf ws l e z → Summary k d y ≡ Summary l e z
same_summary ws k l d e y z p q =
    let words = tail (sym p.same ∙ q.same) in
    let sides = same_side k l p.within q.within (head words) in
    let degrees = same_degree d e p.through q.through (head (tail words)) in
    let orders = same_order y z p.order q.order (head (tail (tail words))) in
    cc

-- two commands of other names are asked for by other words
names_of_words : (ws : List Word) (c d : Command) → Asks ws c → Asks ws d → name_of c ≡ name_of d
names_of_words ws c d p q = same_name (name_of c) (name_of d) (head (sym (asks_words ws c p) ∙ asks_words ws d q))

-- words ask for one command
pub same_command : (ws : List Word) (c d : Command) → Asks ws c → Asks ws d → c ≡ d
same_command ws Check Check p q = refl
same_command ws (Series k d y) (Series l e z) p q = same_series ws k l d e y z p q
same_command ws (Gv d y) (Gv e z) p q = same_gv ws d e y z p q
same_command ws (Boxes y u) (Boxes z v) p q = same_boxes ws y z u v p q
same_command ws (Generate k) (Generate l) p q = same_generate ws k l p q
same_command ws (Summary k d y) (Summary l e z) p q = same_summary ws k l d e y z p q
same_command ws Check (Series k d n) p q = let names = names_of_words ws Check (Series k d n) p q in cc
same_command ws Check (Generate l) p q = let names = names_of_words ws Check (Generate l) p q in cc
same_command ws Check (Summary m e o) p q = let names = names_of_words ws Check (Summary m e o) p q in cc
same_command ws (Series k d n) Check p q = let names = names_of_words ws (Series k d n) Check p q in cc
same_command ws (Series k d n) (Generate l) p q = let names = names_of_words ws (Series k d n) (Generate l) p q in cc
same_command ws (Series k d n) (Summary m e o) p q = let names = names_of_words ws (Series k d n) (Summary m e o) p q in cc
same_command ws (Generate l) Check p q = let names = names_of_words ws (Generate l) Check p q in cc
same_command ws (Generate l) (Series k d n) p q = let names = names_of_words ws (Generate l) (Series k d n) p q in cc
same_command ws (Generate l) (Summary m e o) p q = let names = names_of_words ws (Generate l) (Summary m e o) p q in cc
same_command ws (Summary m e o) Check p q = let names = names_of_words ws (Summary m e o) Check p q in cc
same_command ws (Summary m e o) (Series k d n) p q = let names = names_of_words ws (Summary m e o) (Series k d n) p q in cc
same_command ws (Summary m e o) (Generate l) p q = let names = names_of_words ws (Summary m e o) (Generate l) p q in cc
same_command ws (Gv a b) Check p q = let names = names_of_words ws (Gv a b) Check p q in cc
same_command ws Check (Gv a b) p q = let names = names_of_words ws Check (Gv a b) p q in cc
same_command ws (Gv a b) (Series k d n) p q = let names = names_of_words ws (Gv a b) (Series k d n) p q in cc
same_command ws (Series k d n) (Gv a b) p q = let names = names_of_words ws (Series k d n) (Gv a b) p q in cc
same_command ws (Gv a b) (Generate l) p q = let names = names_of_words ws (Gv a b) (Generate l) p q in cc
same_command ws (Generate l) (Gv a b) p q = let names = names_of_words ws (Generate l) (Gv a b) p q in cc
same_command ws (Gv a b) (Summary m e o) p q = let names = names_of_words ws (Gv a b) (Summary m e o) p q in cc
same_command ws (Summary m e o) (Gv a b) p q = let names = names_of_words ws (Summary m e o) (Gv a b) p q in cc
same_command ws (Boxes z v) Check p q = let names = names_of_words ws (Boxes z v) Check p q in cc
same_command ws Check (Boxes z v) p q = let names = names_of_words ws Check (Boxes z v) p q in cc
same_command ws (Boxes z v) (Series k d n) p q = let names = names_of_words ws (Boxes z v) (Series k d n) p q in cc
same_command ws (Series k d n) (Boxes z v) p q = let names = names_of_words ws (Series k d n) (Boxes z v) p q in cc
same_command ws (Boxes z v) (Gv a b) p q = let names = names_of_words ws (Boxes z v) (Gv a b) p q in cc
same_command ws (Gv a b) (Boxes z v) p q = let names = names_of_words ws (Gv a b) (Boxes z v) p q in cc
same_command ws (Boxes z v) (Generate l) p q = let names = names_of_words ws (Boxes z v) (Generate l) p q in cc
same_command ws (Generate l) (Boxes z v) p q = let names = names_of_words ws (Generate l) (Boxes z v) p q in cc
same_command ws (Boxes z v) (Summary m e o) p q = let names = names_of_words ws (Boxes z v) (Summary m e o) p q in cc
same_command ws (Summary m e o) (Boxes z v) p q = let names = names_of_words ws (Summary m e o) (Boxes z v) p q in cc
same_command ws Verify Verify p q = refl
same_command ws Verify Check p q = let names = names_of_words ws Verify Check p q in cc
same_command ws Check Verify p q = let names = names_of_words ws Check Verify p q in cc
same_command ws Verify (Series k d n) p q = let names = names_of_words ws Verify (Series k d n) p q in cc
same_command ws (Series k d n) Verify p q = let names = names_of_words ws (Series k d n) Verify p q in cc
same_command ws Verify (Gv a b) p q = let names = names_of_words ws Verify (Gv a b) p q in cc
same_command ws (Gv a b) Verify p q = let names = names_of_words ws (Gv a b) Verify p q in cc
same_command ws Verify (Boxes z v) p q = let names = names_of_words ws Verify (Boxes z v) p q in cc
same_command ws (Boxes z v) Verify p q = let names = names_of_words ws (Boxes z v) Verify p q in cc
same_command ws Verify (Generate l) p q = let names = names_of_words ws Verify (Generate l) p q in cc
same_command ws (Generate l) Verify p q = let names = names_of_words ws (Generate l) Verify p q in cc
same_command ws Verify (Summary m e o) p q = let names = names_of_words ws Verify (Summary m e o) p q in cc
same_command ws (Summary m e o) Verify p q = let names = names_of_words ws (Summary m e o) Verify p q in cc
