-- Lines of configurations, printed one after the other.
use Rattle.std.proofs.Common.{◌≡◌, ℕ, ◌+◌, ◌<◌, ◌≤◌, ℤ, pos, List, [], ◌∷◌, ◌++◌, length, map, drop, min, refl, sym, ap, ◌∙◌, append_assoc, append-nil, arith, add-one}
use Rattle.std.specs.Prelude.{codes, get_or}
use Rattle.std.specs.Global.{Vec}
use Rattle.std.specs.List.{flat_map, join_with_byte}
use Rattle.std.proofs.lemmas.Int.{ints, by_lt_z}
use Rattle.std.proofs.lemmas.List.{drop_all}
use Rattle.std.proofs.lemmas.List.Concat.{flat_map-append}
use Rattle.tv_spec_plane.specs.declared.records.CompactEdge.{CompactEdge}
use Rattle.tv_cells.specs.declared.cell.Cell.{Cell}
use Rattle.tv_spec_boxes.specs.Assignments.{Rows}
use Rattle.tv_spec_text.specs.Lines.{Line, line_text, spelled}
use Rattle.tv_spec_reports.specs.Boxes.{numbers, leg_line, leg_lines, box_line, box_lines}
use Rattle.tv_text.specs.Printed.{spaced}
use Rattle.tv_text.proofs.Printing.{join-numbers, line_text-numbers}
use Rattle.tv_reports.proofs.Printing.{drop_next}
use Rattle.tv_reports.specs.Configs.{cells_of, rows_spaced, leg_front}

-- ---- the line of a diagram

numbers_are : (rows : List ℕ) → numbers rows ≡ map spelled (map pos rows)
numbers_are [] = refl
numbers_are (r ∷ rows) = ap (λ ws. spelled (pos r) ∷ ws) (numbers_are rows)

spaced_are : (rows : List ℕ) → rows_spaced rows ≡ spaced (map pos rows)
spaced_are [] = refl
spaced_are (r ∷ rows) = ap (λ t. (32 ∷ spelled (pos r)) ++ t) (spaced_are rows)

abbrev leg_words : CompactEdge → Line → Line
leg_words e ws = codes "leg" ∷ spelled (pos e.a) ∷ spelled (pos e.b) ∷ ws

leg_join : (e : CompactEdge) (zs : List ℤ) → join_with_byte 32 (leg_words e (map spelled zs)) ≡ leg_front e ++ spaced zs
leg_join e zs =
    ap (λ t. codes "leg " ++ (spelled (pos e.a) ++ (32 ∷ t))) (join-numbers (spelled (pos e.b)) zs)
    ∙ ap (λ t. codes "leg " ++ t) (sym (append_assoc (spelled (pos e.a)) (32 ∷ spelled (pos e.b)) (spaced zs)))

-- what is written before the rows, as one word
leg_line_text : (e : CompactEdge) (zs : List ℤ) → line_text (leg_front e ∷ map spelled zs) ≡ line_text (leg_words e (map spelled zs))
unfolding line_text
leg_line_text e zs = ap (λ t. t ++ 10 ∷ []) (join-numbers (leg_front e) zs ∙ sym (leg_join e zs))

pub leg_told : (e : CompactEdge) (rows : List ℕ) (old now next : List ℕ) → 1 ≤ length rows → now ≡ old ++ leg_front e → next ≡ now ++ (rows_spaced rows ++ 10 ∷ []) → next ≡ old ++ flat_map line_text (leg_line e rows)
leg_told e [] old now next some front end = absurd (omega (arith, some))
leg_told e (r ∷ rows) old now next some front end =
    let zs : List ℤ = map pos (r ∷ rows) in
    line_text-numbers old now next (leg_front e) zs front (end ∙ ap (λ t. now ++ (t ++ 10 ∷ [])) (spaced_are (r ∷ rows)))
    ∙ ap (λ t. old ++ t) (leg_line_text e zs)
    ∙ ap (λ ws. old ++ line_text (leg_words e ws)) (sym (numbers_are (r ∷ rows)))
    ∙ ap (λ t. old ++ t) (sym (append-nil (line_text (leg_words e (numbers (r ∷ rows))))))

-- ---- what is printed and what is left to print

left_one : (first rest all : List Line) (old now next : List ℕ) → now ++ flat_map line_text (first ++ rest) ≡ old ++ flat_map line_text all → next ≡ now ++ flat_map line_text first → next ++ flat_map line_text rest ≡ old ++ flat_map line_text all
left_one first rest all old now next left printed =
    ap (λ t. t ++ flat_map line_text rest) printed ∙ append_assoc now (flat_map line_text first) (flat_map line_text rest)
    ∙ ap (λ t. now ++ t) (sym (flat_map-append line_text first rest)) ∙ left

left_none : (all rest : List Line) (old now : List ℕ) → rest ≡ [] → now ++ flat_map line_text rest ≡ old ++ flat_map line_text all → now ≡ old ++ flat_map line_text all
left_none all rest old now none left = sym (append-nil now) ∙ ap (λ ls. now ++ flat_map line_text ls) (sym none) ∙ left

-- the lines of the diagrams from edge k on
abbrev legs_from : List CompactEdge → List Rows → ℕ → List Line
legs_from es a k = leg_lines (drop k es) (drop k a)

legs_next : (es : List CompactEdge) (a : List Rows) (k : ℕ) (e : CompactEdge) (rows : Rows) → k < length es → k < length a → legs_from es a k ≡ leg_line (get_or es k e) (get_or a k rows) ++ legs_from es a (k + 1)
legs_next es a k e rows h l = ap (λ z. leg_lines z (drop k a)) (drop_next es k e h) ∙ ap (λ z. leg_lines (get_or es k e ∷ drop (k + 1) es) z) (drop_next a k rows l)

pub legs_one : (es : List CompactEdge) (a : List Rows) (k : ℕ) (e : CompactEdge) (rows : Rows) (old now next : List ℕ) → k < min (length es) (length a) → rows ≡ get_or a k rows
    → now ++ flat_map line_text (legs_from es a k) ≡ old ++ flat_map line_text (leg_lines es a) → next ≡ now ++ flat_map line_text (leg_line (get_or es k e) rows)
    → next ++ flat_map line_text (legs_from es a (k + 1)) ≡ old ++ flat_map line_text (leg_lines es a)
legs_one es a k e rows old now next h is left printed =
    left_one (leg_line (get_or es k e) (get_or a k rows)) (legs_from es a (k + 1)) (leg_lines es a) old now next
    (ap (λ ls. now ++ flat_map line_text ls) (sym (legs_next es a k e rows (omega arith) (omega arith))) ∙ left) (printed ∙ ap (λ r. now ++ flat_map line_text (leg_line (get_or es k e) r)) is)

no_diagrams : (es : List CompactEdge) → leg_lines es [] ≡ []
no_diagrams [] = refl
no_diagrams (e ∷ es) = refl

legs_ended : (es : List CompactEdge) (a : List Rows) (k : ℕ) → min (length es) (length a) ≤ k → legs_from es a k ≡ []
legs_ended es a k h = by_lt_z (pos k) (pos (length es))
    (λ less. ap (λ z. leg_lines (drop k es) z) (drop_all k a (omega (arith, ints))) ∙ no_diagrams (drop k es))
    (λ whole. ap (λ z. leg_lines z (drop k a)) (drop_all k es (omega (arith, ints))))

pub legs_all : (es : List CompactEdge) (a : List Rows) (k : ℕ) (old now : List ℕ) → min (length es) (length a) ≤ k → now ++ flat_map line_text (legs_from es a k) ≡ old ++ flat_map line_text (leg_lines es a) → now ≡ old ++ flat_map line_text (leg_lines es a)
legs_all es a k old now h left = left_none (leg_lines es a) (legs_from es a k) old now (legs_ended es a k h) left

-- the lines of the boxes from corner t on
pub corners_one : (extras : List (Vec Cell)) (t : ℕ) (cells : Vec Cell) (old now next : List ℕ) → t < length extras → now ++ flat_map line_text (box_lines t (cells_of (drop t extras))) ≡ old ++ flat_map line_text (box_lines 0 (cells_of extras))
    → next ≡ now ++ flat_map line_text (map (box_line t) (get_or extras t cells).items)
    → next ++ flat_map line_text (box_lines (t + 1) (cells_of (drop (t + 1) extras))) ≡ old ++ flat_map line_text (box_lines 0 (cells_of extras))
corners_one extras t cells old now next h left printed =
    let split : box_lines t (cells_of (drop t extras)) ≡ map (box_line t) (get_or extras t cells).items ++ box_lines (t + 1) (cells_of (drop (t + 1) extras)) =
    ap (λ z. box_lines t (cells_of z)) (drop_next extras t cells h) ∙ rw add-one refl in
    left_one (map (box_line t) (get_or extras t cells).items) (box_lines (t + 1) (cells_of (drop (t + 1) extras))) (box_lines 0 (cells_of extras)) old now next
    (ap (λ ls. now ++ flat_map line_text ls) (sym split) ∙ left) printed

pub corners_all : (extras : List (Vec Cell)) (t : ℕ) (old now : List ℕ) → length extras ≤ t → now ++ flat_map line_text (box_lines t (cells_of (drop t extras))) ≡ old ++ flat_map line_text (box_lines 0 (cells_of extras)) → now ≡ old ++ flat_map line_text (box_lines 0 (cells_of extras))
corners_all extras t old now h left =
    left_none (box_lines 0 (cells_of extras)) (box_lines t (cells_of (drop t extras))) old now (ap (λ z. box_lines t (cells_of z)) (drop_all t extras h)) left
