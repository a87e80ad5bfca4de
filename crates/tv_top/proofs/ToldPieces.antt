-- One piece told behind another.
use Rattle.std.proofs.Common.{◌≡◌, ℕ, suc, ◌+◌, ℤ, List, [], ◌∷◌, ◌++◌, length, take, codes, to_z, of_z, w64, true, false, Result, Ok, Err, MatchResult, inl, inr, refl, ap, sym, ◌∙◌, subst, arith, append_assoc, length-append}
use Rattle.std.specs.List.{flat_map}
use Rattle.std.specs.Result.{is_err}
use Rattle.std.specs.Io.KnownBytes.{Appends}
use Rattle.std.proofs.KnownBytes.{Appends-trans}
use Rattle.std.proofs.Math.Seq.{take-append-add}
use Rattle.std.proofs.lemmas.List.{take-append-le, take_all}
use Rattle.std.proofs.lemmas.Grind.{flat_map-append}
use Rattle.tv_spec_plane.specs.Web.{Web}
use Rattle.tv_spec_boxes.specs.Assignments.{Assignment, no_legs}
use Rattle.tv_cells.specs.declared.cell.Cell.{Cell}
use Rattle.tv_spec_boxes.specs.Configurations.{Configuration, configuration, configurations}
use Rattle.tv_spec_text.specs.Lines.{Line, line_text, text_of}
use Rattle.tv_spec_reports.specs.Boxes.{boxes_head, config_lines, boxes_text}
use Rattle.tv_outside.specs.Faults.{RoseOnce}
use Rattle.tv_outside.specs.Seen.{Seen}
use Rattle.tv_outside.specs.Writing.{GivesAll, GivesPart}
use Rattle.tv_text.proofs.Spellings.{same_number}
use Rattle.tv_words.specs.Commands.{IsOrder}
use Rattle.tv_words.specs.declared.command.TheConstants.{MIN_ORDER, MAX_ORDER}
use Rattle.tv_words.proofs.Between.{between_is_number}
use Rattle.tv_answers.specs.Texts.{memory_text}
use Rattle.tv_top.specs.Answers.{Change, Told}
use Rattle.tv_answers.specs.Boxes.{Suits, first_lines}
use Rattle.tv_answers.specs.Carried.{CarriesOut}
use Rattle.tv_top.specs.Listings.{HasTold, rest_text, IsRest, Finishes, IsTold, TellsFirst, Steps}
use Rattle.tv_top.specs.declared.pieces.Step.{Step}
use Rattle.tv_words.specs.declared.command.Command.TheVariants.{Boxes}
use Rattle.tv_answers.specs.declared.status.Status.{Status}
use Rattle.tv_answers.specs.declared.status.Status.TheVariants.{Done, Words, File, Wide, Differs, Memory, ReadFault, WriteFault}

-- a result is one of two
pub err_side : {T E : Type 0} (P Q : Type 0) (r : Result T E) → true ≡ is_err r → MatchResult r (λ x. P) (λ e. Q) → Q
err_side P Q (Ok x) e h = cc
err_side P Q (Err y) e h = h

pub ok_side : {T E : Type 0} (P Q : Type 0) (r : Result T E) → false ≡ is_err r → MatchResult r (λ x. P) (λ e. Q) → P
ok_side P Q (Ok x) e h = h
ok_side P Q (Err y) e h = cc

abbrev from_to : Seen → Seen → Change
from_to a b = record { before = a; after = b }

pub whole_told : (a b : Seen) (count : ℕ) (text : List ℕ) → Appends a.bytes b.bytes (take count text) → GivesAll a b count text → HasTold (from_to a b) text
whole_told a b count text h g =
    let whole = g.whole in
    let calls = g.calls in
    record { appended = subst (Appends a.bytes b.bytes) (take_all count text (omega arith)) h; calls = omega arith; kept = g.kept }

pub part_told : (a b : Seen) (count : ℕ) (text more : List ℕ) (status : Status) → Appends a.bytes b.bytes (take count text) → GivesPart a b count text → Told (from_to a b) (text ++ more) status WriteFault
part_told a b count text more status h g =
    let part = g.part in
    record {
      count = count;
      appended = subst (Appends a.bytes b.bytes) (sym (take-append-le count text more (omega arith))) h;
      ends = inr (refl, record { part = omega (arith, length-append text more); calls = g.calls; rose = g.rose });
    }

pub told_behind : (a b c : Seen) (front text : List ℕ) (status r : Status) → HasTold (from_to a b) front → Told (from_to b c) text status r → Told (from_to a c) (front ++ text) status r
told_behind a b c front text status r h t =
    let first = h.calls in
    record {
      count = length front + t.count;
      appended = subst (Appends a.bytes c.bytes) (sym (take-append-add front text t.count)) (Appends-trans a.bytes b.bytes c.bytes front (take t.count text) h.appended t.appended);
      ends = elim t.ends [
        | inl p ↦
            let whole = p.1.whole in
            let calls = p.1.calls in
            inl (p.0, record { whole = omega (arith, length-append front text); calls = omega arith; kept = p.1.kept ∙ h.kept })
        | inr p ↦
            let part = p.1.part in
            let calls = p.1.calls in
            inr (p.0, record { part = omega (arith, length-append front text); calls = omega arith; rose = subst (λ n. RoseOnce n c.faults) h.kept p.1.rose })
      ];
    }

-- texts of lines behind lines
text_behind : (ls ms : List Line) → text_of (ls ++ ms) ≡ text_of ls ++ text_of ms
text_behind ls ms = flat_map-append line_text ls ms

pub rest_behind : (w : Web) (c : Configuration) (coming : List Configuration) → text_of (config_lines w c) ++ rest_text w coming ≡ rest_text w (c ∷ coming)
rest_behind w c coming =
    sym (ap text_of (append_assoc (config_lines w c) (flat_map (config_lines w) coming) ((codes "end" ∷ []) ∷ [])) ∙ text_behind (config_lines w c) (flat_map (config_lines w) coming ++ (codes "end" ∷ []) ∷ []))

is_rest-behind : (w : Web) (c : Configuration) (coming : List Configuration) (s : Status) (text : List ℕ) → IsRest w coming s text → IsRest w (c ∷ coming) s (text_of (config_lines w c) ++ text)
is_rest-behind w c coming Done text h = ap (λ t. text_of (config_lines w c) ++ t) h ∙ rest_behind w c coming
is_rest-behind w c coming Memory text h =
    (suc h.0, ap (λ t. text_of (config_lines w c) ++ t) h.1 ∙ sym (append_assoc (text_of (config_lines w c)) (text_of (flat_map (config_lines w) (take h.0 coming))) memory_text) ∙ ap (λ t. t ++ memory_text) (sym (text_behind (config_lines w c) (flat_map (config_lines w) (take h.0 coming)))))
is_rest-behind w c coming Words text h = absurd h
is_rest-behind w c coming File text h = absurd h
is_rest-behind w c coming Wide text h = absurd h
is_rest-behind w c coming Differs text h = absurd h
is_rest-behind w c coming ReadFault text h = absurd h
is_rest-behind w c coming WriteFault text h = absurd h

pub finishes-behind : (w : Web) (c : Configuration) (coming : List Configuration) (a b e : Seen) (r : Status) → HasTold (from_to a b) (text_of (config_lines w c)) → Finishes w coming (from_to b e) r → Finishes w (c ∷ coming) (from_to a e) r
finishes-behind w c coming a b e r h f = record {
  status = f.status;
  text = text_of (config_lines w c) ++ f.text;
  rest = is_rest-behind w c coming f.status f.text f.rest;
  told = told_behind a b e (text_of (config_lines w c)) f.text f.status r h f.told;
}

-- a configuration as its parts
pub same_config : (w : Web) (c : Configuration) (diagrams : Assignment) (extras : List (List Cell)) → diagrams ≡ c.diagrams → extras ≡ c.extras → text_of (config_lines w (configuration diagrams extras)) ≡ text_of (config_lines w c)
same_config w c diagrams extras p q = rw (p, q) refl

-- how a telling ends
pub memory_finishes : (w : Web) (coming : List Configuration) (out : Change) (r : Status) → Told out memory_text Memory r → Finishes w coming out r
memory_finishes w coming out r t = record { status = Memory; text = memory_text; rest = (0, refl); told = t }

pub end_finishes : (w : Web) (now : List Configuration) (out : Change) (r : Status) → now ≡ [] → Told out (rest_text w []) Done r → Finishes w now out r
end_finishes w now out r e t = record { status = Done; text = rest_text w []; rest = ap (rest_text w) (sym e); told = t }

pub first_finishes : (w : Web) (now then : List Configuration) (a b e : Seen) (r : Status) → TellsFirst w now then (from_to a b) → Finishes w then (from_to b e) r → Finishes w now (from_to a e) r
first_finishes w now then a b e r t f = subst (λ cs. Finishes w cs (from_to a e) r) (sym t.others) (finishes-behind w t.first then a b e r t.told f)

pub steps_from : (w : Web) (now then : List Configuration) (c : Configuration) (out : Change) (step : Step) → now ≡ c ∷ then → Steps w (c ∷ then) then out step → Steps w now then out step
steps_from w now then c out step e h = subst (λ cs. Steps w cs then out step) (sym e) h

pub config_part_finishes : (w : Web) (c : Configuration) (others : List Configuration) (a b : Seen) (count : ℕ) (text : List ℕ) → text ≡ text_of (config_lines w c) → Appends a.bytes b.bytes (take count text) → GivesPart a b count text → Finishes w (c ∷ others) (from_to a b) WriteFault
config_part_finishes w c others a b count text e h g = record {
  status = Done;
  text = text ++ rest_text w others;
  rest = ap (λ t. t ++ rest_text w others) e ∙ rest_behind w c others;
  told = part_told a b count text (rest_text w others) Done h g;
}

-- an Euler characteristic is a word of the machine
pub same_chi : (chi : ℤ) → IsOrder chi → to_z w64 (of_z w64 chi) ≡ chi
same_chi chi o = same_number chi (between_is_number MIN_ORDER MAX_ORDER chi (omega arith) (omega arith) o)

-- the head, and what follows it
whole_report : (w : Web) (v : List ℤ) (chi : ℤ) → text_of (boxes_head w v chi) ++ rest_text w (configurations w (no_legs w) v chi) ≡ boxes_text w v chi
whole_report w v chi = sym (text_behind (boxes_head w v chi) (flat_map (config_lines w) (configurations w (no_legs w) v chi) ++ (codes "end" ∷ []) ∷ []))

deserved_behind : (w : Web) (v : List ℤ) (chi : ℤ) (s : Status) (text : List ℕ) → Suits w v → IsRest w (configurations w (no_legs w) v chi) s text → CarriesOut (Boxes chi v) w s (text_of (boxes_head w v chi) ++ text)
deserved_behind w v chi Done text s h = record { suits = s; printed = ap (λ t. text_of (boxes_head w v chi) ++ t) h ∙ whole_report w v chi }
deserved_behind w v chi Memory text s h =
    inr (
      text_of (first_lines w v chi h.0),
      record { suits = s; count = h.0; begins = refl },
      ap (λ t. text_of (boxes_head w v chi) ++ t) h.1 ∙ sym (append_assoc (text_of (boxes_head w v chi)) (text_of (flat_map (config_lines w) (take h.0 (configurations w (no_legs w) v chi)))) memory_text)
          ∙ ap (λ t. t ++ memory_text) (sym (text_behind (boxes_head w v chi) (flat_map (config_lines w) (take h.0 (configurations w (no_legs w) v chi))))),
    )
deserved_behind w v chi Words text s h = absurd h
deserved_behind w v chi File text s h = absurd h
deserved_behind w v chi Wide text s h = absurd h
deserved_behind w v chi Differs text s h = absurd h
deserved_behind w v chi ReadFault text s h = absurd h
deserved_behind w v chi WriteFault text s h = absurd h

pub report_told : (w : Web) (v : List ℤ) (chi : ℤ) (a b c : Seen) (r : Status) (head : List ℕ) → Suits w v → head ≡ text_of (boxes_head w v chi) → HasTold (from_to a b) head → Finishes w (configurations w (no_legs w) v chi) (from_to b c) r → IsTold (Boxes chi v) w (from_to a c) r
report_told w v chi a b c r head s e h f = record {
  status = f.status;
  text = text_of (boxes_head w v chi) ++ f.text;
  deserved = deserved_behind w v chi f.status f.text s f.rest;
  told = told_behind a b c (text_of (boxes_head w v chi)) f.text f.status r (subst (HasTold (from_to a b)) e h) f.told;
}

pub head_part_told : (w : Web) (v : List ℤ) (chi : ℤ) (a b : Seen) (count : ℕ) (text : List ℕ) → Suits w v → text ≡ text_of (boxes_head w v chi) → Appends a.bytes b.bytes (take count text) → GivesPart a b count text → IsTold (Boxes chi v) w (from_to a b) WriteFault
head_part_told w v chi a b count text s e h g = record {
  status = Done;
  text = text ++ rest_text w (configurations w (no_legs w) v chi);
  deserved = record { suits = s; printed = ap (λ t. t ++ rest_text w (configurations w (no_legs w) v chi)) e ∙ whole_report w v chi };
  told = part_told a b count text (rest_text w (configurations w (no_legs w) v chi)) Done h g;
}

pub memory_told : (w : Web) (v : List ℤ) (chi : ℤ) (out : Change) (r : Status) → Told out memory_text Memory r → IsTold (Boxes chi v) w out r
memory_told w v chi out r t = record { status = Memory; text = memory_text; deserved = inl refl; told = t }
