-- How a listing is told, piece by piece.
--
-- HasTold out text         == all of the text was appended to the sink, in at most a write for each byte, and no write failed
-- rest_text w coming       == the text of these configurations, and of the end
-- IsRest w coming status text == the text is that rest, and the status is Done; or it is that of the first configurations of the
--                             rest, as many as some count or all, followed by that of want of memory
-- Finishes w coming out result == some such status and text were told
-- IsTold c w out result    == some status and text were told that the command deserves over this web
-- TellsFirst w now then out == the first configuration that was to come was told, and the others are still to come
-- Steps w now then out step == so it is, or the telling is finished
use Rattle.std.specs.Prelude.{◌≡◌, ℕ, ◌+◌, ◌≤◌, List, [], ◌∷◌, ◌++◌, length, take, codes}
use Rattle.std.specs.List.{flat_map}
use Rattle.std.specs.Io.KnownBytes.{Appends}
use Rattle.tv_spec_plane.specs.Web.{Web}
use Rattle.tv_spec_boxes.specs.Configurations.{Configuration}
use Rattle.tv_spec_text.specs.Lines.{text_of}
use Rattle.tv_spec_reports.specs.Boxes.{config_lines}
use Rattle.tv_answers.specs.Texts.{memory_text}
use Rattle.tv_top.specs.Answers.{Change, Told}
use Rattle.tv_answers.specs.Carried.{CarriesOut}
use Rattle.tv_words.specs.declared.command.Command.{Command}
use Rattle.tv_answers.specs.declared.status.Status.{Status}
use Rattle.tv_answers.specs.declared.status.Status.TheVariants.{Done, Memory}
use Rattle.tv_top.specs.declared.pieces.Step.{Step}
use Rattle.tv_top.specs.declared.pieces.Step.TheVariants.{Further, Finished}

pub record HasTold (out : Change) (text : List ℕ) : Type 0 where
  pub appended : Appends out.before.bytes out.after.bytes text
  pub calls : out.after.calls ≤ out.before.calls + length text
  pub kept : out.after.faults ≡ out.before.faults

abbrev pub rest_text : Web → List Configuration → List ℕ
rest_text w coming = text_of (flat_map (config_lines w) coming ++ (codes "end" ∷ []) ∷ [])

abbrev pub IsRest : Web → List Configuration → Status → List ℕ → Type 0
IsRest w coming Done text = text ≡ rest_text w coming
IsRest w coming Memory text = (count : ℕ) × (text ≡ text_of (flat_map (config_lines w) (take count coming)) ++ memory_text)
IsRest w coming _ text = ⊥

pub record Finishes (w : Web) (coming : List Configuration) (out : Change) (result : Status) : Type 0 where
  pub status : Status
  pub text : List ℕ
  pub rest : IsRest w coming status text
  pub told : Told out text status result

pub record IsTold (c : Command) (w : Web) (out : Change) (result : Status) : Type 0 where
  pub status : Status
  pub text : List ℕ
  pub deserved : CarriesOut c w status text
  pub told : Told out text status result

pub record TellsFirst (w : Web) (now then : List Configuration) (out : Change) : Type 0 where
  pub first : Configuration
  pub others : now ≡ first ∷ then
  pub told : HasTold out (text_of (config_lines w first))

abbrev pub Steps : Web → List Configuration → List Configuration → Change → Step → Type 0
Steps w now then out Further = TellsFirst w now then out
Steps w now then out (Finished result) = Finishes w now out result
