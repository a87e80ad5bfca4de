-- What stays true while a text is written, and what one write does to it.
use Rattle.std.proofs.Common.{◌≡◌, ℕ, ◌+◌, ◌-◌, ◌<◌, ◌≤◌, List, ◌++◌, length, take, drop, subst, ap, sym, ◌∙◌, arith}
use Rattle.std.specs.Io.KnownBytes.{Appends}
use Rattle.std.proofs.KnownBytes.{Appends-trans}
use Rattle.std.proofs.Math.Seq.{take-add}
use Rattle.std.proofs.lemmas.List.{length-drop, take_all}
use Rattle.tv_outside.specs.Faults.{next_count}
use Rattle.tv_outside.specs.Seen.{Seen}

-- the writes so far appended this many bytes of the text, at least one a write, and none of them failed
pub record WritesSoFar (old new : Seen) (text : List ℕ) (done : ℕ) : Type 0 where
  pub within : done ≤ length text
  pub appended : Appends old.bytes new.bytes (take done text)
  pub calls : new.calls ≤ old.calls + done
  pub kept : new.faults ≡ old.faults

-- a write of the rest of the text took count bytes of it, at least one
pub WritesSoFar-further : (old mid new : Seen) (text rest : List ℕ) (done count : ℕ) → WritesSoFar old mid text done
    → rest ≡ take (length text - done) (drop done text) → Appends mid.bytes new.bytes (take count rest) → count ≤ length rest
    → done < length text → (0 < length rest → 0 < count) → new.calls ≡ next_count mid.calls → new.faults ≡ mid.faults
    → WritesSoFar old new text (done + count)
WritesSoFar-further old mid new text rest done count so_far is_rest took fits more some call kept =
    let whole : rest ≡ drop done text = is_rest ∙ take_all (length text - done) (drop done text) (omega (arith, length-drop done text)) in
    let size : length rest ≡ length text - done = ap length whole ∙ length-drop done text in
    let joined : take done text ++ take count rest ≡ take (done + count) text =
    ap (λ l. take done text ++ take count l) whole ∙ sym (take-add done count text) in
    record {
      within = omega (arith, so_far.within);
      appended = subst (Appends old.bytes new.bytes) joined (Appends-trans old.bytes mid.bytes new.bytes (take done text) (take count rest) so_far.appended took);
      calls = let least : 0 < count = some (omega arith) in omega (arith, so_far.calls);
      kept = kept ∙ so_far.kept;
    }
