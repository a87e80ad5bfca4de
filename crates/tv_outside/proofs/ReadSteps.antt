-- What stays true while a source is read, and what one read does to it.
use Rattle.std.proofs.Common.{◌≡◌, ℕ, ◌+◌, ◌-◌, ◌<◌, ◌≤◌, min, List, [], ◌++◌, length, take, drop, ap, sym, ◌∙◌, arith}
use Rattle.std.specs.Prelude.{Err}
use Rattle.std.specs.Io.KnownBytes.{Consumes}
use Rattle.std.proofs.KnownBytes.{Consumes-trans}
use Rattle.std.proofs.lemmas.List.{take-append-le, take-append-drop, take-take, take_all, drop-drop, length-append, length-drop, length-take-le, drop_all}
use Rattle.tv_outside.specs.Faults.{next_count}
use Rattle.tv_outside.specs.Reading.{Takes}
use Rattle.tv_outside.specs.Seen.{Seen}
use Rattle.tv_outside.specs.declared.reading.ReadEnd.TheVariants.{TooLong, Memory}

-- the reads so far took these bytes, at least one a read, which are within the limit, and none of them failed
pub record ReadsSoFar (old new : Seen) (limit : ℕ) (bytes : List ℕ) : Type 0 where
  pub taken : Consumes old.bytes new.bytes bytes
  pub within : length bytes ≤ limit
  pub calls : new.calls ≤ old.calls + length bytes
  pub kept : new.faults ≡ old.faults

module _ (old mid new : Seen) (limit : ℕ) (bytes more : List ℕ) (so_far : ReadsSoFar old mid limit bytes)
    (took : Consumes mid.bytes new.bytes more) (call : new.calls ≡ next_count mid.calls) (kept : new.faults ≡ mid.faults) where
  -- one read took what is more than the limit
  pub too_long : length bytes + length more ≡ limit + 1 → Takes old new limit (Err TooLong)
  too_long reach = record {
    bytes = bytes ++ more;
    taken = Consumes-trans old.bytes mid.bytes new.bytes bytes more so_far.taken took;
    calls = omega (arith, so_far.calls, length-append bytes more);
    later = omega (arith, so_far.kept);
    outcome = (omega (arith, length-append bytes more), kept ∙ so_far.kept);
  }

  -- one read took bytes within the limit, for which there is no memory
  pub no_memory : length bytes + length more ≤ limit → Takes old new limit (Err Memory)
  no_memory fits = record {
    bytes = bytes ++ more;
    taken = Consumes-trans old.bytes mid.bytes new.bytes bytes more so_far.taken took;
    calls = omega (arith, so_far.calls, length-append bytes more);
    later = omega (arith, so_far.kept);
    outcome = (omega (arith, length-append bytes more), kept ∙ so_far.kept);
  }

-- a slice from a place on is what is left there
pub slice_from : (given bytes left : List ℕ) (position : ℕ) → given ≡ bytes → left ≡ drop position bytes
    → take (length given - position) (drop position given) ≡ left
slice_from given bytes left position is_given is_left =
    take_all (length given - position) (drop position given) (omega (arith, length-drop position given)) ∙ ap (drop position) is_given ∙ sym is_left

-- what is left after a read from memory
drop_further : (left bytes : List ℕ) (position count : ℕ) → left ≡ drop position bytes → drop (position + count) bytes ≡ drop count left
drop_further left bytes position count is_left = sym (drop-drop count position bytes) ∙ ap (drop count) (sym is_left)

-- what a read from memory copied, and then what is left, is what was left before
pub front_given : (left bytes copied rest : List ℕ) (position count : ℕ) → left ≡ drop position bytes → copied ≡ take count left → count ≤ length left
    → left ≡ take count (copied ++ rest) ++ drop (position + count) bytes
front_given left bytes copied rest position count is_left is_copied fits =
    let whole : length copied ≡ count = ap length is_copied ∙ length-take-le count left fits in
    let reach : count ≤ length copied = omega arith in
    let front : take count (copied ++ rest) ≡ take count left =
    take-append-le count copied rest reach ∙ ap (take count) is_copied ∙ take-take count count left (omega arith) in
    let back : drop (position + count) bytes ≡ drop count left = drop_further left bytes position count is_left in
    let all : take count left ++ drop count left ≡ left = take-append-drop count left in
    cc

-- a read from memory that gives no byte into a buffer with room leaves none
pub none_left : (left bytes : List ℕ) (position count piece room : ℕ) → left ≡ drop position bytes → count ≡ min (min piece room) (length left) → 1 ≤ piece
    → count ≡ 0 → 0 < room → drop (position + count) bytes ≡ []
none_left left bytes position count piece room is_left is_count some_piece none some_room =
    drop_further left bytes position count is_left ∙ drop_all count left (omega arith)
