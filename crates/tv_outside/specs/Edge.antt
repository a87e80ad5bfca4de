-- What is seen of a reader and a writer of std behind a source and a sink.
--
-- reader_of s               == the reader of a source over std
-- seen_source s             == its counts; it tells no bytes
-- writer_of s               == the writer of a sink over std
-- seen_sink s               == its counts; it tells no bytes
-- AppendsPart old new piece == the known bytes of a writer grew by some first bytes of the piece
-- Passes old new r piece    == they grew by the first n bytes of the piece at Ok n, and by some first bytes where r is an error
use Rattle.std.specs.Prelude.{ℕ, ◌≤◌, List, length, take, Option, None, Result, MatchResult}
use Rattle.std.specs.Io.KnownBytes.{Appends}
use Rattle.tv_outside.specs.declared.std_source.StdSource.{StdSource}
use Rattle.tv_outside.specs.declared.std_sink.StdSink.{StdSink}
use Rattle.tv_outside.specs.Seen.{Seen}

abbrev pub reader_of : {R : Type 0} → StdSource R → R
reader_of s = s.reader

abbrev pub seen_source : {R : Type 0} → StdSource R → Seen
seen_source s = record { bytes = None; calls = s.calls; faults = s.faults }

abbrev pub writer_of : {W : Type 0} → StdSink W → W
writer_of s = s.writer

abbrev pub seen_sink : {W : Type 0} → StdSink W → Seen
seen_sink s = record { bytes = None; calls = s.calls; faults = s.faults }

pub record AppendsPart (old new : Option (List ℕ)) (piece : List ℕ) : Type 0 where
  pub count : ℕ
  pub within : count ≤ length piece
  pub appended : Appends old new (take count piece)

abbrev pub Passes : {E : Type 0} → Option (List ℕ) → Option (List ℕ) → Result ℕ E → List ℕ → Type 0
Passes old new r piece = MatchResult r (λ n. Appends old new (take n piece)) (λ _. AppendsPart old new piece)
