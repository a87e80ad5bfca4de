use Rattle.std.proofs.Common.{◌≡◌, ◌∙◌, ◌≤◌, List, ℕ, length, map, ap, arith}
use Rattle.std.specs.Str.Lines.{lines}
use Rattle.std.proofs.lemmas.List.{length-map}
use Rattle.tv_text.specs.Rows.{texts}
use Rattle.tv_text.proofs.BadLines.{lines-length}
use Rattle.tv_report_reader.proofs.reading.read_report.Goals as goal

count : {A : Type 0} (f : A → List ℕ) (xs : List A) (bytes : List ℕ) → map f xs ≡ lines bytes → length bytes ≤ 16777216 → length xs ≤ 16777217
count f xs bytes e h = let same : length (map f xs) ≡ length xs = simp length-map in omega (arith, lines-length bytes, ap length e, same)

pub read_lines-requires : goal.read_lines-requires
read_lines-requires c = count (λ w. w.now) c.deref.result.now c.args.bytes.now (ap texts c.deref.ensures.value ∙ c.in_ok-lines.ensures) c.if-bytes-gt-MOST_REPORT_BYTES.false
