-- The texts of grids are files, and a printed file reads back as itself.
use Rattle.std.proofs.Common.{ℕ, zero, suc, ◌<◌, ◌≤◌, ◌^◌, ℤ, pos, negsuc, [], ◌∷◌, arith}
use Rattle.std.specs.Prelude.{unsigned_abs}
use Rattle.std.specs.List.{AllByRecursion}
use Rattle.std.proofs.lemmas.Int.{ints}
use Rattle.std.proofs.lemmas.Nat.{mul-le}
use Rattle.tv_lemmas.proofs.Members.{all-flat_map}
use Rattle.tv_spec_reports.specs.Grids.{place, over_square, grid_point, lower, upper, grid_height, grid}
use Rattle.tv_spec_text.specs.Lines.{IsNumber, IsCount, text_of, word_lines}
use Rattle.tv_spec_text.specs.Files.{PointFits, TriangleFits, Fits, file_lines}
use Rattle.tv_spec_text.proofs.Readings.{Spells-unique}
use Rattle.tv_grids.specs.Laws.{GridsHaveTexts, FilesReadBack}
use Rattle.tv_grids.proofs.Within.{grid-within, over-each}
use Rattle.tv_grids.proofs.Passing.{text-short}
use Rattle.tv_grids.proofs.RoundTrip.{file-spells}

number-by : (z : ℤ) → unsigned_abs z < 10 ^ 9 → IsNumber z
number-by (pos n) h = omega arith
number-by (negsuc n) h = omega arith

count-place : (k x y : ℕ) → k ≤ 7 → x ≤ 7 → y ≤ 7 → IsCount (place k x y)
count-place k x y h g i = omega (arith, mul-le y (suc k) 7 8 i (omega arith))

grid-fits : (k : ℕ) → k ≤ 7 → Fits (grid k)
grid-fits k h = record {
  points = over-each PointFits (suc k) grid_point (λ x y g i. (omega arith, omega arith));
  triangles = all-flat_map (AllByRecursion TriangleFits) TriangleFits (λ ts. ts) (λ ts all. all) (over_square k (λ x y. lower k x y ∷ upper k x y ∷ [])) (over-each (AllByRecursion TriangleFits) k (λ x y. lower k x y ∷ upper k x y ∷ []) (λ x y g i.
      let corner = count-place k x y h (omega arith) (omega arith) in let across = count-place k (suc x) (suc y) h (omega arith) (omega arith) in
      ((corner, count-place k (suc x) y h (omega arith) (omega arith), across), ((corner, across, count-place k x (suc y) h (omega arith) (omega arith)), tt))));
  heights = over-each IsNumber (suc k) grid_height (λ x y g i. number-by (grid_height x y) (omega (arith, ints, mul-le x x 7 7 (omega arith) (omega arith), mul-le y y 7 7 (omega arith) (omega arith), mul-le x y 7 7 (omega arith) (omega arith))));
}

pub grids_have_texts : GridsHaveTexts
grids_have_texts zero h = absurd (omega arith)
grids_have_texts (suc j) h = (text-short j (omega arith), file-spells (grid (suc j)) (grid-fits (suc j) h.1), grid-within (suc j) h.1)

pub files_read_back : FilesReadBack
files_read_back w fits =
    let spells = file-spells w fits in record { spells = spells; only = λ v other. Spells-unique (word_lines (text_of (file_lines w))) v w other spells }
