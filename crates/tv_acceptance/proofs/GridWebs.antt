-- A grid is its own web, and fails no check.
use Rattle.std.proofs.Common.{◌≡◌, ℕ, ℤ, pos, ◌<ℤ◌, List, [], ◌∷◌, false, refl, ap, sym, ◌∙◌, arith, subst}
use Rattle.std.proofs.lemmas.Int.{ints}
use Rattle.std.specs.List.{AllByRecursion}
use Rattle.tv_spec_plane.specs.declared.records.CompactEdge.{CompactEdge}
use Rattle.tv_spec_plane.specs.declared.records.Triple.{Triple}
use Rattle.tv_spec_plane.specs.Web.{Web, compact, edge_degree}
use Rattle.tv_spec_plane.specs.Graded.{HasDegree, IsGraded}
use Rattle.tv_lattice.specs.declared.fault.FileFault.{FileFault}
use Rattle.tv_spec_text.specs.Lines.{line_text}
use Rattle.tv_spec_json.specs.Files.{is_json}
use Rattle.tv_spec_reports.specs.Grids.{grid, grid_text}
use Rattle.tv_grids.specs.Laws.{IsGridNumber}
use Rattle.tv_grids.proofs.Passing.{grids_accepted}
use Rattle.tv_grids.proofs.Texts.{grids_have_texts}
use Rattle.tv_words.specs.Commands.{IsSide}
use Rattle.tv_acceptance.specs.Acceptance.{turned_web, ReadsAs, IsSound, IsUnsoundBy}
use Rattle.tv_acceptance.specs.Laws.{GridIsAccepted}
use Rattle.tv_acceptance.proofs.Excluded.{sound_or_unsound}

side_number : (k : ℕ) → IsSide k → IsGridNumber k
side_number k s = let low = s.0 in let high = s.1 in (omega (arith, ints), omega (arith, ints))

grid_same : (k : ℕ) → IsSide k → turned_web (grid k) ≡ grid k
grid_same k s = ap (λ (ts : List Triple). record (grid k) { triangles = ts }) (grids_accepted k (side_number k s)).1.turned

pub grid_web_is : (k : ℕ) → IsSide k → (w : Web) → IsSound (grid k) w → w ≡ grid k
grid_web_is k s w sound = sound.turned ∙ grid_same k s

positive : (z : ℤ) → z ≡ pos 1 → pos 0 <ℤ z
positive z e = omega (arith, ints)

all_positive : (w : Web) (es : List CompactEdge) → AllByRecursion (λ e. edge_degree w e ≡ pos 1) es → AllByRecursion (HasDegree w) es
all_positive w [] h = tt
all_positive w (e ∷ es) h = (positive (edge_degree w e) h.0, all_positive w es h.1)

pub grid_graded : (k : ℕ) → IsSide k → IsGraded (grid k)
grid_graded k s = all_positive (grid k) (compact (grid k)) (grids_accepted k (side_number k s)).1.degrees

pub grid_passes : (k : ℕ) → IsSide k → (f : FileFault) → IsUnsoundBy (grid k) f → ⊥
grid_passes k s f x =
    let law = grids_accepted k (side_number k s) in
    sound_or_unsound (grid k) f law.0 law.1.tiled law.1.heights (subst IsGraded (sym (grid_same k s)) (grid_graded k s)) x

grid_is_text : (k : ℕ) → is_json (grid_text k) ≡ false
unfolding line_text
grid_is_text k = refl

pub grid_accepted : GridIsAccepted
grid_accepted k s =
    let law = grids_accepted k (side_number k s) in
    record {
      file = grid k;
      read = subst (λ json. ReadsAs json (grid_text k) (grid k)) (sym (grid_is_text k)) (grids_have_texts k (side_number k s));
      sound = record { tiled = law.1.tiled; heights = law.1.heights; turned = sym (grid_same k s); graded = grid_graded k s };
    }
