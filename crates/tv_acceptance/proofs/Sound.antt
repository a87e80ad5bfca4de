-- What the checks of triangles, heights and degrees leave of a file and its web.
use Rattle.std.proofs.Common.{◌≡◌, ◌≢◌, ℕ, ◌<◌, ℤ, pos, ◌<ℤ◌, ◌≤ℤ◌, List, length, Bool, true, false, Result, Ok, Err, MatchResult, ap, sym, ◌∙◌, arith, subst}
use Rattle.std.specs.Prelude.{⊤}
use Rattle.std.proofs.lemmas.Int.{ints}
use Rattle.tv_spec_plane.specs.Web.{Web, compact, edge_degree, no_edge}
use Rattle.tv_lemmas.proofs.Members.{all-at}
use Rattle.tv_lattice.specs.Limits.{IsWithinLimits}
use Rattle.tv_lattice.specs.declared.fault.InputError.{InputError}
use Rattle.tv_lattice.specs.declared.fault.InputError.TheVariants.{Fault, Memory}
use Rattle.tv_lattice.specs.declared.fault.FileFault.TheVariants.{TooLong, Line, Json, TooMany, Repeated, Index, Flat, Area, Twice, Unmatched, Bare, HeightCount, Degree}
use Rattle.tv_triangulation.specs.Triangulated.{IsTiled}
use Rattle.tv_triangulation.proofs.Accepted.{passing_triangles_tile}
use Rattle.tv_triangulation.specs.Mesh.{Mesh}
use Rattle.tv_triangulation.specs.Turned.{turned}
use Rattle.tv_triangulation.specs.Faults.{IsAnswer, PassesChecks}
use Rattle.tv_web.specs.Built.{bare_web}
use Rattle.tv_degrees.specs.Edges.{edge_at, with_heights}
use Rattle.tv_degrees.specs.Grades.{IsFirstLow}
use Rattle.tv_spec_plane.specs.Graded.{HasDegree, IsGraded}
use Rattle.tv_spec_json.specs.Files.{is_json}
use Rattle.tv_spec_plane.specs.declared.limits.TheConstants.{MOST_BYTES}
use Rattle.tv_lattice.specs.declared.fault.FileFault.{FileFault}
use Rattle.tv_acceptance.specs.Acceptance.{turned_web, IsFile, IsAccepted, IsSound, IsUnsound, IsLowEdge}
use Rattle.tv_acceptance.specs.Rejections.{RefusedAs, IsFileFault, IsRefused}

tiled : (file : Web) (m : Mesh) → IsWithinLimits file → PassesChecks file.points file.triangles m → IsTiled file.points file.triangles
tiled file m limits h = passing_triangles_tile file.points file.triangles m limits.coordinates h

sound_web : (file w : Web) (m : Mesh) → IsWithinLimits file → PassesChecks file.points file.triangles m → length file.heights ≡ length file.points → w ≡ record { points = m.points; triangles = m.triangles; heights = file.heights } → IsGraded w → IsSound file w
sound_web file w m limits h heights same graded =
    let turns : w ≡ turned_web file = same ∙ ap (λ (k : Mesh). record { points = k.points; triangles = k.triangles; heights = file.heights }) h.whole in
    record {
      tiled = tiled file m limits h;
      heights = heights;
      turned = turns;
      graded = graded;
    }

pub unsound_heights : (file : Web) (m : Mesh) (k : ℕ) → IsWithinLimits file → PassesChecks file.points file.triangles m → k ≡ length file.heights → length file.heights ≢ length file.points → IsUnsound file (Fault (HeightCount k))
unsound_heights file m k limits h count other = (tiled file m limits h, count, λ e. other (sym count ∙ e))

-- the first compact edge of the turned web whose degree is too low is the last check's fault
unsound_by : (file w : Web) (e : InputError) → IsTiled file.points file.triangles → length file.heights ≡ length file.points → w ≡ turned_web file → IsLowEdge w e → IsUnsound file e
unsound_by file w Memory t heights same h = tt
unsound_by file w (Fault (Degree a b d)) t heights same h = (t, heights, (h.0, subst (λ v. IsFirstLow v h.0 a b d) same h.1))
unsound_by file w (Fault TooLong) t heights same h = absurd h
unsound_by file w (Fault (Line n)) t heights same h = absurd h
unsound_by file w (Fault Json) t heights same h = absurd h
unsound_by file w (Fault (TooMany e)) t heights same h = absurd h
unsound_by file w (Fault (Repeated i j)) t heights same h = absurd h
unsound_by file w (Fault (Index k)) t heights same h = absurd h
unsound_by file w (Fault Flat) t heights same h = absurd h
unsound_by file w (Fault (Area k d)) t heights same h = absurd h
unsound_by file w (Fault (Twice i j)) t heights same h = absurd h
unsound_by file w (Fault (Unmatched a b)) t heights same h = absurd h
unsound_by file w (Fault (Bare a b)) t heights same h = absurd h
unsound_by file w (Fault (HeightCount k)) t heights same h = absurd h

unsound_degree : (file : Web) (m : Mesh) (e : InputError) → IsWithinLimits file → PassesChecks file.points file.triangles m → length file.heights ≡ length file.points → IsLowEdge (record { points = m.points; triangles = m.triangles; heights = file.heights }) e → IsUnsound file e
unsound_degree file m e limits h heights low = unsound_by file _ e (tiled file m limits h) heights (ap (λ (k : Mesh). record { points = k.points; triangles = k.triangles; heights = file.heights }) h.whole) low

-- what the degrees leave of a file whose triangles and heights are sound
pub sound_or_low : (file : Web) (m : Mesh) (hs : List ℤ) (r : Result Web InputError) → IsWithinLimits file → PassesChecks file.points file.triangles m → length file.heights ≡ length file.points → hs ≡ file.heights
    → (let web = with_heights (bare_web m.points m.triangles) hs in MatchResult r (λ w. (w ≡ web) × IsGraded w) (IsLowEdge web)) → MatchResult r (IsSound file) (IsUnsound file)
sound_or_low file m hs (Ok w) limits h heights same k = sound_web file w m limits h heights (k.0 ∙ ap (with_heights (bare_web m.points m.triangles)) same) k.1
sound_or_low file m hs (Err e) limits h heights same k = unsound_degree file m e limits h heights (subst (λ zs. IsLowEdge (with_heights (bare_web m.points m.triangles) zs) e) same k)

-- the first check of points and triangles that fails is the first of all
pub unsound_answer : (w : Web) (e : InputError) → IsAnswer w.points w.triangles e → IsUnsound w e
unsound_answer w Memory h = tt
unsound_answer w (Fault (HeightCount k)) h = absurd h.1
unsound_answer w (Fault (Degree a b d)) h = absurd h.1
unsound_answer w (Fault TooLong) h = h
unsound_answer w (Fault (Line n)) h = h
unsound_answer w (Fault Json) h = h
unsound_answer w (Fault (TooMany e)) h = h
unsound_answer w (Fault (Repeated i j)) h = h
unsound_answer w (Fault (Index t)) h = h
unsound_answer w (Fault Flat) h = h
unsound_answer w (Fault (Area t d)) h = h
unsound_answer w (Fault (Twice t u)) h = h
unsound_answer w (Fault (Unmatched a b)) h = h
unsound_answer w (Fault (Bare a b)) h = h

-- what the form of the bytes leaves of them
too_long_read : (json : Bool) (bytes : List ℕ) → RefusedAs json bytes (Fault TooLong) → MOST_BYTES < length bytes
too_long_read true bytes h = h
too_long_read false bytes h = h

-- no reading refuses by a check of points, triangles, heights or degrees
abbrev IsOfForm : FileFault → Type 0
IsOfForm TooLong = ⊤
IsOfForm (Line n) = ⊤
IsOfForm Json = ⊤
IsOfForm (TooMany e) = ⊤
IsOfForm f = ⊥

of_form : (json : Bool) (bytes : List ℕ) (f : FileFault) → RefusedAs json bytes (Fault f) → IsOfForm f
of_form true bytes TooLong h = tt
of_form true bytes (Line n) h = tt
of_form true bytes Json h = tt
of_form true bytes (TooMany e) h = tt
of_form true bytes (Repeated i j) h = h
of_form true bytes (Index k) h = h
of_form true bytes Flat h = h
of_form true bytes (Area k d) h = h
of_form true bytes (Twice i j) h = h
of_form true bytes (Unmatched i j) h = h
of_form true bytes (Bare i j) h = h
of_form true bytes (HeightCount k) h = h
of_form true bytes (Degree i j d) h = h
of_form false bytes TooLong h = tt
of_form false bytes (Line n) h = tt
of_form false bytes Json h = tt
of_form false bytes (TooMany e) h = tt
of_form false bytes (Repeated i j) h = h
of_form false bytes (Index k) h = h
of_form false bytes Flat h = h
of_form false bytes (Area k d) h = h
of_form false bytes (Twice i j) h = h
of_form false bytes (Unmatched i j) h = h
of_form false bytes (Bare i j) h = h
of_form false bytes (HeightCount k) h = h
of_form false bytes (Degree i j d) h = h

pub refused_by_form : (bytes : List ℕ) (e : InputError) → IsFileFault bytes e → IsRefused bytes e
refused_by_form bytes Memory h = tt
refused_by_form bytes (Fault TooLong) h = too_long_read (is_json bytes) bytes h
refused_by_form bytes (Fault (Line n)) h = h
refused_by_form bytes (Fault Json) h = h
refused_by_form bytes (Fault (TooMany e)) h = h
refused_by_form bytes (Fault (Repeated i j)) h = absurd (of_form (is_json bytes) bytes (Repeated i j) h)
refused_by_form bytes (Fault (Index k)) h = absurd (of_form (is_json bytes) bytes (Index k) h)
refused_by_form bytes (Fault Flat) h = absurd (of_form (is_json bytes) bytes Flat h)
refused_by_form bytes (Fault (Area k d)) h = absurd (of_form (is_json bytes) bytes (Area k d) h)
refused_by_form bytes (Fault (Twice i j)) h = absurd (of_form (is_json bytes) bytes (Twice i j) h)
refused_by_form bytes (Fault (Unmatched i j)) h = absurd (of_form (is_json bytes) bytes (Unmatched i j) h)
refused_by_form bytes (Fault (Bare i j)) h = absurd (of_form (is_json bytes) bytes (Bare i j) h)
refused_by_form bytes (Fault (HeightCount k)) h = absurd (of_form (is_json bytes) bytes (HeightCount k) h)
refused_by_form bytes (Fault (Degree i j d)) h = absurd (of_form (is_json bytes) bytes (Degree i j d) h)

-- what the checks of the file leave of its bytes
pub accepted_or_refused : (bytes : List ℕ) (file : Web) (r : Result Web InputError) → IsFile bytes file → MatchResult r (IsSound file) (IsUnsound file) → MatchResult r (IsAccepted bytes) (IsRefused bytes)
accepted_or_refused bytes file (Ok w) t h = record { file = file; read = t; sound = h }
accepted_or_refused bytes file (Err Memory) t h = tt
accepted_or_refused bytes file (Err (Fault TooLong)) t h = absurd h.1
accepted_or_refused bytes file (Err (Fault (Line n))) t h = absurd h.1
accepted_or_refused bytes file (Err (Fault Json)) t h = absurd h.1
accepted_or_refused bytes file (Err (Fault (TooMany e))) t h = absurd h.1
accepted_or_refused bytes file (Err (Fault (Repeated i j))) t h = (file, t, h)
accepted_or_refused bytes file (Err (Fault (Index k))) t h = (file, t, h)
accepted_or_refused bytes file (Err (Fault Flat)) t h = (file, t, h)
accepted_or_refused bytes file (Err (Fault (Area k d))) t h = (file, t, h)
accepted_or_refused bytes file (Err (Fault (Twice i j))) t h = (file, t, h)
accepted_or_refused bytes file (Err (Fault (Unmatched i j))) t h = (file, t, h)
accepted_or_refused bytes file (Err (Fault (Bare i j))) t h = (file, t, h)
accepted_or_refused bytes file (Err (Fault (HeightCount k))) t h = (file, t, h)
accepted_or_refused bytes file (Err (Fault (Degree i j d))) t h = (file, t, h)

-- a web whose degrees are positive has no first edge whose degree is not
pub graded_or_low : (w : Web) (k a b : ℕ) (z : ℤ) → IsGraded w → IsFirstLow w k a b z → ⊥
graded_or_low w k a b z h x =
    let high : pos 0 <ℤ edge_degree w (edge_at w k) = all-at (HasDegree w) (compact w) no_edge h k x.listed in
    let low : edge_degree w (edge_at w k) ≤ℤ pos 0 = subst (λ d. d ≤ℤ pos 0) x.degree x.low in
    absurd (apart (edge_degree w (edge_at w k)) high low)
  where
    apart : (d : ℤ) → pos 0 <ℤ d → d ≤ℤ pos 0 → ⊥
    apart d p q = absurd (omega (arith, ints))
