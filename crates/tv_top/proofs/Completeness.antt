-- Completeness follows from the answers: what is accepted isn't refused, and what is a command has no place outside.
use Rattle.std.proofs.Common.{◌≡◌, ◌⊎◌, inl, inr, ℕ, ◌≤◌, ℤ, List, ◌++◌, length, Option, Some, None, refl, ap, sym, ◌∙◌, arith, subst, length-append, append-nil}
use Rattle.std.specs.Io.KnownBytes.{Consumes, IsAtEnd}
use Rattle.std.proofs.lemmas.Int.{ints}
use Rattle.tv_spec_plane.specs.Web.{Web}
use Rattle.tv_spec_text.specs.Lines.{Word, Line as TextLine, word_lines}
use Rattle.tv_spec_text.specs.Places.{IsPlace}
use Rattle.tv_spec_text.proofs.Places.{IsPlace-none}
use Rattle.tv_spec_json.specs.Files.{is_json}
use Rattle.tv_lattice.specs.declared.fault.FileFault.{FileFault}
use Rattle.tv_outside.specs.Faults.{Rose, RoseOnce}
use Rattle.tv_lattice.specs.declared.fault.ReportFault.{ReportFault}
use Rattle.tv_integers.specs.declared.report.Report.{Report}
use Rattle.tv_spec_reports.specs.Grammar.{GvData}
use Rattle.tv_spec_series.specs.Families.{Family}
use Rattle.tv_integers.specs.Kept.{Kept}
use Rattle.tv_report_reader.specs.Told.{family_of, integers_of}
use Rattle.tv_report_reader.proofs.Readings.{SpellsGv-unique, IsReport-accepted}
use Rattle.tv_report_reader.specs.declared.fault.ReportError.TheVariants.{Fault}
use Rattle.tv_report_reader.specs.Faults.{IsReport as IsReportText, IsReportFault}
use Rattle.tv_top.specs.Verification.{IsVerdictOn, DeservesVerdict, DeservesReportFault}
use Rattle.tv_words.specs.Commands.{IsCommand, Subject, OfFile, OfGrid, OfReport, Asks, subject_of}
use Rattle.tv_acceptance.specs.Acceptance.{IsAccepted}
use Rattle.tv_answers.specs.Reports.{IsReport, IsWide, IsDiffers, IsUnsuited}
use Rattle.tv_answers.specs.Boxes.{Suits, IsUnsuitedAt}
use Rattle.tv_acceptance.specs.Rejections.{FaultOf}
use Rattle.tv_top.specs.Answers.{Change, Gave, IsOver, IsOn, Deserves, DeservesFile, Told, Answers}
use Rattle.tv_top.specs.Completeness.{Completes, IsGiven}
use Rattle.tv_words.specs.declared.command.Command.{Command}
use Rattle.tv_words.specs.declared.command.Command.TheVariants.{Check, Series, Gv, Boxes, Generate, Summary, Verify}
use Rattle.tv_answers.specs.declared.status.Status.{Status}
use Rattle.tv_answers.specs.declared.status.Status.TheVariants.{Done, Words, File, Wide, Differs, Memory, ReadFault, WriteFault}
use Rattle.tv_acceptance.proofs.Excluded.{accepted_or_fault, same_web}
use Rattle.tv_acceptance.proofs.Reading.{few_bytes}
use Rattle.tv_words.proofs.SameCommand.{same_command}

-- the bytes that a source tells are those that were taken
all_of_told : (before after : Option (List ℕ)) (told bytes : List ℕ) → before ≡ Some told → Consumes before after bytes → IsAtEnd after → told ≡ bytes
all_of_told None after told bytes e c n = cc
all_of_told (Some xs) None told bytes e c n = absurd c
all_of_told (Some xs) (Some ys) told bytes e c n = let same : xs ≡ told = cc in sym same ∙ (c ∙ (ap (λ zs. bytes ++ zs) n ∙ append-nil bytes))

told_bytes : (io : Change) (told bytes : List ℕ) → io.before.bytes ≡ Some told → Gave io bytes → told ≡ bytes
told_bytes io told bytes e g = all_of_told io.before.bytes io.after.bytes told bytes e g.taken g.ended

rose-once : (before now : ℕ) → RoseOnce before now → Rose before now
rose-once before now h = omega arith

-- a rejected file's bytes, where the source tells its bytes: at most the first 65,537
file_bytes : (before after : Option (List ℕ)) (told bytes : List ℕ) → before ≡ Some told → Consumes before after bytes → length bytes ≤ length told
file_bytes None after told bytes e c = cc
file_bytes (Some xs) None told bytes e c = absurd c
file_bytes (Some xs) (Some ys) told bytes e c = let same : xs ≡ told = cc in let whole : length told ≡ length (bytes ++ ys) = ap length (sym same ∙ c) in omega (arith, length-append bytes ys)

-- a file that was refused for some told bytes isn't a file that is taken
refused_or_accepted : (ws : List Word) (io : Change) (text told : List ℕ) (w : Web) → io.before.bytes ≡ Some told → IsAccepted told w → DeservesFile ws io text → ⊥
refused_or_accepted ws io text told w e a d = elim d.ended [
  | inl long ↦ let more = file_bytes io.before.bytes io.after.bytes told d.bytes e d.taken in let short = few_bytes (is_json told) told a.file a.read in absurd (omega arith)
  | inr whole ↦ accepted_or_fault d.bytes w d.fault (subst (λ bytes. IsAccepted bytes w) (all_of_told io.before.bytes io.after.bytes told d.bytes e d.taken whole.1) a) d.refused
]

wide_along : (c d : Command) (v w : Web) (line : TextLine) → d ≡ c → v ≡ w → IsWide d v line → (l : TextLine) × IsWide c w l
wide_along c d v w line p q h = (line, subst (λ k. IsWide k w line) p (subst (λ u. IsWide d u line) q h))

differs_along : (c d : Command) (v w : Web) (line : TextLine) → d ≡ c → v ≡ w → IsDiffers d v line → (l : TextLine) × IsDiffers c w l
differs_along c d v w line p q h = (line, subst (λ k. IsDiffers k w line) p (subst (λ u. IsDiffers d u line) q h))

unsuited_along : (c d : Command) (v w : Web) (k : ℕ) → d ≡ c → v ≡ w → IsUnsuited d v k → IsUnsuited c w k
unsuited_along c d v w k p q h = subst (λ e. IsUnsuited e w k) p (subst (λ u. IsUnsuited d u k) q h)

-- a class that suits a web leaves none of its places
suited_or_not : (w : Web) (v : List ℤ) (k : ℕ) → Suits w v → IsUnsuitedAt w v k → ⊥
suited_or_not w v k s u = elim u [
  | inl few ↦ let one_each = s.one_each in let fewer = few.fewer in absurd (omega arith)
  | inr more ↦ elim more [
    | inl many ↦ let one_each = s.one_each in let over = many.more in absurd (omega arith)
    | inr high ↦ let low = s.degree in let over = high.degree in absurd (omega (arith, ints))
  ]
]

-- what doesn't suit a web has no report, and no other refusal
reported_or_unsuited : (c : Command) (w : Web) (k : ℕ) (text : List ℕ) → IsUnsuited c w k → IsReport c w text → ⊥
reported_or_unsuited (Boxes chi v) w k text u h = suited_or_not w v k h.suits u
reported_or_unsuited Check w k text u h = absurd u
reported_or_unsuited (Series kind d n) w k text u h = absurd u
reported_or_unsuited (Gv d n) w k text u h = absurd u
reported_or_unsuited (Generate side) w k text u h = absurd u
reported_or_unsuited (Summary side d n) w k text u h = absurd u
reported_or_unsuited Verify w k text u h = absurd u

wide_or_unsuited : (c : Command) (w : Web) (k : ℕ) (line : TextLine) → IsUnsuited c w k → IsWide c w line → ⊥
wide_or_unsuited (Boxes chi v) w k line u h = absurd h
wide_or_unsuited Check w k line u h = absurd u
wide_or_unsuited (Series kind d n) w k line u h = absurd u
wide_or_unsuited (Gv d n) w k line u h = absurd u
wide_or_unsuited (Generate side) w k line u h = absurd u
wide_or_unsuited (Summary side d n) w k line u h = absurd u
wide_or_unsuited Verify w k line u h = absurd u

differs_or_unsuited : (c : Command) (w : Web) (k : ℕ) (line : TextLine) → IsUnsuited c w k → IsDiffers c w line → ⊥
differs_or_unsuited (Boxes chi v) w k line u h = absurd h
differs_or_unsuited Check w k line u h = absurd u
differs_or_unsuited (Series kind d n) w k line u h = absurd u
differs_or_unsuited (Gv d n) w k line u h = absurd u
differs_or_unsuited (Generate side) w k line u h = absurd u
differs_or_unsuited (Summary side d n) w k line u h = absurd u
differs_or_unsuited Verify w k line u h = absurd u

-- a command is about one web

side_along : (c d : Command) → c ≡ d → subject_of c ≡ subject_of d
side_along c d e = ap subject_of e

no_file_of_grid : (k : ℕ) → OfGrid k ≡ OfFile → ⊥
no_file_of_grid k e = cc

no_report_of_file : OfReport ≡ OfFile → ⊥
no_report_of_file e = cc

-- `verify` is about no web
on_verify : (ws : List Word) (io : Change) (c : Command) (w : Web) → Asks ws Verify → IsOn ws io c w → ⊥
on_verify ws io c w q on = subst (λ k. IsOver (subject_of k) io w) (same_command ws c Verify on.asked q) on.over

given_verify : (ws : List Word) (io : Change) (c : Command) (w : Web) → Asks ws c → IsGiven (subject_of c) io w → Asks ws Verify → ⊥
given_verify ws io c w q a v = subst (λ k. IsGiven (subject_of k) io w) (same_command ws c Verify q v) a

-- nor about a file
file_verify : (ws : List Word) (c : Command) → Asks ws c → subject_of c ≡ OfFile → Asks ws Verify → ⊥
file_verify ws c q file v = no_report_of_file (side_along Verify c (same_command ws Verify c v q) ∙ file)

given_web : (subject : Subject) (io : Change) (v w : Web) → IsOver subject io v → IsGiven subject io w → v ≡ w
given_web OfFile io v w over given =
    same_web given.0 v w (subst (λ bytes. IsAccepted bytes v) (sym (told_bytes io given.0 over.0 given.1 over.1)) over.2) given.2
given_web (OfGrid k) io v w over given = over.1 ∙ sym given
given_web OfReport io v w over given = absurd over

-- a command about a web is refused no file
given_or_file : (ws : List Word) (io : Change) (text : List ℕ) (subject : Subject) (w : Web) → IsGiven subject io w → subject ≡ OfFile → DeservesFile ws io text → ⊥
given_or_file ws io text OfFile w given file d = refused_or_accepted ws io text given.0 w given.1 given.2 d
given_or_file ws io text (OfGrid k) w given file d = no_file_of_grid k file
given_or_file ws io text OfReport w given file d = absurd given

-- what the deserved statuses are
by_accepted : (ws : List Word) (io : Change) (c : Command) (w : Web) → Asks ws c → IsGiven (subject_of c) io w → (Rose io.before.faults io.after.faults → ⊥)
    → (s : Status) (text : List ℕ) → Deserves ws io s text → (s ≡ Done) ⊎ (((s ≡ Wide) × ((l : TextLine) × IsWide c w l)) ⊎ (((s ≡ Differs) × ((l : TextLine) × IsDiffers c w l)) ⊎ (((s ≡ Words) × ((k : ℕ) × IsUnsuited c w k)) ⊎ (s ≡ Memory))))
by_accepted ws io c w q a n Done text d = inl refl
by_accepted ws io c w q a n Words text d = elim d [
  | inl x ↦ absurd (IsPlace-none IsCommand ws x.place (c, q) x.outside)
  | inr x ↦
      let same : x.command ≡ c = same_command ws x.command c x.on.asked q in
      let web : x.web ≡ w = given_web (subject_of c) io x.web w (subst (λ k. IsOver (subject_of k) io x.web) same x.on.over) a in
      inr (inr (inr (inl (refl, (x.place, unsuited_along c x.command x.web w x.place same web x.unsuited)))))
]
by_accepted ws io c w q a n File text d = elim d [
  | inl x ↦ absurd (given_or_file ws io text (subject_of c) w a (side_along c x.command (same_command ws c x.command q x.asked) ∙ x.file) x)
  | inr x ↦ absurd (given_verify ws io c w q a x.asked)
]
by_accepted ws io c w q a n Wide text d = elim d [
  | inl x ↦
      let same : x.command ≡ c = same_command ws x.command c x.on.asked q in
      let web : x.web ≡ w = given_web (subject_of c) io x.web w (subst (λ k. IsOver (subject_of k) io x.web) same x.on.over) a in
      inr (inl (refl, wide_along c x.command x.web w x.refusal same web x.wide))
  | inr x ↦ absurd (given_verify ws io c w q a x.on.asked)
]
by_accepted ws io c w q a n Differs text d = elim d [
  | inl x ↦
      let same : x.command ≡ c = same_command ws x.command c x.on.asked q in
      let web : x.web ≡ w = given_web (subject_of c) io x.web w (subst (λ k. IsOver (subject_of k) io x.web) same x.on.over) a in
      inr (inr (inl (refl, differs_along c x.command x.web w x.refusal same web x.differs)))
  | inr x ↦ absurd (given_verify ws io c w q a x.on.asked)
]
by_accepted ws io c w q a n Memory text d = inr (inr (inr (inr refl)))
by_accepted ws io c w q a n ReadFault text d = absurd (n (rose-once _ _ d.rose))
by_accepted ws io c w q a n WriteFault text d = absurd d

-- an answer to an accepted file is none to a refused one
refused_and_read : (io : Change) (told bytes : List ℕ) (w : Web) (f : FileFault) → io.before.bytes ≡ Some told → Gave io bytes → IsAccepted bytes w → FaultOf told f → ⊥
refused_and_read io told bytes w f e g a x = accepted_or_fault told w f (subst (λ bs. IsAccepted bs w) (sym (told_bytes io told bytes e g)) a) x

over_refused : (subject : Subject) (io : Change) (told : List ℕ) (w : Web) (f : FileFault) → subject ≡ OfFile → io.before.bytes ≡ Some told → IsOver subject io w → FaultOf told f → ⊥
over_refused OfFile io told w f file e over x = refused_and_read io told over.0 w f e over.1 over.2 x
over_refused (OfGrid k) io told w f file e over x = no_file_of_grid k file
over_refused OfReport io told w f file e over x = absurd over

on_refused : (ws : List Word) (io : Change) (c d : Command) (told : List ℕ) (w : Web) (f : FileFault) → Asks ws c → subject_of c ≡ OfFile → io.before.bytes ≡ Some told → IsOn ws io d w → FaultOf told f → ⊥
on_refused ws io c d told w f q file e on x = over_refused (subject_of d) io told w f (side_along d c (same_command ws d c on.asked q) ∙ file) e on.over x

by_refused : (ws : List Word) (io : Change) (c : Command) (told : List ℕ) (f : FileFault) → Asks ws c → subject_of c ≡ OfFile → io.before.bytes ≡ Some told → FaultOf told f → (Rose io.before.faults io.after.faults → ⊥)
    → (s : Status) (text : List ℕ) → Deserves ws io s text → (s ≡ File) ⊎ (s ≡ Memory)
by_refused ws io c told f q file e x n Done text d = elim d [
  | inl y ↦ absurd (on_refused ws io c y.command told y.web f q file e y.on x)
  | inr y ↦ absurd (file_verify ws c q file y.on.asked)
]
by_refused ws io c told f q file e x n Words text d = elim d [
  | inl y ↦ absurd (IsPlace-none IsCommand ws y.place (c, q) y.outside)
  | inr y ↦ absurd (on_refused ws io c y.command told y.web f q file e y.on x)
]
by_refused ws io c told f q file e x n File text d = inl refl
by_refused ws io c told f q file e x n Wide text d = elim d [
  | inl y ↦ absurd (on_refused ws io c y.command told y.web f q file e y.on x)
  | inr y ↦ absurd (file_verify ws c q file y.on.asked)
]
by_refused ws io c told f q file e x n Differs text d = elim d [
  | inl y ↦ absurd (on_refused ws io c y.command told y.web f q file e y.on x)
  | inr y ↦ absurd (file_verify ws c q file y.on.asked)
]
by_refused ws io c told f q file e x n Memory text d = inr refl
by_refused ws io c told f q file e x n ReadFault text d = absurd (n (rose-once _ _ d.rose))
by_refused ws io c told f q file e x n WriteFault text d = absurd d

by_words : (ws : List Word) (io : Change) (k : ℕ) → IsPlace IsCommand ws k → (s : Status) (text : List ℕ) → Deserves ws io s text → (s ≡ Words) ⊎ (s ≡ Memory)
by_words ws io k p Done text d = elim d [
  | inl x ↦ absurd (IsPlace-none IsCommand ws k (x.command, x.on.asked) p)
  | inr x ↦ absurd (IsPlace-none IsCommand ws k (Verify, x.on.asked) p)
]
by_words ws io k p Words text d = inl refl
by_words ws io k p File text d = elim d [
  | inl x ↦ absurd (IsPlace-none IsCommand ws k (x.command, x.asked) p)
  | inr x ↦ absurd (IsPlace-none IsCommand ws k (Verify, x.asked) p)
]
by_words ws io k p Wide text d = elim d [
  | inl x ↦ absurd (IsPlace-none IsCommand ws k (x.command, x.on.asked) p)
  | inr x ↦ absurd (IsPlace-none IsCommand ws k (Verify, x.on.asked) p)
]
by_words ws io k p Differs text d = elim d [
  | inl x ↦ absurd (IsPlace-none IsCommand ws k (x.command, x.on.asked) p)
  | inr x ↦ absurd (IsPlace-none IsCommand ws k (Verify, x.on.asked) p)
]
by_words ws io k p Memory text d = inr refl
by_words ws io k p ReadFault text d = absurd (IsPlace-none IsCommand ws k (d.command, d.asked) p)
by_words ws io k p WriteFault text d = absurd d

-- what a command over a web to which it is unsuited deserves
on_unsuited : {A : Type 0} (ws : List Word) (io : Change) (c d : Command) (v w : Web) (k : ℕ) → Asks ws c → IsGiven (subject_of c) io w → IsUnsuited c w k → IsOn ws io d v → (IsUnsuited d v k → ⊥) → A
on_unsuited ws io c d v w k q a u on none =
    let same : d ≡ c = same_command ws d c on.asked q in
    let web : v ≡ w = given_web (subject_of c) io v w (subst (λ e. IsOver (subject_of e) io v) same on.over) a in
    absurd (none (unsuited_along d c w v k (sym same) (sym web) u))

by_unsuited : (ws : List Word) (io : Change) (c : Command) (w : Web) (k : ℕ) → Asks ws c → IsGiven (subject_of c) io w → IsUnsuited c w k → (Rose io.before.faults io.after.faults → ⊥)
    → (s : Status) (text : List ℕ) → Deserves ws io s text → (s ≡ Words) ⊎ (s ≡ Memory)
by_unsuited ws io c w k q a u n Done text d = elim d [
  | inl x ↦ on_unsuited ws io c x.command x.web w k q a u x.on (λ v. reported_or_unsuited x.command x.web k text v x.report)
  | inr x ↦ absurd (given_verify ws io c w q a x.on.asked)
]
by_unsuited ws io c w k q a u n Words text d = inl refl
by_unsuited ws io c w k q a u n File text d = elim d [
  | inl x ↦ absurd (given_or_file ws io text (subject_of c) w a (side_along c x.command (same_command ws c x.command q x.asked) ∙ x.file) x)
  | inr x ↦ absurd (given_verify ws io c w q a x.asked)
]
by_unsuited ws io c w k q a u n Wide text d = elim d [
  | inl x ↦ on_unsuited ws io c x.command x.web w k q a u x.on (λ v. wide_or_unsuited x.command x.web k x.refusal v x.wide)
  | inr x ↦ absurd (given_verify ws io c w q a x.on.asked)
]
by_unsuited ws io c w k q a u n Differs text d = elim d [
  | inl x ↦ on_unsuited ws io c x.command x.web w k q a u x.on (λ v. differs_or_unsuited x.command x.web k x.refusal v x.differs)
  | inr x ↦ absurd (given_verify ws io c w q a x.on.asked)
]
by_unsuited ws io c w k q a u n Memory text d = inr refl
by_unsuited ws io c w k q a u n ReadFault text d = absurd (n (rose-once _ _ d.rose))
by_unsuited ws io c w k q a u n WriteFault text d = absurd d

-- a report that was refused for some told bytes isn't one that they spell
fault_or_report : (ws : List Word) (io : Change) (text told : List ℕ) (r : Report) → io.before.bytes ≡ Some told → IsReportText told r → DeservesReportFault ws io text → ⊥
fault_or_report ws io text told r e is d = elim d.ended [
  | inl long ↦ let more = file_bytes io.before.bytes io.after.bytes told d.bytes e d.taken in let few = is.0 in absurd (omega arith)
  | inr whole ↦ IsReport-accepted d.bytes r d.fault (subst (λ bytes. IsReportText bytes r) (all_of_told io.before.bytes io.after.bytes told d.bytes e d.taken whole.1) is) d.refused
]

-- bytes tell one report
abbrev report_by : Family ℤ → Kept → Report
report_by f k = record { series = f; integers = k }

abbrev kept_of : GvData → Kept
kept_of d = record { heights = d.heights; integers = integers_of d.sections }

same_report : (bytes : List ℕ) (q r : Report) → IsReportText bytes q → IsReportText bytes r → q ≡ r
same_report bytes q r p s =
    let tells = SpellsGv-unique (word_lines bytes) p.1.0 s.1.0 p.1.1 s.1.1 in
    let series : q.series ≡ r.series = p.1.2.series ∙ (ap family_of tells ∙ sym s.1.2.series) in
    let integers : q.integers ≡ r.integers = p.1.2.integers ∙ (ap kept_of tells ∙ sym s.1.2.integers) in
    ap (λ f. report_by f q.integers) series ∙ ap (report_by r.series) integers

read_told : (ws : List Word) (io : Change) (told : List ℕ) (s : Status) (text : List ℕ) → io.before.bytes ≡ Some told → (d : DeservesVerdict ws io s text) → IsReportText told d.report
read_told ws io told s text e d = subst (λ bytes. IsReportText bytes d.report) (sym (told_bytes io told d.on.bytes e d.on.gave)) d.on.read

abbrev IsFound : Report → Status → Type 0
IsFound r s = (text : List ℕ) × IsVerdictOn r s text

found_of : (ws : List Word) (io : Change) (told : List ℕ) (r : Report) (s : Status) (text : List ℕ) → io.before.bytes ≡ Some told → IsReportText told r → DeservesVerdict ws io s text → IsFound r s
found_of ws io told r s text e is d = (text, subst (λ q. IsVerdictOn q s text) (same_report told d.report r (read_told ws io told s text e d) is) d.verdict)

by_checked : (ws : List Word) (io : Change) (told : List ℕ) (r : Report) → Asks ws Verify → io.before.bytes ≡ Some told → IsReportText told r → (Rose io.before.faults io.after.faults → ⊥)
    → (s : Status) (text : List ℕ) → Deserves ws io s text → IsFound r s ⊎ (s ≡ Memory)
by_checked ws io told r q e is n Done text d = elim d [
  | inl x ↦ absurd (on_verify ws io x.command x.web q x.on)
  | inr x ↦ inl (found_of ws io told r Done text e is x)
]
by_checked ws io told r q e is n Words text d = elim d [
  | inl x ↦ absurd (IsPlace-none IsCommand ws x.place (Verify, q) x.outside)
  | inr x ↦ absurd (on_verify ws io x.command x.web q x.on)
]
by_checked ws io told r q e is n File text d = elim d [
  | inl x ↦ absurd (file_verify ws x.command x.asked x.file q)
  | inr x ↦ absurd (fault_or_report ws io text told r e is x)
]
by_checked ws io told r q e is n Wide text d = elim d [
  | inl x ↦ absurd (on_verify ws io x.command x.web q x.on)
  | inr x ↦ inl (found_of ws io told r Wide text e is x)
]
by_checked ws io told r q e is n Differs text d = elim d [
  | inl x ↦ absurd (on_verify ws io x.command x.web q x.on)
  | inr x ↦ inl (found_of ws io told r Differs text e is x)
]
by_checked ws io told r q e is n Memory text d = inr refl
by_checked ws io told r q e is n ReadFault text d = absurd (n (rose-once _ _ d.rose))
by_checked ws io told r q e is n WriteFault text d = absurd d

-- a verdict is on no bytes that are refused
verdict_or_fault : {A : Type 0} (ws : List Word) (io : Change) (told : List ℕ) (f : ReportFault) (s : Status) (text : List ℕ) → io.before.bytes ≡ Some told → IsReportFault told (Fault f) → DeservesVerdict ws io s text → A
verdict_or_fault ws io told f s text e x d = absurd (IsReport-accepted told d.report f (read_told ws io told s text e d) x)

by_unread : (ws : List Word) (io : Change) (told : List ℕ) (f : ReportFault) → Asks ws Verify → io.before.bytes ≡ Some told → IsReportFault told (Fault f) → (Rose io.before.faults io.after.faults → ⊥)
    → (s : Status) (text : List ℕ) → Deserves ws io s text → (s ≡ File) ⊎ (s ≡ Memory)
by_unread ws io told f q e x n Done text d = elim d [
  | inl y ↦ absurd (on_verify ws io y.command y.web q y.on)
  | inr y ↦ verdict_or_fault ws io told f Done text e x y
]
by_unread ws io told f q e x n Words text d = elim d [
  | inl y ↦ absurd (IsPlace-none IsCommand ws y.place (Verify, q) y.outside)
  | inr y ↦ absurd (on_verify ws io y.command y.web q y.on)
]
by_unread ws io told f q e x n File text d = inl refl
by_unread ws io told f q e x n Wide text d = elim d [
  | inl y ↦ absurd (on_verify ws io y.command y.web q y.on)
  | inr y ↦ verdict_or_fault ws io told f Wide text e x y
]
by_unread ws io told f q e x n Differs text d = elim d [
  | inl y ↦ absurd (on_verify ws io y.command y.web q y.on)
  | inr y ↦ verdict_or_fault ws io told f Differs text e x y
]
by_unread ws io told f q e x n Memory text d = inr refl
by_unread ws io told f q e x n ReadFault text d = absurd (n (rose-once _ _ d.rose))
by_unread ws io told f q e x n WriteFault text d = absurd d

-- the status that was told is the deserved one
told_status : (out : Change) (text : List ℕ) (s r : Status) → Told out text s r → (Rose out.before.faults out.after.faults → ⊥) → r ≡ s
told_status out text s r t n = elim t.ends [ inl p ↦ p.0 | inr p ↦ absurd (n (rose-once _ _ p.1.rose)) ]

pub completes : (ws : List Word) (io : Change) (out : Change) (r : Status) → Answers ws io out r → Completes ws io out r
completes ws io out r a = record {
  accepted = λ c w q given n. let same = told_status out a.text a.status r a.told n.1 in rw same (by_accepted ws io c w q given n.0 a.status a.text a.deserved);
  unsuited = λ c w k q given u n. let same = told_status out a.text a.status r a.told n.1 in rw same (by_unsuited ws io c w k q given u n.0 a.status a.text a.deserved);
  refused = λ c told f q file e x n. let same = told_status out a.text a.status r a.told n.1 in rw same (by_refused ws io c told f q file e x n.0 a.status a.text a.deserved);
  checked = λ bytes q v e is n. let same = told_status out a.text a.status r a.told n.1 in rw same (by_checked ws io bytes q v e is n.0 a.status a.text a.deserved);
  unread = λ bytes f v e x n. let same = told_status out a.text a.status r a.told n.1 in rw same (by_unread ws io bytes f v e x n.0 a.status a.text a.deserved);
  words = λ k p n. let same = told_status out a.text a.status r a.told n in rw same (by_words ws io k p a.status a.text a.deserved);
}
