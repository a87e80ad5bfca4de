-- Integers of sections, put in one after another.
use Rattle.std.proofs.Common.{◌≡◌, ℕ, ℤ, pos, zero, suc, ◌+◌, ◌-◌, ◌<◌, ◌≤◌, ◌≤ℤ◌, ◌<ℤ◌, inl, inr, List, [], ◌∷◌, ◌++◌, length, map, take, drop, get_or, refl, sym, ◌∙◌, ap, subst, arith, append_assoc, append-nil, drop-cons}
use Rattle.std.proofs.lemmas.Int.{ints}
use Rattle.std.proofs.lemmas.List.{take_more, take_all, drop_all, take-append-drop}
use Rattle.std.specs.List.{AllByRecursion}
use Rattle.tv_lattice.proofs.Each.{each_below}
use Rattle.tv_lemmas.proofs.Members.{all-append, all-onto, all-map}
use Rattle.tv_spec_boxes.specs.Classes.{IsBefore, ClassesRise}
use Rattle.tv_spec_katz.specs.Katz.{Integer}
use Rattle.tv_spec_katz.specs.Relations.{ComesLater}
use Rattle.tv_integers.specs.Kept.{Kept, AreKept, with_integer, without_integers}
use Rattle.tv_integers.proofs.Putting.{set_in_front}
use Rattle.tv_spec_reports.specs.IntegerLines.{GenusValue, GvSection}
use Rattle.tv_spec_reports.specs.Grammar.{GvData, FirstSection, IntegerFits, GeneraRise, SectionFits, SectionsFit, GvFits}
use Rattle.tv_report_reader.specs.Told.{integer_of, integers_of, section_integers, CanPut, HasIntegers, MayTake, StartsIntegers}
use Rattle.tv_report_reader.proofs.Families.{rise-all}

pub put-front : (k : Kept) (v : List ℤ) (n : ℕ) (z : ℤ) (s : GvSection) (i : GenusValue) → AreKept k.heights k.integers → CanPut k s i → v ≡ s.section.entries → n ≡ i.genus → z ≡ i.value → with_integer v (record { genus = n; value = z }) k ≡ record k { integers = integer_of s.section.entries i ∷ k.integers }
put-front k v n z s i kept can a b c =
    ap (λ (u : List ℤ). with_integer u (record { genus = n; value = z }) k) a
    ∙ ap (λ (m : ℕ). with_integer s.section.entries (record { genus = m; value = z }) k) b
    ∙ ap (λ (x : ℤ). with_integer s.section.entries (record { genus = i.genus; value = x }) k) c
    ∙ ap (λ (is : List Integer). let t : Kept = record k { integers = is } in t) (set_in_front k.heights (integer_of s.section.entries i) k.integers ((can.class, can.value), (can.later, kept)))

-- genera behind one are greater

genera-above : (i : GenusValue) (is : List GenusValue) (g : ℕ) → g ≤ i.genus → GeneraRise (i ∷ is) → AllByRecursion (λ (j : GenusValue). g < j.genus) is
genera-above i [] g h r = tt
genera-above i (j ∷ is) g h r = let a : i.genus < j.genus = r.0 in let l : g < j.genus = omega arith in let m : g ≤ j.genus = omega arith in (l, genera-above j is g m r.1)

genera-tail : (i : GenusValue) (is : List GenusValue) → GeneraRise (i ∷ is) → GeneraRise is
genera-tail i [] r = tt
genera-tail i (j ∷ is) r = r.1

genera-behind : (is : List GenusValue) (k : ℕ) (d : GenusValue) → k < length is → GeneraRise is → AllByRecursion (λ (j : GenusValue). (get_or is k d).genus < j.genus) (drop (suc k) is)
genera-behind [] k d h r = absurd (omega arith)
genera-behind (i ∷ is) zero d h r = genera-above i is i.genus (omega arith) r
genera-behind (i ∷ is) (suc k) d h r = genera-behind is k d (omega arith) (genera-tail i is r)

-- the last j integers of the section are in
abbrev pub Half : Kept → GvSection → ℕ → Kept → Type 0
Half old s j k = (k ≡ record old { integers = map (integer_of s.section.entries) (drop (length s.integers - j) s.integers) ++ old.integers }) × (j ≤ length s.integers)

pub half-start : (old : Kept) (s : GvSection) → Half old s 0 old
half-start old s = (ap (λ (is : List GenusValue). let t : Kept = record old { integers = map (integer_of s.section.entries) is ++ old.integers } in t) (sym (drop_all (length s.integers - 0) s.integers (omega arith))), omega arith)

pub half-end : (old k : Kept) (s : GvSection) (j : ℕ) → Half old s j k → length s.integers ≤ j → k ≡ record old { integers = section_integers s ++ old.integers }
half-end old k s j half h =
    let none : length s.integers - j ≡ 0 = omega arith in
    half.0 ∙ ap (λ (n : ℕ). let t : Kept = record old { integers = map (integer_of s.section.entries) (drop n s.integers) ++ old.integers } in t) none

pub half-can : (old k : Kept) (s : GvSection) (j : ℕ) (d i : GenusValue) → MayTake old s → Half old s j k → j < length s.integers → i ≡ get_or s.integers (length s.integers - 1 - j) d → CanPut k s i
half-can old k s j d i may half h e =
    let n = length s.integers in
    let here : n - 1 - j < n = omega arith in
    let next : n - j ≡ suc (n - 1 - j) = omega arith in
    let section = may.section in
    let fits : IntegerFits i = subst IntegerFits (sym e) (each_below IntegerFits s.integers n (n - 1 - j) d here here (subst (AllByRecursion IntegerFits) (sym (take_all n s.integers (omega arith))) section.values)) in
    let behind : AllByRecursion (λ (g : GenusValue). i.genus < g.genus) (drop (n - j) s.integers) =
    subst (λ (m : ℕ). AllByRecursion (λ (g : GenusValue). i.genus < g.genus) (drop m s.integers)) (sym next)
    (subst (λ (x : GenusValue). AllByRecursion (λ (g : GenusValue). x.genus < g.genus) (drop (suc (n - 1 - j)) s.integers)) (sym e) (genera-behind s.integers (n - 1 - j) d here section.genera)) in
    let v = s.section.entries in
    let same = all-map (λ (g : GenusValue). i.genus < g.genus) (ComesLater old.heights (integer_of v i)) (integer_of v) (λ g l. inr (refl, l)) (drop (n - j) s.integers) behind in
    let earlier = all-onto (λ (x : Integer). IsBefore old.heights x.class v) (ComesLater old.heights (integer_of v i)) (λ x b. inl b) old.integers may.later in
    let class = section.class (omega arith) in
    let can : CanPut (record old { integers = map (integer_of v) (drop (n - j) s.integers) ++ old.integers }) s i = record {
      class = record { entries = class.entries; degree = class.degree };
      value = fits.value.other;
      later = all-append (ComesLater old.heights (integer_of v i)) (map (integer_of v) (drop (n - j) s.integers)) old.integers same earlier;
    } in
    subst (λ (t : Kept). CanPut t s i) (sym half.0) can

pub half-more : (old k t : Kept) (s : GvSection) (j : ℕ) (d i : GenusValue) → Half old s j k → j < length s.integers → i ≡ get_or s.integers (length s.integers - 1 - j) d → t ≡ record k { integers = integer_of s.section.entries i ∷ k.integers } → Half old s (j + 1) t
half-more old k t s j d i half h e made =
    let n = length s.integers in
    let v = s.section.entries in
    let here : n - 1 - j < n = omega arith in
    let next : suc (n - 1 - j) ≡ n - j = omega arith in
    let less : n - (j + 1) ≡ n - 1 - j = omega arith in
    let cut : drop (n - (j + 1)) s.integers ≡ i ∷ drop (n - j) s.integers =
    ap (λ (m : ℕ). drop m s.integers) less ∙ drop-cons s.integers (n - 1 - j) d here ∙ ap (λ (x : GenusValue). x ∷ drop (suc (n - 1 - j)) s.integers) (sym e) ∙ ap (λ (m : ℕ). i ∷ drop m s.integers) next in (
      made ∙ ap (λ (x : Kept). let y : Kept = record x { integers = integer_of v i ∷ x.integers } in y) half.0
          ∙ ap (λ (is : List GenusValue). let y : Kept = record old { integers = map (integer_of v) is ++ old.integers } in y) (sym cut),
      omega arith,
    )

-- sections

pub integers-push : (ss : List GvSection) (q : GvSection) → integers_of (ss ++ q ∷ []) ≡ section_integers q ++ integers_of ss
unfolding integers_of
integers-push [] q = sym (append-nil (section_integers q))
integers-push (s ∷ ss) q = ap (λ is. is ++ section_integers s) (integers-push ss q) ∙ append_assoc (section_integers q) (integers_of ss) (section_integers s)

integers-before : (hs v : List ℤ) (ss : List GvSection) → AllByRecursion (λ (p : GvSection). IsBefore hs p.section.entries v) ss → AllByRecursion (λ (j : Integer). IsBefore hs j.class v) (integers_of ss)
unfolding integers_of
integers-before hs v [] all = tt
integers-before hs v (s ∷ ss) all = all-append (λ (j : Integer). IsBefore hs j.class v) (integers_of ss) (section_integers s) (integers-before hs v ss all.1) (each hs v s all.0 s.integers) where
  each : (hs v : List ℤ) (s : GvSection) → IsBefore hs s.section.entries v → (is : List GenusValue) → AllByRecursion (λ (j : Integer). IsBefore hs j.class v) (map (integer_of s.section.entries) is)
  each hs v s b [] = tt
  each hs v s b (i ∷ is) = (b, each hs v s b is)

pub none-yet : (k : Kept) (ss : List GvSection) → StartsIntegers k ss → k ≡ record k { integers = integers_of (take 0 ss) }
unfolding integers_of
none-yet k ss starts = ap (λ (is : List Integer). let t : Kept = record k { integers = is } in t) starts.none

pub may-take : (k t : Kept) (ss : List GvSection) (i : ℕ) (d q : GvSection) → StartsIntegers k ss → i < length ss → q ≡ get_or ss i d → t ≡ record k { integers = integers_of (take i ss) } → MayTake t q
may-take k t ss i d q starts h e same =
    let split : ss ≡ take i ss ++ q ∷ drop (suc i) ss = sym (take-append-drop i ss) ∙ ap (λ xs. take i ss ++ xs) (drop-cons ss i d h) ∙ ap (λ (p : GvSection). take i ss ++ p ∷ drop (suc i) ss) (sym e) in
    let rise = subst (λ (xs : List GvSection). ClassesRise k.heights (map (λ (x : GvSection). x.section.entries) xs)) split starts.rise in
    let here : HasIntegers k.heights q = subst (HasIntegers k.heights) (sym e) (each_below (HasIntegers k.heights) ss (length ss) i d h h (subst (AllByRecursion (HasIntegers k.heights)) (sym (take_all (length ss) ss (omega arith))) starts.each)) in
    subst (λ (x : Kept). MayTake x q) (sym same) (record {
      section = record { class = here.class; values = here.values; genera = here.genera };
      later = integers-before k.heights q.section.entries (take i ss) (rise-all k.heights (take i ss) q (drop (suc i) ss) rise);
    })

pub taken-more : (k t u : Kept) (ss : List GvSection) (i : ℕ) (d q : GvSection) → i < length ss → q ≡ get_or ss i d → t ≡ record k { integers = integers_of (take i ss) } → u ≡ record t { integers = section_integers q ++ t.integers } → u ≡ record k { integers = integers_of (take (i + 1) ss) }
taken-more k t u ss i d q h e same made =
    let more : take (i + 1) ss ≡ take i ss ++ q ∷ [] = take_more ss i d h ∙ ap (λ (p : GvSection). take i ss ++ p ∷ []) (sym e) in
    made ∙ ap (λ (x : Kept). let y : Kept = record x { integers = section_integers q ++ x.integers } in y) same
    ∙ ap (λ (is : List Integer). let y : Kept = record k { integers = is } in y) (sym (integers-push (take i ss) q) ∙ ap integers_of (sym more))

-- what the grammar gives

section-has : (d : GvData) (p : GvSection) → SectionFits d p → HasIntegers d.heights p
section-has d p f = record { class = λ _. record { entries = f.entries; degree = above f.degree f.positive }; values = f.integers; genera = f.genera } where
  above : {y z : ℤ} → y ≡ z → pos 1 ≤ℤ y → pos 0 <ℤ z
  above e h = omega (arith, ints)

first-has : (d : GvData) (p : GvSection) → FirstSection d.heights p → HasIntegers d.heights p
first-has d p f = record {
  class = λ h. absurd (omega (arith, h, ap length f.integers));
  values = subst (AllByRecursion IntegerFits) (sym f.integers) tt;
  genera = subst GeneraRise (sym f.integers) tt;
}

all-have : (d : GvData) (ss : List GvSection) → SectionsFit d ss → AllByRecursion (HasIntegers d.heights) ss
all-have d [] none = absurd none
all-have d (p ∷ ps) fits = (first-has d p fits.0, all-onto (SectionFits d) (HasIntegers d.heights) (section-has d) ps fits.1)

pub starts-integers : (d : GvData) (k : Kept) (ss : List GvSection) → GvFits d → k ≡ without_integers d.heights → ss ≡ d.sections → StartsIntegers k ss
starts-integers d k ss fits e same = subst (λ (t : Kept). StartsIntegers t ss) (sym e) (subst (StartsIntegers (without_integers d.heights)) (sym same) (record { none = refl; each = all-have d d.sections fits.sections; rise = fits.order }))

pub index-as : (xs ys : List GenusValue) (n k : ℕ) (d i : GenusValue) → i ≡ get_or xs (n - 1 - k) d → xs ≡ ys → n ≡ length xs → i ≡ get_or ys (length ys - 1 - k) d
index-as xs ys n k d i e same count = e ∙ ap (λ (m : ℕ). get_or xs (m - 1 - k) d) count ∙ ap (λ (zs : List GenusValue). get_or zs (length zs - 1 - k) d) same
