-- One step along the frontier: what is read of the web, and the states after it.
use Rattle.std.specs.Prelude.{◌≡◌, Contains, ℕ, zero, suc, ◌+◌, ◌<◌, ◌≤◌, Bool, ℤ, pos, ◌+ℤ◌, ◌-ℤ◌, List, [], ◌∷◌, ◌++◌, map, filter, length, take, drop, unsigned_abs}
use Rattle.std.specs.List.{AllByRecursion, IsDistinct}
use Rattle.std.proofs.Common.{refl, sym, ap, subst, ◌∙◌, arith, get_or, append-nil, take_all}
use Rattle.std.specs.Int.{int_min}
use Rattle.std.proofs.lemmas.Int.{ints, clamps}
use Rattle.tv_lemmas.specs.Naturals.{as_natural}
use Rattle.std.proofs.lemmas.List.{length-append, drop_all}
use Rattle.tv_lemmas.proofs.Members.{all-append}
use Rattle.tv_ring.specs.Operations.{Operations, RingLaws}
use Rattle.tv_spec_plane.specs.declared.records.CompactEdge.{CompactEdge}
use Rattle.tv_spec_plane.specs.Graded.{IsGraded}
use Rattle.tv_spec_plane.specs.Web.{Web, compact, edge_degree}
use Rattle.tv_degrees.specs.Grades.{IsHeighted}
use Rattle.tv_assignment.specs.Listing.{degrees_of}
use Rattle.tv_spec_boxes.specs.Assignments.{Rows, Assignment, no_legs, choices, same_choice}
use Rattle.tv_spec_boxes.specs.Numbers.{lowest}
use Rattle.tv_spec_series.specs.Families.{Family, classes}
use Rattle.tv_spec_partial.specs.Partial.{is_pending}
use Rattle.tv_laws_counts.proofs.Assigned.{choices-once}
use Rattle.tv_laws_counts.proofs.Degrees.{weights}
use Rattle.tv_laws_frontier.proofs.StateClasses.{end_states}
use Rattle.tv_laws_frontier.specs.Steps.{put, nothing, choices_on, states}
use Rattle.tv_assigned_series.specs.FamilyFaults.{IsCrowded}
use Rattle.tv_frontier.specs.Joining.{IsSpan, IsStage}
use Rattle.tv_frontier.specs.Picks.{picks, put_by}
use Rattle.tv_frontier.specs.Sums.{Addend}
use Rattle.tv_frontier.specs.Rows.{IsPart}
use Rattle.tv_frontier.specs.Bounds.{AreBounds}
use Rattle.tv_frontier.specs.Layers.{AllHold, AllShaped, AreWithout, classed, layer_addends, GrowsBy, CrowdedIn, AreParts, IsLayer, IsStep}
use Rattle.tv_frontier.proofs.Bounded.{bounds-within}
use Rattle.tv_frontier.proofs.Layered.{parts-after, rooms-after, none-held}
use Rattle.tv_frontier.proofs.Near.{mapped-picks}
use Rattle.tv_frontier.proofs.Spread.{put-by-is}

-- ---- what is read of the web

pub choices-picked : (w : Web) (p : CompactEdge → Bool) (d : ℕ) (flags : List Bool) (all : List Assignment) → flags ≡ map p (compact w) → all ≡ choices (picks flags (degrees_of w)) d → all ≡ choices_on w p d
choices-picked w p d flags all flag is =
    is ∙ ap (λ gs. choices gs d) (ap (λ fs. picks fs (degrees_of w)) flag ∙ mapped-picks p (λ e. as_natural (edge_degree w e)) (compact w))

pub keys-once : (w : Web) (d t : ℕ) (keys : List (List Rows)) → keys ≡ states w d t → IsDistinct same_choice keys
keys-once w d t keys is = subst (λ (xs : List (List Rows)). IsDistinct same_choice xs) (sym is) (choices-once (weights w (filter (is_pending t) (compact w))) d)

pub spread-is : (w : Web) (p : CompactEdge → Bool) (flags : List Bool) (key a : Assignment) → flags ≡ map p (compact w) → a ≡ put_by flags key (nothing (compact w)) → a ≡ put p (compact w) key (nothing (compact w))
spread-is w p flags key a flag is = is ∙ (ap (λ fs. put_by fs key (nothing (compact w))) flag ∙ sym (put-by-is p (compact w) key (nothing (compact w))))

pub among-at : (xs all : List (List Rows)) (k : ℕ) (x : List Rows) → xs ≡ all → k < length xs → x ≡ get_or xs k x → Contains all x
among-at xs all k x is h read = subst (λ (ys : List (List Rows)). Contains ys x) is (k, h, sym read)

pub stage-of : (w : Web) (d : ℕ) (n low m : ℤ) (t : ℕ) → IsSpan w d n low m → t < length w.triangles → IsStage w d n low m t
stage-of w d n low m t span corner = record {
  degree = span.degree;
  order = span.order;
  lowest = span.lowest;
  floor = span.floor;
  upto = (let e = span.upto in omega (arith, ints));
  rises = span.rises;
  small_low = span.small_low;
  small_upto = span.small_upto;
  corner = corner;
}

-- one place more of a list
pub take-next : {X : Type 0} (xs : List X) (k : ℕ) (x : X) → k < length xs → x ≡ get_or xs k x → take (k + 1) xs ≡ take k xs ++ x ∷ []
take-next [] k x h read = absurd (omega arith)
take-next (y ∷ xs) zero x h read = ap (λ z. z ∷ []) (sym read)
take-next (y ∷ xs) (suc k) x h read = let up : suc k + 1 ≡ suc (k + 1) = omega arith in rw up (ap (λ zs. y ∷ zs) (take-next xs k x (omega arith) read))

-- ---- states and their families, place by place

module _ {A : Type 0} (IsValue : A → Type 0) (r : Operations A) (w : Web) (d : ℕ) (n : ℤ) (t : ℕ) where
  pub parts-long : (keys : List (List Rows)) (parts : List (Family A)) → AreParts IsValue r w d n t keys parts → length keys ≡ length parts
  parts-long [] [] are = refl
  parts-long (k ∷ keys) [] are = absurd are
  parts-long [] (f ∷ parts) are = absurd are
  parts-long (k ∷ keys) (f ∷ parts) are = ap suc (parts-long keys parts are.1)

  pub part-at : (keys : List (List Rows)) (parts : List (Family A)) (k : ℕ) (h : List Rows) (f : Family A) → AreParts IsValue r w d n t keys parts → k < length keys → h ≡ get_or keys k h → f ≡ get_or parts k f → IsPart IsValue r w d n t h f
  part-at [] parts k h f are within at_key at_part = absurd (omega arith)
  part-at (y ∷ keys) [] k h f are within at_key at_part = absurd are
  part-at (y ∷ keys) (x ∷ parts) zero h f are within at_key at_part =
      subst (λ (z : Family A). IsPart IsValue r w d n t h z) (sym at_part) (subst (λ (z : List Rows). IsPart IsValue r w d n t z x) (sym at_key) are.0)
  part-at (y ∷ keys) (x ∷ parts) (suc k) h f are within at_key at_part = part-at keys parts k h f are.1 (omega arith) at_key at_part

  pub classed-taken : (keys : List (List Rows)) (parts : List (Family A)) (k : ℕ) (h : List Rows) (f : Family A) → AreParts IsValue r w d n t keys parts → k < length keys → h ≡ get_or keys k h → f ≡ get_or parts k f →
      take (k + 1) (classed keys parts) ≡ take k (classed keys parts) ++ (h, classes f.rows) ∷ []
  classed-taken [] parts k h f are within at_key at_part = absurd (omega arith)
  classed-taken (y ∷ keys) [] k h f are within at_key at_part = absurd are
  classed-taken (y ∷ keys) (x ∷ parts) zero h f are within at_key at_part = ap {B = List (List Rows × List (List ℤ))} (λ (z : List Rows). (z, classes x.rows) ∷ []) (sym at_key) ∙ ap {B = List (List Rows × List (List ℤ))} (λ (z : Family A). (h, classes z.rows) ∷ []) (sym at_part)
  classed-taken (y ∷ keys) (x ∷ parts) (suc k) h f are within at_key at_part =
      let up : suc k + 1 ≡ suc (k + 1) = omega arith in
      rw up (ap {B = List (List Rows × List (List ℤ))} (λ (zs : List (List Rows × List (List ℤ))). (y, classes x.rows) ∷ zs) (classed-taken keys parts k h f are.1 (omega arith) at_key at_part))

  pub classed-long : (keys : List (List Rows)) (parts : List (Family A)) → AreParts IsValue r w d n t keys parts → length (classed keys parts) ≡ length keys
  classed-long [] [] are = refl
  classed-long (k ∷ keys) [] are = absurd are
  classed-long [] (f ∷ parts) are = absurd are
  classed-long (k ∷ keys) (f ∷ parts) are = ap suc (classed-long keys parts are.1)

-- ---- all states

module _ {A : Type 0} {IsValue : A → Type 0} {r : Operations A} (laws : RingLaws IsValue r) {w : Web} {d : ℕ} {n floor m : ℤ} {t : ℕ} {pending fresh after : List Bool} {gs ks keys : List (List Rows)} {parts : List (Family A)} (graded : IsGraded w) (heighted : IsHeighted w) (stage : IsStage w d n floor m t) (step : IsStep w d t pending fresh after gs ks) (layer : IsLayer IsValue r w d n t keys parts) (bs : List ℤ) (bounds : AreBounds w d n (suc t) bs) (olds : List (Family A)) (none : AreWithout w d bs olds) where
  abbrev adds : List Rows → List Addend
  adds k = layer_addends w d n t gs (classed keys parts) k

  held : AllHold IsValue r w d n (suc t) (λ k. []) ks olds
  held = none-held laws w d n t gs graded heighted stage.corner step.options keys parts layer.keys layer.parts ks bs olds (bounds.one_each ∙ ap length (sym step.keys)) none (bounds-within w d n floor m t bs stage bounds.each)

  pub layer-next : (news : List (Family A)) → AllShaped w d bs news → GrowsBy IsValue r w d n (suc t) (layer_addends w d n t gs (classed keys parts)) ks olds news → IsLayer IsValue r w d n (suc t) ks news
  layer-next news shaped grows = record {
    keys = step.keys;
    parts = parts-after laws w d n t gs graded heighted stage.corner step.options keys parts layer.keys layer.parts ks bs news bounds.each shaped (grows (λ k. []) held);
  }

  pub layer-crowded : (v : List ℤ) → CrowdedIn IsValue r w d n (suc t) (layer_addends w d n t gs (classed keys parts)) ks olds v → IsCrowded r w d n v
  layer-crowded v crowded = crowded (λ k. []) held (rooms-after laws w d n t gs graded heighted stage.corner step.options keys parts layer.keys layer.parts ks)

-- once all corners are done there is one state
pub only-part : {A : Type 0} {IsValue : A → Type 0} (r : Operations A) (w : Web) (d : ℕ) (n : ℤ) (t : ℕ) (keys : List (List Rows)) (parts : List (Family A)) (f : Family A) → t ≡ length w.triangles → IsLayer IsValue r w d n t keys parts → f ≡ get_or parts 0 f → IsPart IsValue r w d n (length w.triangles) [] f
only-part {IsValue = IsValue} r w d n t keys parts f last layer e =
    let one : keys ≡ [] ∷ [] = layer.keys ∙ (ap (states w d) last ∙ (end_states w d).after) in
    let long : length keys ≡ 1 = ap length one in
    let first : [] ≡ get_or keys 0 [] = ap (λ ks. get_or ks 0 []) (sym one) in
    subst (λ (z : ℕ). IsPart IsValue r w d n z [] f) last (part-at IsValue r w d n t keys parts 0 [] f layer.parts (omega arith) first e)

pub span-is : (w : Web) (d : ℕ) (n low floor m : ℤ) → d ≤ 24 → unsigned_abs n ≤ 100000000 → low ≡ lowest w (no_legs w) d → unsigned_abs low ≤ 10000000 → m ≡ n -ℤ low → floor ≡ int_min low (m +ℤ pos 1) → IsSpan w d n floor m
span-is w d n low floor m degree order least small last first = record {
  degree = degree;
  order = order;
  lowest = subst (λ (z : ℤ). unsigned_abs z ≤ 10000000) least small;
  floor = first ∙ (ap (λ z. int_min low (z +ℤ pos 1)) last ∙ ap (λ z. int_min z ((n -ℤ z) +ℤ pos 1)) least);
  upto = last ∙ ap (λ z. n -ℤ z) least;
  rises = omega (arith, ints, clamps);
  small_low = omega (arith, ints, clamps);
  small_upto = omega (arith, ints);
}

-- ---- a list that is written

pub pushed-all : {X : Type 0} (P : X → Type 0) (old new : List X) (x : X) → new ≡ old ++ x ∷ [] → AllByRecursion P old → P x → AllByRecursion P new
pushed-all P old new x pushed all here = subst (AllByRecursion P) (sym pushed) (all-append P old (x ∷ []) all (here, tt))

pub pushed-long : {X : Type 0} (old new : List X) (x : X) (k : ℕ) → new ≡ old ++ x ∷ [] → length old ≡ k → length new ≡ k + 1
pushed-long old new x k pushed long = ap length pushed ∙ (length-append old (x ∷ []) ∙ omega arith)

-- before all corners there is one state
pub one-layer : {A : Type 0} {IsValue : A → Type 0} (r : Operations A) (w : Web) (d : ℕ) (n : ℤ) (keys : List (List Rows)) (parts : List (Family A)) (x : List Rows) (f : Family A) → keys ≡ x ∷ [] → x ≡ [] → parts ≡ f ∷ [] → IsPart IsValue r w d n 0 [] f → IsLayer IsValue r w d n 0 keys parts
one-layer {A = A} {IsValue = IsValue} r w d n keys parts x f key_is none part_is part =
    let one : keys ≡ [] ∷ [] = key_is ∙ ap (λ (z : List Rows). z ∷ []) none in
    record {
      keys = one ∙ sym (end_states w d).before;
      parts = subst (λ (ks : List (List Rows)). AreParts IsValue r w d n 0 ks parts) (sym one) (subst (λ (fs : List (Family A)). AreParts IsValue r w d n 0 ([] ∷ []) fs) (sym part_is) (part, tt));
    }

-- what a slice that was lent gives back is the whole list
pub whole-back : {X : Type 0} (new old : List X) (len : ℕ) → length new ≡ len → length old ≡ len → take len (new ++ drop (length new) old) ≡ new
whole-back new old len long also =
    let none : drop (length new) old ≡ [] = drop_all (length new) old (omega arith) in
    ap (λ z. take len (new ++ z)) none ∙ (ap (take len) (append-nil new) ∙ take_all len new (omega arith))

-- what a stage holds, as it is read
pub span-read : (w : Web) (d : ℕ) (n low m i j k : ℤ) → n ≡ i → low ≡ j → m ≡ k → IsSpan w d n low m → IsSpan w d i j k
span-read w d n low m i j k en el em span = subst (λ (z : ℤ). IsSpan w d z j k) en (subst (λ (z : ℤ). IsSpan w d n z k) el (subst (λ (z : ℤ). IsSpan w d n low z) em span))

pub layer-read : {A : Type 0} {IsValue : A → Type 0} (r : Operations A) (w : Web) (d : ℕ) (n i : ℤ) (t u : ℕ) (keys : List (List Rows)) (parts : List (Family A)) → n ≡ i → t ≡ u → IsLayer IsValue r w d n t keys parts → IsLayer IsValue r w d i u keys parts
layer-read {IsValue = IsValue} r w d n i t u keys parts en et layer = subst (λ (z : ℤ). IsLayer IsValue r w d z u keys parts) en (subst (λ (z : ℕ). IsLayer IsValue r w d n z keys parts) et layer)
