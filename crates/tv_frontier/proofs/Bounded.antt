-- Bounds of states: which there are, and what a bound is enough for.
use Rattle.std.specs.Prelude.{◌≡◌, ℕ, zero, suc, ◌+◌, ◌<◌, ◌≤◌, ℤ, pos, ◌≤ℤ◌, List, [], ◌∷◌, ◌++◌, length, unsigned_abs}
use Rattle.std.specs.List.{AllByRecursion}
use Rattle.std.proofs.Common.{refl, sym, ap, subst, ◌∙◌, arith, get_or, take}
use Rattle.std.proofs.lemmas.List.{get_or_default}
use Rattle.std.proofs.Math.ListN.{set}
use Rattle.std.proofs.lemmas.Int.{ints, clamps}
use Rattle.tv_lemmas.proofs.Members.{all-onto, all-at}
use Rattle.tv_laws_series.specs.Terms.{IsWithin}
use Rattle.tv_spec_plane.specs.Web.{Web}
use Rattle.tv_spec_boxes.specs.Assignments.{Rows}
use Rattle.tv_spec_series.specs.Families.{Family, without_rows}
use Rattle.tv_laws_frontier.specs.Steps.{states}
use Rattle.tv_frontier.specs.Joining.{IsSpan, IsRange, IsStage}
use Rattle.tv_frontier.specs.Rows.{HasShape, IsBound}
use Rattle.tv_frontier.specs.Bounds.{uptos, Suffices, AllSuffice, AllReach}
use Rattle.tv_frontier.specs.Layers.{AllShaped, AreWithout}

pub span-bound : (w : Web) (d : ℕ) (n low m : ℤ) → IsSpan w d n low m → IsBound w d n m
span-bound w d n low m span = record {
  first = (let e = span.floor in let l = span.rises in omega (arith, ints));
  last = (let e = span.upto in omega (arith, ints));
}

-- with a bound of its own for the last exponent it is a stage still
pub stage-through : (w : Web) (d : ℕ) (n low m b : ℤ) (t : ℕ) → IsStage w d n low m t → IsBound w d n b → IsStage w d n low b t
stage-through w d n low m b t stage bound = record {
  degree = stage.degree;
  order = stage.order;
  lowest = stage.lowest;
  floor = stage.floor;
  upto = bound.last;
  rises = (let e = stage.floor in let f = bound.first in omega (arith, ints));
  small_low = stage.small_low;
  small_upto = (let o = stage.order in let q = stage.lowest in let e = stage.floor in let l = stage.small_low in let f = bound.first in let h = bound.last in omega (arith, ints, clamps));
  corner = stage.corner;
}

pub stage-read : (w : Web) (d : ℕ) (n low m i j k : ℤ) (t : ℕ) → n ≡ i → low ≡ j → m ≡ k → IsStage w d n low m t → IsStage w d i j k t
stage-read w d n low m i j k t en el em stage = subst (λ (z : ℤ). IsStage w d z j k t) en (subst (λ (z : ℤ). IsStage w d n z k t) el (subst (λ (z : ℤ). IsStage w d n low z t) em stage))

pub range-of : (w : Web) (d : ℕ) (n low m : ℤ) (t : ℕ) → IsStage w d n low m t → IsRange low m
range-of w d n low m t stage = record { rises = stage.rises; small_low = stage.small_low; small_upto = stage.small_upto }

pub range-span : (w : Web) (d : ℕ) (n low m : ℤ) → IsSpan w d n low m → IsRange low m
range-span w d n low m span = record { rises = span.rises; small_low = span.small_low; small_upto = span.small_upto }

pub bound-small : (w : Web) (d : ℕ) (n low m b : ℤ) (t : ℕ) → IsStage w d n low m t → IsBound w d n b → unsigned_abs b ≤ 200000000
bound-small w d n low m b t stage bound = (stage-through w d n low m b t stage bound).small_upto

pub bounds-within : (w : Web) (d : ℕ) (n low m : ℤ) (t : ℕ) (bs : List ℤ) → IsStage w d n low m t → AllByRecursion (IsBound w d n) bs → AllByRecursion IsWithin bs
bounds-within w d n low m t bs stage all = all-onto (IsBound w d n) IsWithin (λ b bound. (let l = bound-small w d n low m b t stage bound in omega (arith, ints))) bs all

pub bound-at : (w : Web) (d : ℕ) (n : ℤ) (bs : List ℤ) (p : ℕ) (z : ℤ) → AllByRecursion (IsBound w d n) bs → p < length bs → IsBound w d n (get_or bs p z)
bound-at w d n bs p z all within = all-at (IsBound w d n) bs z all p within

-- ---- families with their bounds

pub without-shaped : {A : Type 0} (w : Web) (d : ℕ) (bs : List ℤ) (fs : List (Family A)) → AreWithout w d bs fs → AllShaped w d bs fs
without-shaped w d [] [] none = tt
without-shaped w d (b ∷ bs) [] none = absurd none
without-shaped w d [] (f ∷ fs) none = absurd none
without-shaped w d (b ∷ bs) (f ∷ fs) none = (record { heights = ap (λ z. z.heights) none.0; top = ap (λ z. z.top) none.0; upto = ap (λ z. z.upto) none.0 }, without-shaped w d bs fs none.1)

pub shaped-long : {A : Type 0} (w : Web) (d : ℕ) (bs : List ℤ) (fs : List (Family A)) → AllShaped w d bs fs → length fs ≡ length bs
shaped-long w d [] [] shaped = refl
shaped-long w d (b ∷ bs) [] shaped = absurd shaped
shaped-long w d [] (f ∷ fs) shaped = absurd shaped
shaped-long w d (b ∷ bs) (f ∷ fs) shaped = ap suc (shaped-long w d bs fs shaped.1)

pub shaped-uptos : {A : Type 0} (w : Web) (d : ℕ) (bs : List ℤ) (fs : List (Family A)) → AllShaped w d bs fs → uptos fs ≡ bs
shaped-uptos w d [] [] shaped = refl
shaped-uptos w d (b ∷ bs) [] shaped = absurd shaped
shaped-uptos w d [] (f ∷ fs) shaped = absurd shaped
shaped-uptos w d (b ∷ bs) (f ∷ fs) shaped = ap (λ z. z ∷ uptos fs) shaped.0.upto ∙ ap (λ zs. b ∷ zs) (shaped-uptos w d bs fs shaped.1)

pub shaped-at : {A : Type 0} (w : Web) (d : ℕ) (bs : List ℤ) (fs : List (Family A)) (p : ℕ) (b : ℤ) (f : Family A) → AllShaped w d bs fs → p < length bs → b ≡ get_or bs p b → get_or fs p f ≡ f → HasShape w d b f
shaped-at w d [] fs p b f shaped within at_bound at_part = absurd (omega arith)
shaped-at w d (x ∷ bs) [] p b f shaped within at_bound at_part = absurd shaped
shaped-at w d (x ∷ bs) (y ∷ fs) zero b f shaped within at_bound at_part = subst (λ (z : ℤ). HasShape w d z f) (sym at_bound) (subst (HasShape w d x) at_part shaped.0)
shaped-at w d (x ∷ bs) (y ∷ fs) (suc p) b f shaped within at_bound at_part = shaped-at w d bs fs p b f shaped.1 (omega arith) at_bound at_part

pub shaped-set : {A : Type 0} (w : Web) (d : ℕ) (bs : List ℤ) (fs : List (Family A)) (p : ℕ) (b : ℤ) (f : Family A) → AllShaped w d bs fs → p < length bs → b ≡ get_or bs p b → HasShape w d b f → AllShaped w d bs (set fs p f)
shaped-set w d [] fs p b f shaped within at_bound here = absurd (omega arith)
shaped-set w d (x ∷ bs) [] p b f shaped within at_bound here = absurd shaped
shaped-set w d (x ∷ bs) (y ∷ fs) zero b f shaped within at_bound here = (subst (λ (z : ℤ). HasShape w d z f) at_bound here, shaped.1)
shaped-set w d (x ∷ bs) (y ∷ fs) (suc p) b f shaped within at_bound here = (shaped.0, shaped-set w d bs fs p b f shaped.1 (omega arith) at_bound here)

pub without-next : {A : Type 0} (w : Web) (d : ℕ) (bs : List ℤ) (fs gs : List (Family A)) (k : ℕ) (b : ℤ) (f : Family A) → AreWithout w d (take k bs) fs → k < length bs → b ≡ get_or bs k b → gs ≡ fs ++ f ∷ [] → f ≡ without_rows w.heights (pos d) b → AreWithout w d (take (k + 1) bs) gs
without-next w d [] fs gs k b f none within at_bound pushed here = absurd (omega arith)
without-next {A = A} w d (x ∷ bs) [] gs zero b f none within at_bound pushed here =
    subst (λ (zs : List (Family A)). AreWithout w d (x ∷ []) zs) (sym pushed) (here ∙ ap (without_rows w.heights (pos d)) at_bound, tt)
without-next w d (x ∷ bs) (y ∷ fs) gs zero b f none within at_bound pushed here = absurd none
without-next w d (x ∷ bs) [] gs (suc k) b f none within at_bound pushed here = absurd none
without-next {A = A} w d (x ∷ bs) (y ∷ fs) gs (suc k) b f none within at_bound pushed here =
    let up : suc k + 1 ≡ suc (k + 1) = omega arith in
    rw up (subst (λ (zs : List (Family A)). AreWithout w d (x ∷ take (k + 1) bs) zs) (sym pushed) (none.0, without-next w d bs fs (fs ++ f ∷ []) k b f none.1 (omega arith) at_bound refl here))

-- ---- what is told of one of them

uptos-at : {A : Type 0} (fs : List (Family A)) (k : ℕ) (f : Family A) → k < length fs → f ≡ get_or fs k f → get_or (uptos fs) k (pos 0) ≡ f.upto
uptos-at [] k f within read = absurd (omega arith)
uptos-at (x ∷ fs) zero f within read = ap (λ z. z.upto) (sym read)
uptos-at (x ∷ fs) (suc k) f within read = uptos-at fs k f (omega arith) read

pub reach-at : {A : Type 0} (n : ℤ) (fs : List (Family A)) (k : ℕ) (f : Family A) → AllReach n (uptos fs) → k < length fs → f ≡ get_or fs k f → n ≤ℤ f.upto
reach-at n [] k f all within read = absurd (omega arith)
reach-at n (x ∷ fs) zero f all within read = subst (λ (z : Family _). n ≤ℤ z.upto) (sym read) all.0
reach-at n (x ∷ fs) (suc k) f all within read = reach-at n fs k f all.1 (omega arith) read

pub suffices-at : {A : Type 0} (w : Web) (d : ℕ) (n : ℤ) (t : ℕ) (next : List ℤ) (keys : List (List Rows)) (fs : List (Family A)) (k : ℕ) (h : List Rows) (f : Family A) → keys ≡ states w d t → AllSuffice w d n t next (uptos fs) → k < length keys → k < length fs → h ≡ get_or keys k h → f ≡ get_or fs k f → Suffices w d n t next h f.upto
suffices-at w d n t next keys fs k h f is all within also at_key at_part =
    let there : k < length (states w d t) = (let e = ap length is in omega arith) in
    let key : get_or (states w d t) k [] ≡ h = ap (λ ks. get_or ks k []) (sym is) ∙ (get_or_default keys k [] h within ∙ sym at_key) in
    subst (Suffices w d n t next h) (uptos-at fs k f also at_part) (subst (λ (z : List Rows). Suffices w d n t next z (get_or (uptos fs) k (pos 0))) key (all k there))
