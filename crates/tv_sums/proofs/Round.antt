-- One height more of a place.
--
-- fit-before, fit-after  which heights fit before and after a place is replaced
-- round         what the sum and the table tell after one height more
use Rattle.std.proofs.Common.{◌≡◌, ℕ, zero, suc, ◌+◌, ◌<◌, ◌≤◌, ℤ, Bool, true, false, List, Option, Some, None, refl, sym, ◌∙◌, ap, subst, arith}
use Rattle.std.specs.Prelude.{not, ◌&&◌, ◌||◌, MatchOption}
use Rattle.std.specs.Map.{lookup}
use Rattle.tv_ring.specs.Operations.{Operations}
use Rattle.tv_cells.specs.declared.legs.Legs.{Legs}
use Rattle.tv_spec_slices.specs.Slices.{Shape, at, same_shape}
use Rattle.tv_laws_sums.specs.Mixed.{before, is_new, put, lowest, highest, nth}
use Rattle.tv_laws_sums.specs.Sums.{charged, kept, through}
use Rattle.tv_laws_sums.specs.Laws.{AreLow}
use Rattle.tv_laws_sums.proofs.Replaced.{place-inside, new-here, old-here, new-else, put-here, all-put, others, others-same}
use Rattle.tv_slices.specs.declared.row.Row.{Row}
use Rattle.tv_slices.specs.Tables.{HasRow}
use Rattle.tv_sums.specs.declared.plan.Plan.{Plan}
use Rattle.tv_sums.specs.Plans.{over_at, left, is_fit, are_fit}
use Rattle.tv_sums.specs.Keys.{key, IsKey}
use Rattle.tv_sums.specs.Tells.{Tells}
use Rattle.tv_sums.specs.Parts.{kept_in, ways_in, all_done, IsPart}
use Rattle.tv_sums.proofs.Keyed.{at-key, key-is, key-past, put-none, put-low, put-own}
use Rattle.tv_sums.proofs.Walked.{IsLawful, IsWalk, spot, met_in, sums_to, walk-next, height-long, walked, part-next}

fit_if : Legs → Plan → ℕ → ℕ → ℕ → Bool
fit_if legs plan i d y = not (is_new plan.grows plan.n i d) || is_fit legs plan d y

and-true : (q : Bool) → (q && true) ≡ q
and-true true = refl
and-true false = refl

fit-put : (legs : Legs) (plan : Plan) (i y : ℕ) (h : ℕ → ℕ) → i < plan.n → are_fit legs plan i (put h (spot plan i) y) ≡ others plan.n (spot plan i) (λ d. fit_if legs plan i d (h d))
unfolding fit_if
fit-put legs plan i y h l =
    all-put plan.n (spot plan i) y h (fit_if legs plan i) (place-inside plan.grows plan.n i l)
    ∙ (ap (λ q. others plan.n (spot plan i) (λ d. fit_if legs plan i d (h d)) && (not q || is_fit legs plan (spot plan i) y)) (old-here plan.grows plan.n i l) ∙ and-true (others plan.n (spot plan i) (λ d. fit_if legs plan i d (h d))))

pub fit-before : (legs : Legs) (plan : Plan) (i y : ℕ) (h : ℕ → ℕ) → i < plan.n → are_fit legs plan i (put h (spot plan i) y) ≡ are_fit legs plan i h
fit-before legs plan i y h l = fit-put legs plan i y h l ∙ (sym (fit-put legs plan i (h (spot plan i)) h l) ∙ ap (are_fit legs plan i) (put-own h (spot plan i)))

pub fit-after : (legs : Legs) (plan : Plan) (i y : ℕ) (h : ℕ → ℕ) → i < plan.n → are_fit legs plan (suc i) (put h (spot plan i) y) ≡ (are_fit legs plan i h && is_fit legs plan (spot plan i) y)
unfolding fit_if
fit-after legs plan i y h l =
    all-put plan.n (spot plan i) y h (fit_if legs plan (suc i)) (place-inside plan.grows plan.n i l)
    ∙ (ap (λ q. q && fit_if legs plan (suc i) (spot plan i) y)
    (others-same plan.n (spot plan i) (λ d. fit_if legs plan (suc i) d (h d)) (λ d. fit_if legs plan i d (h d)) (λ d m ne. ap (λ q. not q || is_fit legs plan d (h d)) (new-else plan.grows plan.n i d l m ne))
    ∙ (sym (fit-put legs plan i y h l) ∙ fit-before legs plan i y h l))
    ∙ ap (λ q. are_fit legs plan i h && (not q || is_fit legs plan (spot plan i) y)) (new-here plan.grows plan.n i l))

-- ---- one height more

pub strip : {X : Type 0} (P : Type 0) (Q : X → Type 0) (o : Option X) → MatchOption o (true ≡ true → P) Q → MatchOption o P Q
strip P Q None f = f refl
strip P Q (Some x) q = q

pub nth-under : (g : Bool) (low high m : ℕ) → low + m ≤ high → nth g low high m ≤ high
nth-under true low high m l = l
nth-under false low high m l = omega arith

pub before-under : (top p : ℕ) (h : ℕ → ℕ) → ((d : ℕ) → h d ≤ top) → before top h p ≤ top
before-under top zero h low = omega arith
before-under top (suc p) h low = low p

abbrev pub Summed : {A : Type 0} → Operations A → Legs → Plan → ℕ → Shape → List (Shape × Row A) → Row A → Row A → Type 0
Summed r legs plan i b table sum new =
    (f g : ℕ → ℕ) → Tells r f (kept_in legs plan i b) sum → MatchOption (lookup (same_shape b) table) ((c : ℕ) → c < kept_in legs plan i b → g c ≡ 0) (HasRow r g (kept_in legs plan i b)) → Tells r (λ c. f c + g c) (kept_in legs plan i b) new

abbrev pub Pushed : {A : Type 0} → Operations A → Legs → ℤ → Plan → ℕ → List Shape → ℕ → Shape → Row A → List (Shape × Row A) → List (Shape × Row A) → Type 0
Pushed r legs t plan i slices p b new old next =
    (done : Shape → Bool) (f : ℕ → ℕ) (n : ℕ) → IsKey plan.top plan.n b → are_fit legs plan (suc i) (at b) ≡ is_fit legs plan p (at b p) → Tells r f n new → kept_in legs plan (suc i) b ≤ n + over_at legs plan p (at b p) →
    ((c : ℕ) → ways_in legs t plan (suc i) slices b c ≡ charged f (over_at legs plan p (at b p)) c) → IsPart r legs t plan (suc i) slices done old → IsPart r legs t plan (suc i) slices (λ s. done s || same_shape b s) next

pub round : {A : Type 0} (r : Operations A) (legs : Legs) (t : ℤ) (plan : Plan) (i : ℕ) (slices : List Shape) (group : Shape) (done : Shape → Bool) (table old next : List (Shape × Row A)) (sum new : Row A) (m : ℕ) → IsLawful legs t plan → i < plan.n →
    AreLow plan.top plan.n slices → IsKey plan.top plan.n group → are_fit legs plan i (at group) ≡ true → IsPart r legs t plan i slices all_done table → lowest (at group) (spot plan i) + m ≤ highest plan.top (at group) (spot plan i) →
    Summed r legs plan i (key (put (at group) (spot plan i) (met_in plan i (at group) m)) plan.n) table sum new →
    Pushed r legs t plan i slices (spot plan i) (key (put (at group) (spot plan i) (met_in plan i (at group) m)) plan.n) new old next →
    IsWalk r legs t plan i slices (at group) m sum → IsPart r legs t plan (suc i) slices (walked plan i group m done) old →
    IsWalk r legs t plan i slices (at group) (suc m) new × IsPart r legs t plan (suc i) slices (walked plan i group (suc m) done) next
round r legs t plan i slices group done table old next sum new m laws inside low_slices is fit part few summed pushed walk part_old =
    let h = at group in let p = spot plan i in let y = met_in plan i h m in let b = key (put h p y) plan.n in
    let e : at b ≡ put h p y = at-key (put h p y) plan.n (put-none h plan.n p y (place-inside plan.grows plan.n i inside) (key-past plan.top plan.n group is)) in
    let here : at b p ≡ y = ap (λ f. f p) e ∙ put-here h p y in
    let is_b : IsKey plan.top plan.n b = key-is plan.top plan.n (put h p y) (put-low h plan.top p y is.low (under (met_in plan i h m) (highest plan.top h p) plan.top (nth-under plan.grows (lowest h p) (highest plan.top h p) m few) (before-under plan.top p h is.low))) in
    let fit_b : are_fit legs plan i (at b) ≡ true = ap (are_fit legs plan i) e ∙ (fit-before legs plan i y h inside ∙ fit) in
    let fit_after : are_fit legs plan (suc i) (at b) ≡ is_fit legs plan p (at b p) =
    ap (are_fit legs plan (suc i)) e ∙ (fit-after legs plan i y h inside ∙ (ap (λ q. q && is_fit legs plan p y) fit ∙ ap (is_fit legs plan p) (sym here))) in
    let tells = subst (λ f. Tells r (sums_to legs t plan i slices h m) (kept plan.k (left legs plan i f)) sum) (sym e) (walk m (omega arith) few) in
    let more = summed (sums_to legs t plan i slices h m) (ways_in legs t plan i slices b) tells
    (strip ((c : ℕ) → c < kept_in legs plan i b → ways_in legs t plan i slices b c ≡ 0) (HasRow r (ways_in legs t plan i slices b) (kept_in legs plan i b)) (lookup (same_shape b) table) (part.each b is_b fit_b)) in
    let after : IsWalk r legs t plan i slices h (suc m) new = walk-next r legs t plan i slices h laws inside m new (subst (λ f. Tells r (λ c. sums_to legs t plan i slices h m c + through legs plan.k t plan.top plan.n i slices f c) (kept plan.k (left legs plan i f)) new) e more) in
    let n = kept plan.k (left legs plan i (put h p y)) in
    let long : kept_in legs plan (suc i) b ≤ n + over_at legs plan p (at b p) = subst (λ v. kept_in legs plan (suc i) b ≤ n + over_at legs plan p v) (sym here) (subst (λ f. kept plan.k (left legs plan (suc i) f) ≤ n + over_at legs plan p y) (sym e) (height-long r legs t plan i slices h laws inside m few)) in
    let charge : (c : ℕ) → ways_in legs t plan (suc i) slices b c ≡ charged (sums_to legs t plan i slices h (suc m)) (over_at legs plan p (at b p)) c = λ c.
    ap (λ f. through legs plan.k t plan.top plan.n (suc i) slices f c) e ∙ (laws.running i slices h m c low_slices inside (key-past plan.top plan.n group is plan.n (omega arith)) few
    ∙ ap (λ v. charged (sums_to legs t plan i slices h (suc m)) (over_at legs plan p v) c) (sym here)) in
    (after, part-next r legs t plan i slices group done laws inside m next few (pushed (walked plan i group m done) (sums_to legs t plan i slices h (suc m)) n is_b fit_after (after m (omega arith) few) long charge part_old))
  where
    under : (a b c : ℕ) → a ≤ b → b ≤ c → a ≤ c
    under a b c l m = omega arith
