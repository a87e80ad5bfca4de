-- When the groups of all keys of a table are done, its place is replaced.
use Rattle.std.proofs.Common.{◌≡◌, ℕ, zero, suc, ◌<◌, ◌≤◌, ℤ, Bool, true, false, List, [], ◌∷◌, ◌++◌, Some, None, refl, sym, ◌∙◌, ap, subst, inl, inr}
use Rattle.std.specs.Prelude.{◌⊎◌, slice_get}
use Rattle.std.specs.List.{AllByRecursion}
use Rattle.std.proofs.lemmas.Bool.{and_parts}
use Rattle.tv_ring.specs.Operations.{Operations}
use Rattle.tv_cells.specs.declared.legs.Legs.{Legs}
use Rattle.tv_spec_slices.specs.Slices.{Shape, at}
use Rattle.tv_laws_sums.specs.Mixed.{put}
use Rattle.tv_laws_sums.specs.Laws.{AreLow}
use Rattle.tv_laws_sums.specs.Sums.{through, kept}
use Rattle.tv_laws_sums.proofs.Replaced.{place-inside}
use Rattle.tv_slices.specs.declared.row.Row.{Row}
use Rattle.tv_sums.specs.declared.plan.Plan.{Plan}
use Rattle.tv_sums.specs.Plans.{left, is_fit, are_fit}
use Rattle.tv_sums.specs.Keys.{key, IsKey, opened}
use Rattle.tv_sums.specs.Parts.{kept_in, ways_in, all_done, has_key, grouped, IsPart}
use Rattle.tv_sums.proofs.Parted.{part-turned}
use Rattle.tv_sums.proofs.Keyed.{at-key, key-past, put-none, put-again, put-own}
use Rattle.tv_sums.proofs.Walked.{IsLawful, spot}
use Rattle.tv_sums.proofs.Round.{fit-after}
use Rattle.tv_sums.proofs.Grouped.{found-all, group-none}

pub all-got : {X : Type 0} (P : X → Type 0) (xs : List X) (i : ℕ) (x : X) → AllByRecursion P xs → slice_get xs i ≡ Some x → P x
all-got P [] i x all e = absurd (let f : None ≡ Some x = e in cc)
all-got P (y ∷ xs) zero x all e = let same : y ≡ x = let f : Some y ≡ Some x = e in cc in subst P same all.0
all-got P (y ∷ xs) (suc i) x all e = all-got P xs i x all.1 e

pub all-push : {X : Type 0} (P : X → Type 0) (xs : List X) (x : X) → AllByRecursion P xs → P x → AllByRecursion P (xs ++ x ∷ [])
all-push P [] x all here = (here, tt)
all-push P (y ∷ xs) x all here = (all.0, all-push P xs x all.1 here)

pub part-empty : {A : Type 0} (r : Operations A) (legs : Legs) (t : ℤ) (plan : Plan) (i : ℕ) (slices : List Shape) (done : Shape → Bool) (rows : List (Shape × Row A)) → rows ≡ [] → ((s : Shape) → done s ≡ false) → IsPart r legs t plan i slices done rows
part-empty r legs t plan i slices done rows e none = subst (IsPart r legs t plan i slices done) (sym e) (record { keys = tt; each = λ s is fit h. let off = none s in absurd (cc) })

opened-put : (plan : Plan) (i : ℕ) (s : Shape) (y : ℕ) → i < plan.n → IsKey plan.top plan.n s → opened plan i (key (put (at s) (spot plan i) y) plan.n) ≡ opened plan i s
opened-put plan i s y inside is =
    ap (λ f. key (put f (spot plan i) 0) plan.n) (at-key (put (at s) (spot plan i) y) plan.n (put-none (at s) plan.n (spot plan i) y (place-inside plan.grows plan.n i inside) (key-past plan.top plan.n s is)))
    ∙ ap (λ f. key f plan.n) (put-again (at s) (spot plan i) y 0)

pub part-whole : {A : Type 0} (r : Operations A) (legs : Legs) (t : ℤ) (plan : Plan) (i : ℕ) (slices : List Shape) (table next : List (Shape × Row A)) (done : List (Shape × Bool)) → IsLawful legs t plan → i < plan.n → AreLow plan.top plan.n slices →
    IsPart r legs t plan i slices all_done table → AllByRecursion (λ e. grouped plan i done e.0 ≡ true) table → IsPart r legs t plan (suc i) slices (grouped plan i done) next → IsPart r legs t plan (suc i) slices all_done next
part-whole r legs t plan i slices table next done laws inside low part all found =
    part-turned r legs t plan (suc i) slices (grouped plan i done) all_done next (λ s is fit h. by s is fit (grouped plan i done s) refl) found
  where
    none : (s : Shape) → IsKey plan.top plan.n s → grouped plan i done s ≡ false → (y : ℕ) → y ≤ plan.top → (q : Bool) → has_key table (key (put (at s) (spot plan i) y) plan.n) ≡ q → has_key table (key (put (at s) (spot plan i) y) plan.n) ≡ false
    none s is off y l true e =
        let on : grouped plan i done s ≡ true = sym (ap (has_key done) (opened-put plan i s y inside is)) ∙ found-all (λ q. grouped plan i done q ≡ true) (key (put (at s) (spot plan i) y) plan.n) table all e in
        absurd (cc)
    none s is off y l false e = e

    by : (s : Shape) → IsKey plan.top plan.n s → are_fit legs plan (suc i) (at s) ≡ true → (q : Bool) → grouped plan i done s ≡ q → (grouped plan i done s ≡ true) ⊎ ((c : ℕ) → c < kept_in legs plan (suc i) s → ways_in legs t plan (suc i) slices s c ≡ 0)
    by s is fit true e = inl e
    by s is fit false e = inr (λ c few.
        let own = put-own (at s) (spot plan i) in
        let fit_old = (and_parts (are_fit legs plan i (at s)) (is_fit legs plan (spot plan i) (at s (spot plan i))) (sym (fit-after legs plan i (at s (spot plan i)) (at s) inside) ∙ (ap (are_fit legs plan (suc i)) own ∙ fit))).0 in
        subst (λ f. c < kept plan.k (left legs plan (suc i) f) → through legs plan.k t plan.top plan.n (suc i) slices f c ≡ 0) own
        (group-none r legs t plan i slices table laws inside low part (at s) (at s (spot plan i)) c is.low (key-past plan.top plan.n s is) fit_old (λ y l. none s is e y l (has_key table (key (put (at s) (spot plan i) y) plan.n)) refl)) few)
