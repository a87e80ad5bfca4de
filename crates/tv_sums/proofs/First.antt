-- Before any place is replaced: the heights of one slice more.
--
-- first-more   the ways where one slice more is summed
-- first-own    to its own heights they are as many more as lead up to it
-- first-other  to others they are as many as before
-- part-more    so the table of one slice more
-- part-none    the table of none
-- key-got, keys-next  the slices of a table, one by one
use Rattle.std.proofs.Common.{◌≡◌, ℕ, zero, suc, ◌+◌, ◌-◌, ◌<◌, ◌≤◌, ℤ, pos, ◌+ℤ◌, Bool, true, false, List, [], ◌∷◌, ◌++◌, get_or, Option, Some, None, refl, sym, ◌∙◌, ap, subst, arith}
use Rattle.std.specs.Prelude.{cond, not, ◌||◌, nat_eq, MatchOption, slice_get}
use Rattle.std.specs.List.{AllByRecursion}
use Rattle.std.specs.Map.{lookup, keys_of}
use Rattle.std.proofs.lemmas.Bool.{eqb-true, eq-eqb}
use Rattle.indexmap.specs.IndexMap.{insert_entry}
use Rattle.tv_lemmas.specs.Sums.{sum_of}
use Rattle.tv_lemmas.proofs.Sums.{sum_of-append, sum_of-one}
use Rattle.tv_ring.specs.Operations.{Operations}
use Rattle.tv_cells.specs.declared.legs.Legs.{Legs}
use Rattle.tv_spec_slices.specs.Slices.{Shape, at, same_shape, over, completion}
use Rattle.tv_spec_slices.specs.Paths.{shape, ways_at}
use Rattle.tv_laws_slices.proofs.Fits.{below-at, below-from}
use Rattle.tv_laws_slices.proofs.Sums.{sum_of-zeros}
use Rattle.tv_laws_slices.proofs.Pushed.{same-shape, own-shape}
use Rattle.tv_laws_sums.specs.Mixed.{grows, value, is_new, mixed}
use Rattle.tv_laws_sums.specs.Sums.{charged, spent, left, kept, through}
use Rattle.tv_laws_sums.specs.Laws.{IsLow}
use Rattle.tv_laws_sums.proofs.Both.{first-is-same, none-new, value-past}
use Rattle.tv_laws_sums.proofs.Left.{left-begins}
use Rattle.tv_laws_sums.proofs.Running.{value-low}
use Rattle.tv_laws_series.specs.Terms.{listed}
use Rattle.tv_slices.specs.declared.row.Row.{Row}
use Rattle.tv_slices.specs.Tables.{known, HasRow}
use Rattle.tv_slices.proofs.Put.{row-same}
use Rattle.tv_sums.specs.declared.plan.Plan.{Plan}
use Rattle.tv_sums.specs.Plans.{plan_for, is_fit, are_fit}
use Rattle.tv_sums.specs.Keys.{key, IsKey}
use Rattle.tv_sums.specs.Tells.{Tells}
use Rattle.tv_sums.specs.Parts.{kept_in, ways_in, all_done, IsPart}
use Rattle.tv_sums.proofs.Told.{charged-none, tells-fewer, tells-row}
use Rattle.tv_sums.proofs.Parted.{all-put}
use Rattle.tv_sums.proofs.Round.{strip}
use Rattle.tv_sums.proofs.Keyed.{at-key, key-is, listed-own}

spent-none : (legs : Legs) (t : ℤ) (n : ℕ) (h : ℕ → ℕ) → spent legs t n 0 h ≡ 0
spent-none legs t n h = sum_of-zeros (λ d. cond (is_new (grows t) n 0 d) (over legs (t +ℤ pos 1) (h d) d) 0) 0 n (λ d l m. ap (λ q. cond q (over legs (t +ℤ pos 1) (h d) d) 0) (none-new (grows t) n d (inside d m)))
  where
    inside : (d : ℕ) → d < 0 + n → d < n
    inside d l = omega arith

-- what one slice has of the ways to heights, before any place is replaced
one : Legs → ℕ → ℤ → ℕ → ℕ → Shape → (ℕ → ℕ) → ℕ → ℕ
one legs k t top n a h c = cond (mixed (grows t) top n 0 (value top a) h) (charged (ways_at legs k t a) (spent legs t n 0 h) c) 0

first-more : (legs : Legs) (k : ℕ) (t : ℤ) (top n : ℕ) (slices : List Shape) (a : Shape) (h : ℕ → ℕ) (c : ℕ) → through legs k t top n 0 (slices ++ a ∷ []) h c ≡ through legs k t top n 0 slices h c + one legs k t top n a h c
unfolding through one
first-more legs k t top n slices a h c =
    sum_of-append (λ a. cond (mixed (grows t) top n 0 (value top a) h) (charged (ways_at legs k t a) (spent legs t n 0 h) c) 0) slices (a ∷ [])
    ∙ ap (λ v. sum_of (λ a. cond (mixed (grows t) top n 0 (value top a) h) (charged (ways_at legs k t a) (spent legs t n 0 h) c) 0) slices + v) (sum_of-one (λ a. cond (mixed (grows t) top n 0 (value top a) h) (charged (ways_at legs k t a) (spent legs t n 0 h) c) 0) a)

first-own : (legs : Legs) (k : ℕ) (t : ℤ) (top n : ℕ) (a : Shape) (c : ℕ) → one legs k t top n a (value top a) c ≡ ways_at legs k t a c
unfolding one
first-own legs k t top n a c =
    ap (λ q. cond q (charged (ways_at legs k t a) (spent legs t n 0 (value top a)) c) 0) (first-is-same (grows t) top n (value top a) (value top a) ∙ below-from n (λ d. nat_eq (value top a d) (value top a d)) (λ d l. eq-eqb (value top a d) (value top a d) refl))
    ∙ (ap (λ x. charged (ways_at legs k t a) x c) (spent-none legs t n (value top a)) ∙ charged-none (ways_at legs k t a) c)

first-other : (legs : Legs) (k : ℕ) (t : ℤ) (top n : ℕ) (a s : Shape) (c : ℕ) → IsKey top n s → same_shape (key (value top a) n) s ≡ false → one legs k t top n a (at s) c ≡ 0
unfolding one
first-other legs k t top n a s c is off = by (mixed (grows t) top n 0 (value top a) (at s)) refl
  where
    by : (q : Bool) → mixed (grows t) top n 0 (value top a) (at s) ≡ q → cond q (charged (ways_at legs k t a) (spent legs t n 0 (at s)) c) 0 ≡ 0
    by false e = refl
    by true e =
        let same : (d : ℕ) → d < n → at s d ≡ value top a d = λ d l. eqb-true (at s d) (value top a d) (below-at n (λ d. nat_eq (at s d) (value top a d)) (sym (first-is-same (grows t) top n (value top a) (at s)) ∙ e) d l) in
        let full : (d : ℕ) → d ≡ d - s.full = λ d. let z = is.full in omega arith in
        let heights : s.heights ≡ listed (value top a) n = listed-own (value top a) s.heights n is.length (λ d l. ap (λ e. get_or s.heights e 0) (full d) ∙ same d l) in
        let whole : s ≡ key (value top a) n = ap (λ f. shape f s.heights) is.full ∙ ap (shape 0) heights in
        let on : same_shape (key (value top a) n) s ≡ true = subst (λ b. same_shape b s ≡ true) whole (own-shape s) in
        absurd (cc)

-- no more costs are kept of the heights than of the slice
first-kept : (legs : Legs) (k : ℕ) (t : ℤ) (top n : ℕ) (a : Shape) → IsLow top n a → kept k (left legs t n 0 (value top a)) ≤ known legs k t a
first-kept legs k t top n a low = fewer (completion legs t a) (left legs t n 0 (value top a)) (left-begins legs t top n a low)
  where
    fewer : (a b : ℕ) → a ≤ b → suc k - b ≤ suc k - a
    fewer a b l = omega arith

module _ {A : Type 0} (r : Operations A) (legs : Legs) (k : ℕ) (t : ℤ) (top n : ℕ) (slices : List Shape) (a : Shape) (low : IsLow top n a) where
  at-b : at (key (value top a) n) ≡ value top a
  at-b = at-key (value top a) n (value-past top n a low)

  -- a key with its row where one slice more is summed
  more-at : (s : Shape) (o : Option (Row A)) → IsKey top n s → same_shape (key (value top a) n) s ≡ false →
      MatchOption o (all_done s ≡ true → (c : ℕ) → c < kept_in legs (plan_for k t top n) 0 s → ways_in legs t (plan_for k t top n) 0 slices s c ≡ 0) (HasRow r (ways_in legs t (plan_for k t top n) 0 slices s) (kept_in legs (plan_for k t top n) 0 s)) →
      MatchOption o (all_done s ≡ true → (c : ℕ) → c < kept_in legs (plan_for k t top n) 0 s → ways_in legs t (plan_for k t top n) 0 (slices ++ a ∷ []) s c ≡ 0) (HasRow r (ways_in legs t (plan_for k t top n) 0 (slices ++ a ∷ []) s) (kept_in legs (plan_for k t top n) 0 s))
  more-at s None is off none = λ h c l. first-more legs k t top n slices a (at s) c ∙ both (through legs k t top n 0 slices (at s) c) (one legs k t top n a (at s) c) (none h c l) (first-other legs k t top n a s c is off)
    where
      both : (u v : ℕ) → u ≡ 0 → v ≡ 0 → u + v ≡ 0
      both u v e f = omega arith
  more-at s (Some row) is off has = row-same r (ways_in legs t (plan_for k t top n) 0 slices s) (ways_in legs t (plan_for k t top n) 0 (slices ++ a ∷ []) s) (kept_in legs (plan_for k t top n) 0 s) row
      (λ c l. sym (first-more legs k t top n slices a (at s) c ∙ nought (through legs k t top n 0 slices (at s) c) (one legs k t top n a (at s) c) (first-other legs k t top n a s c is off))) has
    where
      nought : (u v : ℕ) → v ≡ 0 → u + v ≡ u
      nought u v e = omega arith

  pub more-own : (c : ℕ) → ways_in legs t (plan_for k t top n) 0 (slices ++ a ∷ []) (key (value top a) n) c ≡ ways_in legs t (plan_for k t top n) 0 slices (key (value top a) n) c + ways_at legs k t a c
  more-own c = first-more legs k t top n slices a (at (key (value top a) n)) c ∙ ap (λ v. through legs k t top n 0 slices (at (key (value top a) n)) c + v) (ap (λ h. one legs k t top n a h c) at-b ∙ first-own legs k t top n a c)

  pub more-tells : (row : Row A) → HasRow r (ways_at legs k t a) (known legs k t a) row → Tells r (ways_at legs k t a) (kept_in legs (plan_for k t top n) 0 (key (value top a) n)) row
  more-tells row has = tells-fewer r (ways_at legs k t a) (ways_at legs k t a) (kept_in legs (plan_for k t top n) 0 (key (value top a) n)) (known legs k t a) row
      (subst (λ h. kept k (left legs t n 0 h) ≤ known legs k t a) (sym at-b) (first-kept legs k t top n a low)) (λ c l. refl) (tells-row r (ways_at legs k t a) (known legs k t a) row has)

  first-fit : (h : ℕ → ℕ) → are_fit legs (plan_for k t top n) 0 h ≡ true
  first-fit h = below-from n (λ d. not (is_new (grows t) n 0 d) || is_fit legs (plan_for k t top n) d (h d)) (λ d l. ap (λ q. not q || is_fit legs (plan_for k t top n) d (h d)) (none-new (grows t) n d l))

  pub part-more : (row : Row A) (rows new : List (Shape × Row A)) →
      ((q : Shape) → lookup (same_shape q) new ≡ cond (same_shape (key (value top a) n) q) (Some row) (lookup (same_shape q) rows)) → new ≡ insert_entry same_shape rows (key (value top a) n) row →
      HasRow r (ways_in legs t (plan_for k t top n) 0 (slices ++ a ∷ []) (key (value top a) n)) (kept_in legs (plan_for k t top n) 0 (key (value top a) n)) row →
      IsPart r legs t (plan_for k t top n) 0 slices all_done rows → IsPart r legs t (plan_for k t top n) 0 (slices ++ a ∷ []) all_done new
  part-more row rows new put entries has part = record {
    keys = subst (AllByRecursion (λ e. IsKey top n e.0 × (are_fit legs (plan_for k t top n) 0 (at e.0) ≡ true))) (sym entries)
        (all-put (λ s. IsKey top n s × (are_fit legs (plan_for k t top n) 0 (at s) ≡ true)) rows (key (value top a) n) row (key-is top n (value top a) (value-low top n a low), first-fit (at (key (value top a) n))) part.keys);
    each = λ s is fit. subst (At s) (sym (put s)) (decided s is fit (same_shape (key (value top a) n) s) refl);
  }
    where
      At : Shape → Option (Row A) → Type 0
      At s o = MatchOption o (all_done s ≡ true → (c : ℕ) → c < kept_in legs (plan_for k t top n) 0 s → ways_in legs t (plan_for k t top n) 0 (slices ++ a ∷ []) s c ≡ 0) (HasRow r (ways_in legs t (plan_for k t top n) 0 (slices ++ a ∷ []) s) (kept_in legs (plan_for k t top n) 0 s))

      decided : (s : Shape) → IsKey top n s → are_fit legs (plan_for k t top n) 0 (at s) ≡ true → (q : Bool) → same_shape (key (value top a) n) s ≡ q → At s (cond q (Some row) (lookup (same_shape s) rows))
      decided s is fit true e = subst (λ s. HasRow r (ways_in legs t (plan_for k t top n) 0 (slices ++ a ∷ []) s) (kept_in legs (plan_for k t top n) 0 s) row) (same-shape (key (value top a) n) s e) has
      decided s is fit false e = more-at s (lookup (same_shape s) rows) is e (part.each s is fit)

  pub own-before : (rows : List (Shape × Row A)) → IsPart r legs t (plan_for k t top n) 0 slices all_done rows →
      MatchOption (lookup (same_shape (key (value top a) n)) rows) ((c : ℕ) → c < kept_in legs (plan_for k t top n) 0 (key (value top a) n) → ways_in legs t (plan_for k t top n) 0 slices (key (value top a) n) c ≡ 0)
      (HasRow r (ways_in legs t (plan_for k t top n) 0 slices (key (value top a) n)) (kept_in legs (plan_for k t top n) 0 (key (value top a) n)))
  own-before rows part = strip ((c : ℕ) → c < kept_in legs (plan_for k t top n) 0 (key (value top a) n) → ways_in legs t (plan_for k t top n) 0 slices (key (value top a) n) c ≡ 0)
      (HasRow r (ways_in legs t (plan_for k t top n) 0 slices (key (value top a) n)) (kept_in legs (plan_for k t top n) 0 (key (value top a) n))) (lookup (same_shape (key (value top a) n)) rows)
      (part.each (key (value top a) n) (key-is top n (value top a) (value-low top n a low)) (first-fit (at (key (value top a) n))))

pub part-none : {A : Type 0} (r : Operations A) (legs : Legs) (t : ℤ) (plan : Plan) (rows : List (Shape × Row A)) → rows ≡ [] → IsPart r legs t plan 0 [] all_done rows
unfolding through
part-none r legs t plan rows e = subst (IsPart r legs t plan 0 [] all_done) (sym e) (record { keys = tt; each = λ s is fit done c l. refl })

pub key-got : {V : Type 0} (P : Shape → Type 0) (es : List (Shape × V)) (j : ℕ) (a : Shape) (v : V) → AllByRecursion P (keys_of es) → slice_get es j ≡ Some (a, v) → P a
key-got {V} P [] j a v all e = absurd (let f : None ≡ Some (a, v) = e in cc)
key-got {V} P (f ∷ es) zero a v all e = let same : f ≡ (a, v) = let g : Some f ≡ Some (a, v) = e in cc in subst (λ x. P x.0) same all.0
key-got P (f ∷ es) (suc j) a v all e = key-got P es j a v all.1 e

pub keys-next : {V : Type 0} (xs : List (Shape × V)) (a : Shape) (v : V) → keys_of (xs ++ (a, v) ∷ []) ≡ keys_of xs ++ a ∷ []
keys-next [] a v = refl
keys-next (x ∷ xs) a v = ap (λ ks. x.0 ∷ ks) (keys-next xs a v)
