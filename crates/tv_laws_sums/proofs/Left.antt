-- What heights leave: how many extras they take at least from the diagonal above on.
--
-- whole-upright   the extras at a place, and those that they take above it
use Rattle.std.specs.Prelude.{◌≡◌, ℕ, suc, ◌+◌, ◌-◌, ◌<◌, ◌≤◌, ◌⊎◌, ℤ, pos, negsuc, ◌+ℤ◌, Bool, true, false, cond, nat_lt}
use Rattle.std.proofs.Common.{refl, sym, ap, ◌∙◌, arith, inl, inr}
use Rattle.std.proofs.lemmas.Bool.{cases_eq, cases_lt, lt-ltb}
use Rattle.tv_lemmas.specs.Sums.{sum_of}
use Rattle.tv_partition.specs.Rows.{has}
use Rattle.tv_cells.specs.declared.legs.Legs.{Legs}
use Rattle.tv_cells.specs.Cells.{below, x_from, y_from}
use Rattle.tv_spec_slices.specs.Slices.{Shape, at, base, over, above}
use Rattle.tv_laws_slices.proofs.Steps.{sum_of-last, sum_of-below, upright-more, upright-endless, completion-up_to, completion-next, behind}
use Rattle.tv_laws_sums.specs.Mixed.{grows, value, place, is_new, put, lowest, highest, nth}
use Rattle.tv_laws_sums.specs.Sums.{upright, taken, least_at}
use Rattle.tv_laws_sums.specs.Laws.{IsLow, met, LeftBegins, LeftSteps, LeftRises, LeftEnds}
use Rattle.tv_laws_sums.proofs.Replaced.{place-inside, new-here, old-here, new-else, put-here, put-else}
use Rattle.tv_laws_sums.proofs.Running.{sum_of-each, sum_of-other}
use Rattle.tv_laws_sums.proofs.Both.{all-new, none-new, ends-in_leg}

-- the extras at a place, and those above it
abbrev pub whole : Legs → ℤ → ℕ → ℕ → ℕ
whole legs t d v = over legs (t +ℤ pos 1) v d + taken legs t d v

whole-upright : (legs : Legs) (t : ℤ) (d v : ℕ) → whole legs t d v ≡ upright legs (d + x_from (t +ℤ pos 1)) (suc (d + y_from (t +ℤ pos 1))) v
whole-upright legs t d v = sym (sum_of-last (λ y. cond (has legs.along_z (d + x_from (t +ℤ pos 1)) y) 0 (v - base legs (d + x_from (t +ℤ pos 1)) y)) (d + y_from (t +ℤ pos 1)))

whole-more : (legs : Legs) (t : ℤ) (d v w : ℕ) → v ≤ w → whole legs t d v ≤ whole legs t d w
whole-more legs t d v w l = rw (whole-upright legs t d v, whole-upright legs t d w) (upright-more legs (d + x_from (t +ℤ pos 1)) (suc (d + y_from (t +ℤ pos 1))) v w l)

value-at : (top n : ℕ) (a : Shape) (d : ℕ) → IsLow top n a → at a d ≤ value top a d
value-at top n a d is = by (nat_lt d a.full) (is.low d)
  where
    by : (q : Bool) → at a d < top → at a d ≤ cond q top (at a d)
    by true l = omega arith
    by false l = omega arith

least-behind : (t : ℤ) (h : ℕ → ℕ) (d : ℕ) → least_at (grows t) h d ≡ h (behind t d)
least-behind (pos n) h d = refl
least-behind (negsuc n) h d = refl

pub left-begins : LeftBegins
left-begins legs t top n a low = rw (completion-next legs t a n low.short) (sum_of-below _ _ 0 n (λ d from far. each d (inside d far)))
  where
    inside : (d : ℕ) → d < 0 + n → d < n
    inside d l = omega arith

    one : ℕ → ℕ
    one d = cond (is_new (grows t) n 0 d) (taken legs t d (value top a d)) (whole legs t d (least_at (grows t) (value top a) d))

    each : (d : ℕ) → d < n → upright legs (d + x_from (t +ℤ pos 1)) (suc (d + y_from (t +ℤ pos 1))) (at a (behind t d)) ≤ one d
    each d l = rw (none-new (grows t) n d l, least-behind t (value top a) d, whole-upright legs t d (value top a (behind t d)))
        (upright-more legs (d + x_from (t +ℤ pos 1)) (suc (d + y_from (t +ℤ pos 1))) (at a (behind t d)) (value top a (behind t d)) (value-at top n a (behind t d) low))

-- the least height at the place that is replaced is no greater than the new one
least-under : (g : Bool) (n i j : ℕ) (h : ℕ → ℕ) (f : ℕ) → i < n → lowest h (place g n i) + j ≤ f →
    least_at g (put h (place g n i) (nth g (lowest h (place g n i)) f j)) (place g n i) ≤ nth g (lowest h (place g n i)) f j
least-under true n i j h f l few = same (put-here h (n - suc i) (h (suc (n - suc i)) + j))
  where
    same : {v w : ℕ} → v ≡ w → v ≤ w
    same e = omega arith
least-under false n i j h f l few = under (put-else h i (f - j) (suc i) (λ e. omega arith))
  where
    under : {v : ℕ} → v ≡ h (suc i) → v ≤ f - j
    under e = omega arith

pub left-steps : LeftSteps
left-steps legs t top n i h j l few =
    let g = grows t in let p = place g n i in let y = met t top n i h j in let k = put h p y in
    let now : ℕ → ℕ = λ d. cond (is_new g n i d) (taken legs t d (k d)) (whole legs t d (least_at g k d)) in
    let after : ℕ → ℕ = λ d. cond (is_new g n (suc i) d) (taken legs t d (k d)) (whole legs t d (least_at g k d)) in
    sums (sum_of now (below n)) (sum_of after (below n)) (after p) (now p) (taken legs t p y) (whole legs t p (least_at g k p)) (over legs (t +ℤ pos 1) y p)
    (sum_of-other now after n p (place-inside g n i l) (λ d m ne. ap (λ q. cond q (taken legs t d (k d)) (whole legs t d (least_at g k d))) (sym (new-else g n i d l m ne))))
    (ap (λ q. cond q (taken legs t p (k p)) (whole legs t p (least_at g k p))) (new-here g n i l) ∙ ap (taken legs t p) (put-here h p y))
    (ap (λ q. cond q (taken legs t p (k p)) (whole legs t p (least_at g k p))) (old-here g n i l))
    (whole-more legs t p (least_at g k p) y (least-under g n i j h (highest top h p) l few))
  where
    sums : (a b u v w z x : ℕ) → a + u ≡ b + v → u ≡ w → v ≡ z → z ≤ x + w → a ≤ b + x
    sums a b u v w z x e f g m = omega arith

nth-rises : (low high m j : ℕ) → m ≤ j → nth true low high m ≤ nth true low high j
nth-rises low high m j l = omega arith

-- of the least heights at old places only that at the place itself changes, and it rises
least-rises : (g : Bool) (n i m j : ℕ) (h : ℕ → ℕ) (f d : ℕ) → i < n → m ≤ j → d < n → is_new g n i d ≡ false →
    least_at g (put h (place g n i) (nth g (lowest h (place g n i)) f m)) d ≤ least_at g (put h (place g n i) (nth g (lowest h (place g n i)) f j)) d
least-rises true n i m j h f d l le inside old = by (cases_eq d (n - suc i))
  where
    p : ℕ
    p = n - suc i

    both : {u v w x : ℕ} → u ≡ v → w ≡ x → v ≤ x → u ≤ w
    both e f g = omega arith

    by : (d ≡ n - suc i) ⊎ (d ≡ n - suc i → ⊥) → put h (n - suc i) (h (suc (n - suc i)) + m) d ≤ put h (n - suc i) (h (suc (n - suc i)) + j) d
    by (inl e) = both (ap (put h (n - suc i) (h (suc (n - suc i)) + m)) e ∙ put-here h (n - suc i) (h (suc (n - suc i)) + m)) (ap (put h (n - suc i) (h (suc (n - suc i)) + j)) e ∙ put-here h (n - suc i) (h (suc (n - suc i)) + j)) (nth-rises (h (suc (n - suc i))) f m j le)
    by (inr ne) = both (put-else h (n - suc i) (h (suc (n - suc i)) + m) d ne) (put-else h (n - suc i) (h (suc (n - suc i)) + j) d ne) (omega arith)
least-rises false n i m j h f d l le inside old = by (cases_lt d i)
  where
    both : {u v w : ℕ} → u ≡ v → w ≡ v → u ≤ w
    both e f = omega arith

    by : (d < i) ⊎ (i ≤ d) → put h i (f - m) (suc d) ≤ put h i (f - j) (suc d)
    by (inl less) = let on = lt-ltb d i less in absurd (cc)
    by (inr more) = both (put-else h i (f - m) (suc d) (λ e. omega arith)) (put-else h i (f - j) (suc d) (λ e. omega arith))

new-apart : (g : Bool) (n i d : ℕ) → i < n → is_new g n i d ≡ true → d ≡ place g n i → ⊥
new-apart g n i d l new e = let old : is_new g n i d ≡ false = ap (is_new g n i) e ∙ old-here g n i l in cc

pub left-rises : LeftRises
left-rises legs t top n i h m j l le = sum_of-below _ _ 0 n (λ d from far. each d (inside d far) (is_new (grows t) n i d) refl)
  where
    inside : (d : ℕ) → d < 0 + n → d < n
    inside d l = omega arith

    at_met : ℕ → ℕ → ℕ
    at_met m = put h (place (grows t) n i) (met t top n i h m)

    same : {u v w : ℕ} → u ≡ v → w ≡ v → u ≤ w
    same e f = omega arith

    each : (d : ℕ) → d < n → (q : Bool) → is_new (grows t) n i d ≡ q →
        cond q (taken legs t d (at_met m d)) (whole legs t d (least_at (grows t) (at_met m) d)) ≤ cond q (taken legs t d (at_met j d)) (whole legs t d (least_at (grows t) (at_met j) d))
    each d inside true new = same (ap (taken legs t d) (put-else h (place (grows t) n i) (met t top n i h m) d (new-apart (grows t) n i d l new))) (ap (taken legs t d) (put-else h (place (grows t) n i) (met t top n i h j) d (new-apart (grows t) n i d l new)))
    each d inside false old = whole-more legs t d (least_at (grows t) (at_met m) d) (least_at (grows t) (at_met j) d) (least-rises (grows t) n i m j h (highest top h (place (grows t) n i)) d l le inside old)

-- over a place without end nothing is taken
none-over : (legs : Legs) (x m h : ℕ) → has legs.along_z x m ≡ true → upright legs x m h ≡ 0
none-over legs x m h is = by (upright legs x m h) _ (sym (sum_of-last (λ y. cond (has legs.along_z x y) 0 (h - base legs x y)) m) ∙ upright-endless legs x m h is)
  where
    by : (a b : ℕ) → b + a ≡ 0 → a ≡ 0
    by a b e = omega arith

pub left-ends : LeftEnds
left-ends legs t top n b are f low =
    same (sum_of-each (λ d. cond (is_new (grows t) n n d) (taken legs t d (value top b d)) (whole legs t d (least_at (grows t) (value top b) d))) (above legs (t +ℤ pos 1) b) n (λ d l.
    ap (λ q. cond q (taken legs t d (value top b d)) (whole legs t d (least_at (grows t) (value top b) d))) (all-new (grows t) n d l) ∙ by d (nat_lt d b.full) refl)
    ∙ sym (completion-up_to legs (t +ℤ pos 1) b n low.short))
  where
    same : {u v : ℕ} → u ≡ v → u ≤ v
    same e = omega arith

    by : (d : ℕ) (q : Bool) → nat_lt d b.full ≡ q → taken legs t d (cond q top (at b d)) ≡ above legs (t +ℤ pos 1) b d
    by d true e =
        none-over legs (d + x_from (t +ℤ pos 1)) (d + y_from (t +ℤ pos 1)) top (ends-in_leg legs (t +ℤ pos 1) b are f d e)
        ∙ sym (none-over legs (d + x_from (t +ℤ pos 1)) (d + y_from (t +ℤ pos 1)) (at b d) (ends-in_leg legs (t +ℤ pos 1) b are f d e))
    by d false e = refl
