-- A slice pushed to its neighbours, one after the other.
use Rattle.std.proofs.Common.{◌≡◌, ℕ, zero, suc, ◌+◌, ◌-◌, ◌<◌, ◌≤◌, ℤ, pos, ◌+ℤ◌, Bool, true, false, List, [], ◌∷◌, ◌++◌, length, take, get_or, refl, sym, ◌∙◌, ap, subst, arith}
use Rattle.std.specs.Prelude.{◌&&◌, nat_le}
use Rattle.std.specs.List.{AllByRecursion}
use Rattle.std.proofs.lemmas.Bool.{leb-true}
use Rattle.tv_lemmas.specs.Sums.{sum_of}
use Rattle.tv_lemmas.proofs.Sums.{sum_of-append, sum_of-one}
use Rattle.tv_lemmas.proofs.Members.{all-found, all-filter, all-at}
use Rattle.tv_ring.specs.Operations.{Operations}
use Rattle.tv_cells.specs.declared.legs.Legs.{Legs}
use Rattle.tv_cells.specs.Extras.{bit, AreDiagrams}
use Rattle.tv_spec_slices.specs.Slices.{Shape, fits, interlaces, extras_of, completion, same_shape}
use Rattle.tv_spec_slices.specs.Paths.{fitting, next_of, ways_at}
use Rattle.tv_laws_slices.proofs.Once.{once-all}
use Rattle.tv_laws_slices.proofs.Steps.{completion-step}
use Rattle.tv_laws_slices.proofs.Pushed.{own-shape, listed-often}
use Rattle.tv_slices.specs.declared.row.Row.{Row}
use Rattle.tv_slices.specs.Tables.{known, HasRow, IsTable, given, Pushes, with_one, pushed, with_slice, IsTooMany}
use Rattle.tv_slices.proofs.Numbers.{more-wide}
use Rattle.tv_slices.proofs.Put.{table-same}

-- ---- lists

pub take-next : {X : Type 0} (xs : List X) (i : ℕ) (x : X) → i < length xs → x ≡ get_or xs i x → take (i + 1) xs ≡ take i xs ++ x ∷ []
take-next [] i x l e = absurd (omega arith)
take-next (y ∷ xs) zero x l e = ap (λ z. z ∷ []) (sym e)
take-next (y ∷ xs) (suc i) x l e = let more : suc i + 1 ≡ suc (i + 1) = omega arith in ap (λ n. take n (y ∷ xs)) more ∙ (ap (λ zs. y ∷ zs) (take-next xs i x (omega arith) e))

pub take-whole : {X : Type 0} (xs : List X) (i : ℕ) → length xs ≤ i → take i xs ≡ xs
take-whole [] zero l = refl
take-whole [] (suc i) l = refl
take-whole (x ∷ xs) zero l = absurd (omega arith)
take-whole (x ∷ xs) (suc i) l = ap (λ zs. x ∷ zs) (take-whole xs i (omega arith))

pub sum-take : {X : Type 0} (f : X → ℕ) (xs : List X) (i : ℕ) → sum_of f (take i xs) ≤ sum_of f xs
sum-take f [] zero = omega arith
sum-take f [] (suc i) = omega arith
sum-take f (x ∷ xs) zero = omega arith
sum-take f (x ∷ xs) (suc i) = let rest = sum-take f xs i in omega arith

-- ---- the neighbours

abbrev pub IsBeside : Legs → ℤ → ℕ → Shape → Shape → Type 0
IsBeside legs t m a b = (fits legs (t +ℤ pos 1) b ≡ true) × (extras_of legs (t +ℤ pos 1) b ≤ m) × (interlaces t a b ≡ true)

fitting-suits : (legs : Legs) (t : ℤ) (m : ℕ) → AreDiagrams legs → AllByRecursion (λ a. (fits legs t a ≡ true) × (extras_of legs t a ≤ m)) (fitting legs t m)
fitting-suits legs t m are = all-found (λ a. (fits legs t a ≡ true) × (extras_of legs t a ≤ m)) same_shape own-shape (fitting legs t m) (λ a h. by_test a (fits legs t a) (nat_le (extras_of legs t a) m) refl refl (listed-often a (fitting legs t m) h) (once-all legs t m a are))
  where
    by_test : {n : ℕ} (a : Shape) (p q : Bool) → fits legs t a ≡ p → nat_le (extras_of legs t a) m ≡ q → (n ≡ 0 → ⊥) → n ≡ bit (p && q) → (fits legs t a ≡ true) × (extras_of legs t a ≤ m)
    by_test a true true ep eq ne e = (ep, leb-true (extras_of legs t a) m eq)
    by_test a true false ep eq ne e = absurd (ne e)
    by_test a false q ep eq ne e = absurd (ne e)

pub all-beside : (legs : Legs) (t : ℤ) (m : ℕ) (a : Shape) → AreDiagrams legs → AllByRecursion (IsBeside legs t m a) (next_of legs t a m)
all-beside legs t m a are =
    all-filter (λ b. (fits legs (t +ℤ pos 1) b ≡ true) × (extras_of legs (t +ℤ pos 1) b ≤ m)) (IsBeside legs t m a) (interlaces t a) (λ b q i. (q.0, q.1, i)) (fitting legs (t +ℤ pos 1) m) (fitting-suits legs (t +ℤ pos 1) m are)

pub beside-at : (legs : Legs) (t : ℤ) (m : ℕ) (a b : Shape) (bs : List Shape) (j : ℕ) → AreDiagrams legs → bs ≡ next_of legs t a m → j < length bs → b ≡ get_or bs j b → IsBeside legs t m a b
beside-at legs t m a b bs j are is l e = subst (IsBeside legs t m a) (sym e) (all-at (IsBeside legs t m a) bs b (subst (AllByRecursion (IsBeside legs t m a)) (sym is) (all-beside legs t m a are)) j l)

pub pushes-beside : {A : Type 0} (r : Operations A) (legs : Legs) (k : ℕ) (t : ℤ) (m : ℕ) (a b : Shape) (row : Row A) → AreDiagrams legs → m ≤ k → HasRow r (ways_at legs k t a) (known legs k t a) row → IsBeside legs t m a b →
    Pushes r legs k (t +ℤ pos 1) (ways_at legs k t a) (known legs k t a) row b
pushes-beside r legs k t m a b row are small has beside = record {
  has = has;
  long = kept (completion legs t a) (completion legs (t +ℤ pos 1) b) (extras_of legs (t +ℤ pos 1) b) (completion-step legs t a b are beside.0 beside.2);
  suits = beside.0;
  few = within (extras_of legs (t +ℤ pos 1) b) beside.1;
}
  where
    kept : (p q x : ℕ) → p ≤ x + q → suc k - q ≤ (suc k - p) + x
    kept p q x l = omega arith

    within : (x : ℕ) → x ≤ m → x ≤ k
    within x l = omega arith

-- ---- one after the other

-- with what comes from f to some of them
unfoldable pub partly : Legs → ℤ → (ℕ → ℕ) → List Shape → (Shape → ℕ → ℕ) → Shape → ℕ → ℕ
partly legs t f bs g s c = g s c + sum_of (λ b. given f b (extras_of legs t b) s c) bs

partly-next : (legs : Legs) (t : ℤ) (f : ℕ → ℕ) (bs : List Shape) (b : Shape) (g : Shape → ℕ → ℕ) (s : Shape) (c : ℕ) → with_one legs t f b (partly legs t f bs g) s c ≡ partly legs t f (bs ++ b ∷ []) g s c
unfolding with_one partly
partly-next legs t f bs b g s c =
    let both = sum_of-append (λ b. given f b (extras_of legs t b) s c) bs (b ∷ []) ∙ ap (λ v. sum_of (λ b. given f b (extras_of legs t b) s c) bs + v) (sum_of-one (λ b. given f b (extras_of legs t b) s c) b) in
    sum (g s c) (sum_of (λ b. given f b (extras_of legs t b) s c) bs) (given f b (extras_of legs t b) s c) ∙ ap (λ v. g s c + v) (sym both)
  where
    sum : (u v w : ℕ) → (u + v) + w ≡ u + (v + w)
    sum u v w = omega arith

module _ {A : Type 0} (r : Operations A) (legs : Legs) (k : ℕ) (t u : ℤ) (f : ℕ → ℕ) (g : Shape → ℕ → ℕ) (bs : List Shape) where
  pub partly-start : (rows : List (Shape × Row A)) → IsTable r legs k u g rows → IsTable r legs k u (partly legs u f (take 0 bs) g) rows
  unfolding partly
  partly-start rows table = table-same r legs k u g (partly legs u f [] g) rows (λ s c l. nought (g s c)) table
    where
      nought : (v : ℕ) → v ≡ v + 0
      nought v = omega arith

  pub partly-more : (j : ℕ) (b : Shape) (rows : List (Shape × Row A)) → j < length bs → b ≡ get_or bs j b → IsTable r legs k u (with_one legs u f b (partly legs u f (take j bs) g)) rows → IsTable r legs k u (partly legs u f (take (j + 1) bs) g) rows
  partly-more j b rows l e table =
      table-same r legs k u (with_one legs u f b (partly legs u f (take j bs) g)) (partly legs u f (take (j + 1) bs) g) rows (λ s c m. partly-next legs u f (take j bs) b g s c ∙ ap (λ cs. partly legs u f cs g s c) (sym (take-next bs j b l e))) table

  partly-below : (j : ℕ) (s : Shape) (c : ℕ) → partly legs u f (take j bs) g s c ≤ partly legs u f bs g s c
  unfolding partly
  partly-below j s c = let l = sum-take (λ b. given f b (extras_of legs u b) s c) bs j in omega arith

  pub partly-wide : (j : ℕ) (b : Shape) → j < length bs → b ≡ get_or bs j b → IsTooMany r legs k u (with_one legs u f b (partly legs u f (take j bs) g)) → IsTooMany r legs k u (partly legs u f bs g)
  partly-wide j b l e wide = record {
    slice = wide.slice;
    cost = wide.cost;
    suits = wide.suits;
    kept = wide.kept;
    beyond = more-wide (with_one legs u f b (partly legs u f (take j bs) g) wide.slice wide.cost) (partly legs u f bs g wide.slice wide.cost) (r.size r.unit)
        (subst (λ v. v ≤ partly legs u f bs g wide.slice wide.cost) (sym (partly-next legs u f (take j bs) b g wide.slice wide.cost ∙ ap (λ cs. partly legs u f cs g wide.slice wide.cost) (sym (take-next bs j b l e)))) (partly-below (j + 1) wide.slice wide.cost)) wide.beyond;
  }

pub partly-whole : (legs : Legs) (k : ℕ) (t : ℤ) (m : ℕ) (a : Shape) (bs : List Shape) (g : Shape → ℕ → ℕ) → bs ≡ next_of legs t a m → partly legs (t +ℤ pos 1) (ways_at legs k t a) bs g ≡ with_slice legs k t m a g
unfolding partly with_slice pushed
partly-whole legs k t m a bs g e = rw e refl
