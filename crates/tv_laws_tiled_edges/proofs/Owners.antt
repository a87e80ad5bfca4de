-- What is true of each pair of points and of the owners of one, and so of each compact edge.
use Rattle.std.proofs.Common.{◌≡◌, ◌≢◌, ℕ, zero, suc, ◌+◌, ◌-◌, ◌<◌, ◌≤◌, List, [], ◌∷◌, map, filter, Bool, true, false, cond, refl, arith}
use Rattle.std.specs.Prelude.{Option, Some, None, ⊤}
use Rattle.std.specs.List.{filter_map, cons_option, AllByRecursion, range_with_len}
use Rattle.tv_lemmas.proofs.Members.{all-flat_map, all-any}
use Rattle.tv_spec_plane.specs.Web.{pairs}

abbrev AreApart : ℕ × ℕ → Type 0
AreApart p = p.0 ≢ p.1

row_apart : (a k n : ℕ) → a < k → AllByRecursion AreApart (map (λ b. (a, b)) (range_with_len k n))
row_apart a k zero l = tt
row_apart a k (suc n) l = ((λ e. omega arith), row_apart a (k + 1) n (omega arith))

pairs_apart : (n : ℕ) → AllByRecursion AreApart (pairs n)
pairs_apart n =
    all-flat_map (λ (a : ℕ). ⊤) AreApart (λ a. map (λ b. (a, b)) (range_with_len (suc a) (n - suc a))) (λ a none. row_apart a (suc a) (n - suc a) (omega arith)) (range_with_len 0 n)
    (all-any (λ (a : ℕ). ⊤) (λ a. tt) (range_with_len 0 n))

-- ---- numbers that pass a test rise
abbrev pub Rising : (ℕ → Bool) → ℕ → ℕ → List ℕ → Type 0
Rising test low top [] = ⊤
Rising test low top (k ∷ ks) = (low ≤ k) × (k < top) × (test k ≡ true) × Rising test (k + 1) top ks

rising-lower : (test : ℕ → Bool) (low top : ℕ) (ks : List ℕ) → Rising test (low + 1) top ks → Rising test low top ks
rising-lower test low top [] h = tt
rising-lower test low top (k ∷ ks) h = (omega (arith, h.0), h.1, h.2, h.3)

rising_step : (test : ℕ → Bool) (k top : ℕ) (ks : List ℕ) (b : Bool) → test k ≡ b → k < top → Rising test (k + 1) top ks → Rising test k top (cond b (k ∷ ks) ks)
rising_step test k top ks true e l h = (omega arith, l, e, h)
rising_step test k top ks false e l h = rising-lower test k top ks h

pub rising_filter : (test : ℕ → Bool) (k n top : ℕ) → k + n ≤ top → Rising test k top (filter test (range_with_len k n))
rising_filter test k zero top l = tt
rising_filter test k (suc n) top l = rising_step test k top (filter test (range_with_len (k + 1) n)) (test k) refl (omega arith) (rising_filter test (k + 1) n top (omega arith))

-- ---- through what gives a value or none
abbrev pub Gives : {A : Type 0} → (A → Type 0) → Option A → Type 0
Gives P None = ⊤
Gives P (Some x) = P x

gives_step : {A : Type 0} (P : A → Type 0) (o : Option A) (xs : List A) → Gives P o → AllByRecursion P xs → AllByRecursion P (cons_option o xs)
gives_step P None xs h all = all
gives_step P (Some x) xs h all = (h, all)

each_filter_map : {A B : Type 0} (Q : A → Type 0) (P : B → Type 0) (f : A → Option B) → ((x : A) → Q x → Gives P (f x)) → (xs : List A) → AllByRecursion Q xs → AllByRecursion P (filter_map f xs)
each_filter_map Q P f here [] all = tt
each_filter_map Q P f here (x ∷ xs) all = gives_step P (f x) (filter_map f xs) (here x all.0) (each_filter_map Q P f here xs all.1)

pub each_pair : {B : Type 0} (P : B → Type 0) (f : ℕ × ℕ → Option B) → ((a b : ℕ) → a ≢ b → Gives P (f (a, b))) → (n : ℕ) → AllByRecursion P (filter_map f (pairs n))
each_pair P f here n = each_filter_map AreApart P f (λ p apart. here p.0 p.1 apart) (pairs n) (pairs_apart n)
