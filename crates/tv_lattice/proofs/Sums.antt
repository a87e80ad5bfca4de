-- Sums over two lists, entry by entry: what is left from place k on.
--
-- degree_from hs v k == the degree of the entries from place k on
-- sums_from u v k    == the sums of the entries from place k on
use Rattle.std.specs.Prelude.{◌≡◌, ℕ, suc, ◌+◌, ◌<◌, ◌≤◌, ℤ, pos, ◌+ℤ◌, ◌*ℤ◌, List, [], ◌∷◌, ◌++◌, length, drop, unsigned_abs}
use Rattle.std.proofs.Common.{refl, sym, ap, ◌∙◌, get_or, drop-cons, append_assoc, append-nil, arith, add-one, mul-le-mul, w64, FitsSigned}
use Rattle.std.specs.List.{AllByRecursion}
use Rattle.std.proofs.lemmas.List.{drop_all}
use Rattle.std.proofs.lemmas.Int.{ints, unsigned_abs-mul, fits_signed_from_abs}
use Rattle.tv_spec_plane.specs.Web.{degree_of}
use Rattle.tv_lemmas.specs.Sums.{plus}
use Rattle.tv_lattice.specs.Classes.{IsEntry, IsEntries}

unfoldable pub degree_from : List ℤ → List ℤ → ℕ → ℤ
degree_from hs v k = degree_of (drop k hs) (drop k v)

pub degree_from-first : (hs v : List ℤ) → degree_from hs v 0 ≡ degree_of hs v
unfolding degree_from
degree_from-first hs v = refl

pub degree_from-next : (hs v : List ℤ) (k : ℕ) (total more whole : ℤ) → k < length hs → k < length v → more ≡ total +ℤ (get_or hs k (pos 0) *ℤ get_or v k (pos 0)) → total +ℤ degree_from hs v k ≡ whole → more +ℤ degree_from hs v (k + 1) ≡ whole
unfolding degree_from
degree_from-next hs v k total more whole h l e was =
    let front = rw (drop-cons hs k (pos 0) h, drop-cons v k (pos 0) l) at was in
    rw add-one (omega (arith, ints))

pub degree_from-end : (hs v : List ℤ) (k : ℕ) → length hs ≤ k → degree_from hs v k ≡ pos 0
unfolding degree_from
degree_from-end hs v k h = ap (λ us. degree_of us (drop k v)) (drop_all k hs h)

unfoldable pub sums_from : List ℤ → List ℤ → ℕ → List ℤ
sums_from u v k = plus (drop k u) (drop k v)

pub sums_from-first : (u v : List ℤ) → [] ++ sums_from u v 0 ≡ plus u v
unfolding sums_from
sums_from-first u v = refl

pub sums_from-next : (u v : List ℤ) (k : ℕ) (done more whole : List ℤ) → k < length u → k < length v → more ≡ done ++ (get_or u k (pos 0) +ℤ get_or v k (pos 0)) ∷ [] → done ++ sums_from u v k ≡ whole → more ++ sums_from u v (k + 1) ≡ whole
unfolding sums_from
sums_from-next u v k done more whole h l e was =
    let front = rw (drop-cons u k (pos 0) h, drop-cons v k (pos 0) l) at was in
    rw (add-one, e) (append_assoc done ((get_or u k (pos 0) +ℤ get_or v k (pos 0)) ∷ []) (plus (drop (suc k) u) (drop (suc k) v)) ∙ front)

pub sums_from-end : (u v : List ℤ) (k : ℕ) (done whole : List ℤ) → length u ≤ k → length v ≤ k → done ++ sums_from u v k ≡ whole → done ≡ whole
unfolding sums_from
sums_from-end u v k done whole h l was =
    let none : plus (drop k u) (drop k v) ≡ [] = rw (drop_all k u h, drop_all k v l) refl in
    sym (append-nil done) ∙ (sym (ap (λ s. done ++ s) none) ∙ was)

pub product-limit : (h e : ℤ) → unsigned_abs h ≤ 1000000 → unsigned_abs e ≤ 100000000000 → unsigned_abs (h *ℤ e) ≤ 100000000000000000
product-limit h e small near = rw (unsigned_abs-mul h e) (mul-le-mul small near)

length-plus : (u v : List ℤ) → length u ≡ length v → length (plus u v) ≡ length u
length-plus [] v e = sym e
length-plus (x ∷ u) [] e = refl
length-plus (x ∷ u) (y ∷ v) e = ap suc (length-plus u v (omega arith))

pub sums-entries : (u v : List ℤ) → length u ≡ length v → length u ≤ 64 → AllByRecursion IsEntry (plus u v) → IsEntries (plus u v)
sums-entries u v e few all = record { few = omega (arith, length-plus u v e); small = all }

-- what is small fits a word
pub small-fits : (z : ℤ) → unsigned_abs z ≤ 6400000000000000000 → FitsSigned w64 z
small-fits z h = fits_signed_from_abs w64 z (omega arith)

pub entry-fits : (z : ℤ) → unsigned_abs z ≤ 100000000000 → FitsSigned w64 z
entry-fits z h = small-fits z (omega arith)

pub height-fits : (z : ℤ) → unsigned_abs z ≤ 1000000 → FitsSigned w64 z
height-fits z h = small-fits z (omega arith)
