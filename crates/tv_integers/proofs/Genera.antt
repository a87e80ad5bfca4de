-- A value put at the place of its genus.
use Rattle.std.proofs.Common.{◌≡◌, ℕ, zero, suc, ◌+◌, ◌<◌, ◌≤◌, true, false, nat_eq, nat_lt, List, [], ◌∷◌, length, set, slice_get, refl, sym, ◌∙◌, ap, arith}
use Rattle.std.specs.List.{insert}
use Rattle.tv_laws_series.proofs.NormalForm.{bool_cases}
use Rattle.tv_integers.specs.declared.genus_value.GenusValue.{GenusValue}
use Rattle.tv_integers.specs.Places.{genus_place, has_genus}
use Rattle.tv_integers.specs.Rows.{put_value}

after_less : (m n : ℕ) → nat_lt m n ≡ true → (nat_lt n m ≡ false) × (nat_eq n m ≡ false)
after_less m n h = (grind arith, grind arith)

same : (m n : ℕ) → nat_eq m n ≡ true → (nat_lt n m ≡ false) × (nat_eq n m ≡ true)
same m n h = (grind arith, grind arith)

not_same : (m n : ℕ) → nat_lt m n ≡ false → nat_eq m n ≡ false → nat_lt n m ≡ true
not_same m n h k = grind arith

place_zero : (g : ℕ) (x : GenusValue) (gs : List GenusValue) → 0 ≡ genus_place g (x ∷ gs) → nat_lt x.genus g ≡ false
place_zero g x gs e = bool_cases (nat_lt x.genus g) (λ t. absurd (let k = rw t at e in omega arith)) (λ f. f)

place_next : (g : ℕ) (x : GenusValue) (gs : List GenusValue) (p : ℕ) → suc p ≡ genus_place g (x ∷ gs) → (nat_lt x.genus g ≡ true) × (p ≡ genus_place g gs)
place_next g x gs p e = bool_cases (nat_lt x.genus g) (λ t. (t, let k = rw t at e in omega arith)) (λ f. absurd (let k = rw f at e in omega arith))

pub put-there : (g : GenusValue) (gs : List GenusValue) (p : ℕ) → p ≡ genus_place g.genus gs → has_genus g.genus (slice_get gs p) ≡ true → put_value g gs ≡ set gs p g
put-there g [] p e there = absurd (cc)
put-there g (x ∷ gs) zero e there = let s = same x.genus g.genus there in rw (s.0, s.1) refl
put-there g (x ∷ gs) (suc p) e there =
    let next = place_next g.genus x gs p e in let s = after_less x.genus g.genus next.0 in
    rw (s.0, s.1) (ap (λ zs. x ∷ zs) (put-there g gs p next.1 there))

pub put-between : (g : GenusValue) (gs : List GenusValue) (p : ℕ) → p ≡ genus_place g.genus gs → has_genus g.genus (slice_get gs p) ≡ false → put_value g gs ≡ insert gs p g
put-between g [] p e there = rw e refl
put-between g (x ∷ gs) zero e there = let l = not_same x.genus g.genus (place_zero g.genus x gs e) there in rw l refl
put-between g (x ∷ gs) (suc p) e there =
    let next = place_next g.genus x gs p e in let s = after_less x.genus g.genus next.0 in
    rw (s.0, s.1) (ap (λ zs. x ∷ zs) (put-between g gs p next.1 there))

pub there_within : (g : ℕ) (gs : List GenusValue) (p : ℕ) → has_genus g (slice_get gs p) ≡ true → p < length gs
there_within g [] p there = absurd (cc)
there_within g (x ∷ gs) zero there = omega arith
there_within g (x ∷ gs) (suc p) there = let h = there_within g gs p there in omega arith

pub place_length : (g : ℕ) (gs : List GenusValue) → genus_place g gs ≤ length gs
place_length g [] = omega arith
place_length g (x ∷ gs) = bool_cases (nat_lt x.genus g) (λ t. let l = place_length g gs in rw t (omega arith)) (λ f. rw f (omega arith))
