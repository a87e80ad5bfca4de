-- Two rising lists with the same members are equal, and a rising list that is filtered still rises.
use Rattle.std.proofs.Common.{◌≡◌, Bool, true, false, ◌||◌, ◌&&◌, List, [], ◌∷◌, refl, sym, ap, ◌∙◌, arith}
use Rattle.std.specs.Prelude.{cond, filter}
use Rattle.std.specs.List.{list_any}
use Rattle.std.proofs.lemmas.Bool.Decides.{nat_tests}
use Rattle.std.proofs.lemmas.Bool.{or_left}
use Rattle.tv_cells.specs.declared.cell.Cell.{Cell}
use Rattle.tv_cells.specs.Cells.{same, precedes, rises}
use Rattle.tv_cells.proofs.Rising.{Before, before_rising, rises-tail, rises-cons, absent, same_is, same_itself}
use Rattle.tv_cells.proofs.Downward.{cell_is}

before-filter : (q : Cell → Bool) (c : Cell) (cells : List Cell) → Before c cells → Before c (filter q cells)
before-filter q c [] b = tt
before-filter q c (d ∷ cells) b = elim (q d) as (λ v. Before c (cond v (d ∷ filter q cells) (filter q cells))) [ true ↦ (b.0, before-filter q c cells b.1) | false ↦ before-filter q c cells b.1 ]

pub rises-filter : (q : Cell → Bool) (cells : List Cell) → rises cells ≡ true → rises (filter q cells) ≡ true
rises-filter q [] r = refl
rises-filter q (c ∷ cells) r =
    let rest = rises-filter q cells (rises-tail c cells r) in
    elim (q c) as (λ v. rises (cond v (c ∷ filter q cells) (filter q cells)) ≡ true) [ true ↦ rises-cons c (filter q cells) (before-filter q c cells (before_rising c cells r)) rest | false ↦ rest ]

pub same_cell : (c d : Cell) → same c d ≡ true → c ≡ d
same_cell c d e = let p = same_is c d e in cell_is c d p.0 p.1 p.2

any-filter_head : (q : Cell → Bool) (c d : Cell) (now rest : Bool) (s v : Bool) → same c d ≡ s → q d ≡ v → now ≡ (rest && q c) → cond v (s || now) now ≡ ((s || rest) && q c)
any-filter_head q c d now rest true true es ev e = let u : q c ≡ true = ap q (same_cell c d es) ∙ ev in rw u refl
any-filter_head q c d now rest true false es ev e = let u : q c ≡ false = ap q (same_cell c d es) ∙ ev in e ∙ rw u (none rest)
  where
    none : (r : Bool) → (r && false) ≡ false
    none true = refl
    none false = refl
any-filter_head q c d now rest false true es ev e = e
any-filter_head q c d now rest false false es ev e = e

pub any-filter : (q : Cell → Bool) (c : Cell) (cells : List Cell) → list_any (same c) (filter q cells) ≡ (list_any (same c) cells && q c)
any-filter q c [] = refl
any-filter q c (d ∷ cells) = onto (q d) ∙ any-filter_head q c d (list_any (same c) (filter q cells)) (list_any (same c) cells) (same c d) (q d) refl refl (any-filter q c cells)
  where
    onto : (v : Bool) → list_any (same c) (cond v (d ∷ filter q cells) (filter q cells)) ≡ cond v (same c d || list_any (same c) (filter q cells)) (list_any (same c) (filter q cells))
    onto true = refl
    onto false = refl

-- a member of a rising list is its first or comes behind it
pub behind : (c d : Cell) (cells : List Cell) → Before d cells → list_any (same c) cells ≡ true → precedes d c ≡ true
behind c d [] b m = cc
behind c d (e ∷ cells) b m = step (same c e) refl (behind c d cells b.1) m
  where
    step : (v : Bool) → same c e ≡ v → (list_any (same c) cells ≡ true → precedes d c ≡ true) → (v || list_any (same c) cells) ≡ true → precedes d c ≡ true
    step true h rest m = let u : c ≡ e = same_cell c e h in ap (precedes d) u ∙ b.0
    step false h rest m = rest m

pub not_both : (c d : Cell) → precedes c d ≡ true → precedes d c ≡ true → ⊥
not_both c d p q = grind (arith, nat_tests)

heads : (x y : Cell) (xs ys : List Cell) → Before x xs → Before y ys → (same x y || list_any (same x) ys) ≡ true → (same y x || list_any (same y) xs) ≡ true → x ≡ y
heads x y xs ys bx by mx my = step (same x y) (same y x) refl refl mx my
  where
    step : (u v : Bool) → same x y ≡ u → same y x ≡ v → (u || list_any (same x) ys) ≡ true → (v || list_any (same y) xs) ≡ true → x ≡ y
    step true v e f p q = same_cell x y e
    step false true e f p q = sym (same_cell y x f)
    step false false e f p q = absurd (not_both y x (behind x y ys by p) (behind y x xs bx q))

tails : (c x : Cell) (xs ys : List Cell) → Before x xs → Before x ys → (same c x || list_any (same c) xs) ≡ (same c x || list_any (same c) ys) → list_any (same c) xs ≡ list_any (same c) ys
tails c x xs ys bx by e = step (same c x) refl e
  where
    step : (v : Bool) → same c x ≡ v → (v || list_any (same c) xs) ≡ (v || list_any (same c) ys) → list_any (same c) xs ≡ list_any (same c) ys
    step true h e = let u : c ≡ x = same_cell c x h in rw u (absent x xs bx ∙ sym (absent x ys by))
    step false h e = e

pub rising_same : (xs ys : List Cell) → rises xs ≡ true → rises ys ≡ true → ((c : Cell) → list_any (same c) xs ≡ list_any (same c) ys) → xs ≡ ys
rising_same [] [] rx ry same_members = refl
rising_same [] (y ∷ ys) rx ry same_members = absurd (let e = same_members y in let h = or_left (same y y) (list_any (same y) ys) (same_itself y) in let f : false ≡ true = e ∙ h in cc)
rising_same (x ∷ xs) [] rx ry same_members = absurd (let e = same_members x in let h = or_left (same x x) (list_any (same x) xs) (same_itself x) in let f : false ≡ true = sym e ∙ h in cc)
rising_same (x ∷ xs) (y ∷ ys) rx ry same_members =
    let bx = before_rising x xs rx in
    let by = before_rising y ys ry in
    let e : x ≡ y = heads x y xs ys bx by (sym (same_members x) ∙ or_left (same x x) (list_any (same x) xs) (same_itself x)) (same_members y ∙ or_left (same y y) (list_any (same y) ys) (same_itself y)) in
    let by' : Before x ys = rw e by in
    let rest : (c : Cell) → list_any (same c) xs ≡ list_any (same c) ys = λ c. tails c x xs ys bx by' (same_members c ∙ ap (λ (d : Cell). same c d || list_any (same c) ys) (sym e)) in
    let r : xs ≡ ys = rising_same xs ys (rises-tail x xs rx) (rises-tail y ys ry) rest in
    cc
