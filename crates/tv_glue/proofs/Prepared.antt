-- What is asked for at all corners is kept: corner by corner, assignment by assignment, and entry by entry.
use Rattle.std.proofs.Common.{◌≡◌, ℕ, zero, suc, ◌+◌, ◌<◌, ◌≤◌, Bool, true, false, cond, List, [], ◌∷◌, ◌++◌, length, get_or, refl, sym, ◌∙◌, ap, subst, inl, inr, arith, le_trans, append_assoc, append-nil}
use Rattle.std.specs.Prelude.{ℤ, pos, ◌+ℤ◌, ◌-ℤ◌, ◌≤ℤ◌, ◌⊎◌, Contains, slice_get, Some, None, Option, IsSomeAnd}
use Rattle.std.specs.Map.{lookup}
use Rattle.std.proofs.lemmas.Int.{ints}
use Rattle.std.proofs.lemmas.List.{get_or_read}
use Rattle.tv_ring.specs.Operations.{Operations}
use Rattle.tv_laws_series.specs.Terms.{Terms}
use Rattle.tv_spec_plane.specs.Web.{Web}
use Rattle.tv_cells.specs.declared.legs.Legs.{Legs}
use Rattle.tv_spec_boxes.specs.Assignments.{Assignment, assignments, all_legs, no_legs, edge_costs, overlaps_of}
use Rattle.tv_lemmas.proofs.Members.{all-onto, contains-head, contains-later}
use Rattle.tv_lattice.proofs.Each.{each_push}
use Rattle.tv_images.specs.Least.{least}
use Rattle.tv_glue.specs.declared.asked.Most.{Most}
use Rattle.tv_glue.specs.Asked.{Asks, AsksMore, AsksFor, AsksForAll, KeepsFor, KeepsAll}
use Rattle.tv_assigned_series.specs.Kept.{same, Keeps, KeepsMore}
use Rattle.tv_assigned_series.specs.Terms.{IsCornerFrom}
use Rattle.tv_assigned_series.proofs.Inserted.{same-legs}

below-next : (j i : ℕ) → j < i + 1 → (j < i) ⊎ (j ≡ i)
below-next zero zero h = inr refl
below-next zero (suc i) h = inl (omega arith)
below-next (suc j) zero h = absurd (omega arith)
below-next (suc j) (suc i) h = elim (below-next j i (omega arith)) [
  | inl less ↦ inl (omega arith)
  | inr same-one ↦ inr (ap suc same-one)
]

asks-fewer : (es : List (Legs × Most)) (q : Legs) (m k : ℕ) → k ≤ m → Asks q m es → Asks q k es
asks-fewer es q m k less asked = fewer (lookup (same q) es) asked
  where
    fewer : (o : Option Most) → IsSomeAnd o (λ u. m ≤ u.boxes) → IsSomeAnd o (λ u. k ≤ u.boxes)
    fewer None h = absurd h
    fewer (Some u) h = le_trans less h

-- the boxes are asked for at each of the first corners
abbrev pub AsksUpTo : List Legs → ℕ → List (Legs × Most) → ℕ → Type 0
AsksUpTo legs boxes es i = (j : ℕ) → j < i → (q : Legs) → get_or legs j q ≡ q → Asks (least q) boxes es

pub asks-next : (legs : List Legs) (boxes i : ℕ) (es new : List (Legs × Most)) (corner : Legs) → i < length legs → corner ≡ get_or legs i corner → AsksMore es new → Asks (least corner) boxes new → AsksUpTo legs boxes es i → AsksUpTo legs boxes new (i + 1)
asks-next legs boxes i es new corner within at more here before j h q is = elim (below-next j i h) [
  | inl less ↦ more (least q) boxes (before j less q is)
  | inr one ↦ subst (λ l. Asks (least l) boxes new) (get_or_read legs i corner within at q ∙ (ap (λ m. get_or legs m q) (sym one) ∙ is)) here
]

-- all boxes that are left are asked for at all corners
pub asks-for : (w : Web) (n : ℤ) (a : Assignment) (es : List (Legs × Most)) (legs : List Legs) (start : ℤ) (left : ℕ) → legs ≡ all_legs w a (no_legs w) → start ≡ edge_costs w a -ℤ pos (overlaps_of legs) → start +ℤ pos left ≡ n → AsksUpTo legs left es (length legs) → AsksFor w n a es
asks-for w n a es legs start left are begins ends each q k among far =
    let listed = subst (λ ls. Contains ls q) (sym are) among in
    asks-fewer es (least q) left k (within (edge_costs w a) (pos (overlaps_of (all_legs w a (no_legs w)))) (begins ∙ ap (λ ls. edge_costs w a -ℤ pos (overlaps_of ls)) are) far) (each listed.0 listed.1 q listed.2)
  where
    within : (costs overlaps : ℤ) → start ≡ costs -ℤ overlaps → pos k ≤ℤ ((n -ℤ costs) +ℤ overlaps) → k ≤ left
    within costs overlaps e h = omega (arith, ints)

pub still-all : (w : Web) (n : ℤ) (all : List Assignment) (es new : List (Legs × Most)) → AsksMore es new → AsksForAll w n all es → AsksForAll w n all new
still-all w n all es new more before = all-onto (λ (a : Assignment). AsksFor w n a es) (λ (a : Assignment). AsksFor w n a new) (λ a asks q m at far. more (least q) m (asks q m at far)) all before

-- assignment by assignment
pub asks-one-more : (w : Web) (n : ℤ) (front : List Assignment) (a : Assignment) (es : List (Legs × Most)) → AsksFor w n a es → AsksForAll w n front es → AsksForAll w n (front ++ a ∷ []) es
asks-one-more w n front a es here before = each_push (λ (b : Assignment). AsksFor w n b es) front a before here

-- so it is for the assignments that are gone, where the others are still coming
pub record AsksSoFar (w : Web) (d : ℕ) (n : ℤ) (coming : List Assignment) (es : List (Legs × Most)) : Type 0 where
  pub front : List Assignment
  pub split : front ++ coming ≡ assignments w d
  pub all : AsksForAll w n front es

pub none-gone : (w : Web) (d : ℕ) (n : ℤ) (coming : List Assignment) (es : List (Legs × Most)) → coming ≡ assignments w d → AsksSoFar w d n coming es
none-gone w d n coming es is = record { front = []; split = is; all = tt }

pub one-listed : (w : Web) (d : ℕ) (n : ℤ) (coming later : List Assignment) (a : Assignment) (es : List (Legs × Most)) → coming ≡ a ∷ later → AsksSoFar w d n coming es → Contains (assignments w d) a
one-listed w d n coming later a es next so_far = subst (λ all. Contains all a) (ap (λ c. so_far.front ++ c) (sym next) ∙ so_far.split) (inside so_far.front)
  where
    inside : (front : List Assignment) → Contains (front ++ a ∷ later) a
    inside [] = contains-head a a later refl
    inside (b ∷ front) = contains-later a b (front ++ a ∷ later) (inside front)

pub one-gone : (w : Web) (d : ℕ) (n : ℤ) (coming later : List Assignment) (a : Assignment) (es new : List (Legs × Most)) → coming ≡ a ∷ later → AsksMore es new → AsksFor w n a new → AsksSoFar w d n coming es → AsksSoFar w d n later new
one-gone w d n coming later a es new next more here so_far = record {
  front = so_far.front ++ a ∷ [];
  split = append_assoc so_far.front (a ∷ []) later ∙ (ap (λ c. so_far.front ++ c) (sym next) ∙ so_far.split);
  all = asks-one-more w n so_far.front a new here (still-all w n so_far.front es new more so_far.all);
}

pub all-gone : (w : Web) (d : ℕ) (n : ℤ) (coming : List Assignment) (es : List (Legs × Most)) → coming ≡ [] → AsksSoFar w d n coming es → AsksForAll w n (assignments w d) es
all-gone w d n coming es none so_far = subst (λ all. AsksForAll w n all es) (sym (append-nil so_far.front) ∙ (ap (λ c. so_far.front ++ c) (sym none) ∙ so_far.split)) so_far.all

abbrev StandsIn : List (Legs × Most) → Legs → Most → Type 0
StandsIn es q m = (i : ℕ) × (i < length es) × (slice_get es i ≡ Some (q, m))

looked-up : (es : List (Legs × Most)) (q : Legs) (m : Most) → lookup (same q) es ≡ Some m → StandsIn es q m
looked-up [] q m found = absurd (let e : None ≡ Some m = found in cc)
looked-up (e ∷ es) q m found = decided (same q e.0) refl (looked-up es q m) found
  where
    decided : (b : Bool) → same q e.0 ≡ b → (lookup (same q) es ≡ Some m → StandsIn es q m) → cond b (Some e.1) (lookup (same q) es) ≡ Some m → StandsIn (e ∷ es) q m
    decided true is rest at =
        let key : q ≡ e.0 = same-legs q e.0 is in
        let value : e.1 ≡ m = let both : Some e.1 ≡ Some m = at in cc in
        (0, omega arith, ap (λ l. Some (l, e.1)) (sym key) ∙ ap (λ v. Some (q, v)) value)
    decided false is rest at = let later = rest at in (suc later.0, omega (arith, later.1), later.2)

module _ {A : Type 0} (r : Operations A) where
  keeps-fewer : (ss : List (Legs × Terms A)) (q : Legs) (m k : ℕ) → k ≤ m → Keeps r q m ss → Keeps r q k ss
  keeps-fewer ss q m k less kept = fewer (lookup (same q) ss) kept
    where
      fewer : (o : Option (Terms A)) → IsSomeAnd o (IsCornerFrom r q m) → IsSomeAnd o (IsCornerFrom r q k)
      fewer None h = absurd h
      fewer (Some s) h = (h.0, le_trans less h.1, h.2)

  -- what the first entries ask for is kept
  abbrev pub KeptUpTo : List (Legs × Most) → List (Legs × Terms A) → ℕ → Type 0
  KeptUpTo es ss i = (j : ℕ) → j < i → (q : Legs) (m : Most) → slice_get es j ≡ Some (q, m) → Keeps r q m.boxes ss

  pub kept-next : (es : List (Legs × Most)) (ss new : List (Legs × Terms A)) (i : ℕ) (legs : Legs) (most : Most) → slice_get es i ≡ Some (legs, most) → KeepsMore r ss new → Keeps r legs most.boxes new → KeptUpTo es ss i → KeptUpTo es new (i + 1)
  kept-next es ss new i legs most read more here before j h q m at = elim (below-next j i h) [
    | inl less ↦ more q m.boxes (before j less q m at)
    | inr one ↦
        let both : Some (legs, most) ≡ Some (q, m) = sym read ∙ (ap (slice_get es) (sym one) ∙ at) in
        let pair : (legs, most) ≡ (q, m) = cc in
        subst (λ (p : Legs × Most). Keeps r p.0 p.1.boxes new) pair here
  ]

  pub kept-all : (w : Web) (d : ℕ) (n : ℤ) (es : List (Legs × Most)) (ss : List (Legs × Terms A)) → AsksForAll w n (assignments w d) es → KeptUpTo es ss (length es) → KeepsAll r w d n ss
  kept-all w d n es ss asks kept = all-onto (λ (a : Assignment). AsksFor w n a es) (λ (a : Assignment). KeepsFor r w n a ss) (λ a asked q k among far. found q k (lookup (same (least q)) es) refl (asked q k among far)) (assignments w d) asks
    where
      found : (q : Legs) (k : ℕ) (o : Option Most) → lookup (same (least q)) es ≡ o → IsSomeAnd o (λ m. k ≤ m.boxes) → Keeps r (least q) k ss
      found q k None e asked = absurd asked
      found q k (Some m) e asked = let at = looked-up es (least q) m e in keeps-fewer ss (least q) m.boxes k asked (kept at.0 at.1 (least q) m at.2)
