-- The diagrams are written row by row: what is written and what is left make the whole.
use Rattle.std.proofs.Common.{◌≡◌, ℕ, zero, suc, ◌+◌, ◌-◌, ◌≤◌, ◌<◌, min, List, [], ◌∷◌, ◌++◌, map, arith, refl, sym, ◌∙◌, ap, append_assoc, append-nil}
use Rattle.std.specs.List.{flat_map}
use Rattle.tv_partition.specs.declared.diagram.TheConstants.{MOST_CELLS}
use Rattle.tv_partition.specs.Rows.{IsSmall, size, diagrams, diagrams_within, down_from}
use Rattle.tv_partition.specs.Within.{CanEnd, behind}
use Rattle.tv_partition.proofs.Bounds.{falling_is_diagram}

-- the diagrams whose next row is row, with at most k rows more and left cells with that row
unfoldable pub after : List ℕ → ℕ → ℕ → ℕ → List (List ℕ)
after front k left row = behind (front ++ row ∷ []) (diagrams_within k row (left - row))

behind-map : (front : List ℕ) (row : ℕ) (lists : List (List ℕ)) → behind front (map (λ rows. row ∷ rows) lists) ≡ behind (front ++ row ∷ []) lists
unfolding behind
behind-map front row [] = refl
behind-map front row (a ∷ lists) =
    ap (λ s. s ∷ behind front (map (λ rows. row ∷ rows) lists)) (sym (append_assoc front (row ∷ []) a))
    ∙ ap (λ ss. ((front ++ row ∷ []) ++ a) ∷ ss) (behind-map front row lists)

behind-append : (front : List ℕ) (xs ys : List (List ℕ)) → behind front (xs ++ ys) ≡ behind front xs ++ behind front ys
unfolding behind
behind-append front [] ys = refl
behind-append front (a ∷ xs) ys = ap (λ ss. (front ++ a) ∷ ss) (behind-append front xs ys)

behind-rows : (front : List ℕ) (f : ℕ → List (List ℕ)) (rows : List ℕ) → behind front (flat_map (λ row. map (λ rest. row ∷ rest) (f row)) rows) ≡ flat_map (λ row. behind (front ++ row ∷ []) (f row)) rows
unfolding behind
behind-rows front f [] = refl
behind-rows front f (row ∷ rows) =
    behind-append front (map (λ rest. row ∷ rest) (f row)) (flat_map (λ row. map (λ rest. row ∷ rest) (f row)) rows)
    ∙ (ap (λ ss. ss ++ behind front (flat_map (λ row. map (λ rest. row ∷ rest) (f row)) rows)) (behind-map front row (f row))
    ∙ ap (λ ss. behind (front ++ row ∷ []) (f row) ++ ss) (behind-rows front f rows))

within-suc : (front : List ℕ) (k top n : ℕ) → flat_map (after front k (suc n)) (down_from (min top (suc n))) ≡ behind front (diagrams_within (suc k) top (suc n))
unfolding after diagrams_within
within-suc front k top n = sym (behind-rows front (λ row. diagrams_within k row (suc n - row)) (down_from (min top (suc n))))

-- at the start nothing is written
pub rows-start : (now : List (List ℕ)) (front : List ℕ) (room top left : ℕ) → 0 < room → 0 < left → now ++ flat_map (after front (room - 1) left) (down_from (min top left)) ≡ now ++ behind front (diagrams_within room top left)
rows-start now front zero top left r l = absurd (omega arith)
rows-start now front (suc k) top zero r l = absurd (omega arith)
rows-start now front (suc k) top (suc n) r l =
    let at : suc k - 1 ≡ k = omega arith in
    ap (λ j. now ++ flat_map (after front j (suc n)) (down_from (min top (suc n)))) at ∙ ap (λ ss. now ++ ss) (within-suc front k top n)

pub rows-next : (now before whole : List (List ℕ)) (front : List ℕ) (room left row : ℕ) → 0 < row → now ≡ before ++ behind (front ++ row ∷ []) (diagrams_within room row (left - row)) → before ++ flat_map (after front room left) (down_from row) ≡ whole → now ++ flat_map (after front room left) (down_from (row - 1)) ≡ whole
unfolding after
rows-next now before whole front room left zero p push e = absurd (omega arith)
rows-next now before whole front room left (suc row) p push e =
    let at : suc row - 1 ≡ row = omega arith in
    rw push (append_assoc before (after front room left (suc row)) (flat_map (after front room left) (down_from (suc row - 1)))
    ∙ (ap (λ j. before ++ (after front room left (suc row) ++ flat_map (after front room left) (down_from j))) at ∙ e))

pub rows-end : (now whole : List (List ℕ)) (front : List ℕ) (room left row : ℕ) → row ≡ 0 → now ++ flat_map (after front room left) (down_from row) ≡ whole → now ≡ whole
rows-end now whole front room left row none e =
    sym (append-nil now) ∙ (ap (λ j. now ++ flat_map (after front room left) (down_from j)) (sym none) ∙ e)

-- no cell is left: the rows in front are the one diagram
pub whole-front : (front : List ℕ) (room top left : ℕ) → left ≡ 0 → behind front (diagrams_within room top left) ≡ front ∷ []
unfolding behind diagrams_within
whole-front front zero top left none = rw none (ap (λ s. s ∷ []) (append-nil front))
whole-front front (suc room) top left none = rw none (ap (λ s. s ∷ []) (append-nil front))

-- no row is left for the cells that are
pub no-room : (front : List ℕ) (room top left : ℕ) → room ≡ 0 → 0 < left → behind front (diagrams_within room top left) ≡ []
unfolding behind diagrams_within
no-room front room top zero none l = absurd (omega arith)
no-room front room top (suc left) none l = rw none refl

pub front-ends : (front : List ℕ) (top row : ℕ) → CanEnd front top → 0 < row → row ≤ top → CanEnd (front ++ row ∷ []) row
front-ends front top row ends p l = λ rows falls. rw (append_assoc front (row ∷ []) rows) (ends (row ∷ rows) (p, l, falls))

pub front-small : (front : List ℕ) (top left : ℕ) → CanEnd front top → size front + left ≤ MOST_CELLS → IsSmall front
front-small front top left ends l = (rw append-nil at (ends [] tt), omega arith)

size-append : (xs ys : List ℕ) → size (xs ++ ys) ≡ size xs + size ys
size-append [] ys = omega arith
size-append (x ∷ xs) ys = let rest = size-append xs ys in omega arith

pub size-push : (front : List ℕ) (row : ℕ) → size (front ++ row ∷ []) ≡ size front + row
size-push front row = let sum = size-append front (row ∷ []) in omega arith

-- at the very start
pub nothing-ends : (n : ℕ) → CanEnd [] n
nothing-ends n = λ rows falls. falling_is_diagram n rows falls

pub behind-nothing : (n : ℕ) → behind [] (diagrams_within n n n) ≡ diagrams n
unfolding behind diagrams
behind-nothing n = own (diagrams_within n n n)
  where
    own : (lists : List (List ℕ)) → map (λ rows. [] ++ rows) lists ≡ lists
    own [] = refl
    own (a ∷ lists) = ap (λ ss. a ∷ ss) (own lists)
