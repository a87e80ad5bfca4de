-- The assignments are written edge by edge: what is written and what is left make the whole.
use Rattle.std.proofs.Common.{◌≡◌, ℕ, suc, ◌+◌, ◌-◌, ◌*◌, ◌≤◌, ◌<◌, Bool, true, false, cond, List, [], ◌∷◌, ◌++◌, map, length, drop, get_or, arith, refl, sym, ◌∙◌, ap, append_assoc, append-nil}
use Rattle.std.specs.Prelude.{nat_le}
use Rattle.std.specs.List.{flat_map, range_with_len}
use Rattle.std.proofs.Math.Seq.{drop-cons}
use Rattle.std.proofs.lemmas.List.{drop_all, get_or_read}
use Rattle.tv_spec_plane.specs.Web.{Web, below}
use Rattle.tv_web.proofs.Finding.{range_with_len-step, range_with_len-end}
use Rattle.tv_partition.specs.Rows.{diagrams}
use Rattle.tv_spec_boxes.specs.Assignments.{Rows, Assignment, choices, assignments}
use Rattle.tv_lemmas.proofs.Lists.{flat_map-same, flat_map-filter}
use Rattle.tv_assignment.specs.Listing.{behind, sized, degrees_of, AreSizes}

behind-next : (front : List Rows) (rows : Rows) (lists : List Assignment) → behind front (map (λ a. rows ∷ a) lists) ≡ behind (front ++ rows ∷ []) lists
unfolding behind
behind-next front rows [] = refl
behind-next front rows (a ∷ lists) = ap (λ s. s ∷ behind front (map (λ a. rows ∷ a) lists)) (sym (append_assoc front (rows ∷ []) a)) ∙ ap (λ ss. ((front ++ rows ∷ []) ++ a) ∷ ss) (behind-next front rows lists)

behind-append : (front : List Rows) (xs ys : List Assignment) → behind front (xs ++ ys) ≡ behind front xs ++ behind front ys
unfolding behind
behind-append front [] ys = refl
behind-append front (a ∷ xs) ys = ap (λ ss. (front ++ a) ∷ ss) (behind-append front xs ys)

behind-pieces : {A : Type 0} (front : List Rows) (f : A → List Assignment) (xs : List A) → behind front (flat_map f xs) ≡ flat_map (λ x. behind front (f x)) xs
unfolding behind
behind-pieces front f [] = refl
behind-pieces front f (x ∷ xs) = behind-append front (f x) (flat_map f xs) ∙ ap (λ ss. behind front (f x) ++ ss) (behind-pieces front f xs)

behind-cond : (front : List Rows) (b : Bool) (xs ys : List Assignment) → behind front xs ≡ ys → behind front (cond b xs []) ≡ cond b ys []
unfolding behind
behind-cond front true xs ys e = e
behind-cond front false xs ys e = refl

-- the diagrams of one size
behind-sized : (front : List Rows) (gs : List ℕ) (d g n : ℕ) → behind front (cond (nat_le (n * g) d) (flat_map (λ rows. map (λ a. rows ∷ a) (choices gs (d - (n * g)))) (diagrams n)) []) ≡ sized front gs d g n
unfolding sized
behind-sized front gs d g n =
    behind-cond front (nat_le (n * g) d) (flat_map (λ rows. map (λ a. rows ∷ a) (choices gs (d - (n * g)))) (diagrams n)) (flat_map (λ rows. behind (front ++ rows ∷ []) (choices gs (d - (n * g)))) (diagrams n))
    (behind-pieces front (λ rows. map (λ a. rows ∷ a) (choices gs (d - (n * g)))) (diagrams n)
    ∙ flat_map-same (λ rows. behind front (map (λ a. rows ∷ a) (choices gs (d - (n * g))))) (λ rows. behind (front ++ rows ∷ []) (choices gs (d - (n * g)))) (λ rows. behind-next front rows (choices gs (d - (n * g)))) (diagrams n))

choices-next : (front : List Rows) (g : ℕ) (gs : List ℕ) (d : ℕ) → behind front (choices (g ∷ gs) d) ≡ flat_map (sized front gs d g) (below (suc d))
unfolding choices
choices-next front g gs d =
    ap (behind front) (flat_map-filter (λ n. nat_le (n * g) d) (λ n. flat_map (λ rows. map (λ a. rows ∷ a) (choices gs (d - (n * g)))) (diagrams n)) (below (suc d)))
    ∙ (behind-pieces front (λ n. cond (nat_le (n * g) d) (flat_map (λ rows. map (λ a. rows ∷ a) (choices gs (d - (n * g)))) (diagrams n)) []) (below (suc d))
    ∙ flat_map-same (λ n. behind front (cond (nat_le (n * g) d) (flat_map (λ rows. map (λ a. rows ∷ a) (choices gs (d - (n * g)))) (diagrams n)) [])) (sized front gs d g) (behind-sized front gs d g) (below (suc d)))

-- size by size
pub sizes-first : (now : List Assignment) (front : List Rows) (g : ℕ) (gs degrees : List ℕ) (d : ℕ) → degrees ≡ g ∷ gs → now ++ flat_map (sized front gs d g) (range_with_len 0 ((d + 1) - 0)) ≡ now ++ behind front (choices degrees d)
sizes-first now front g gs degrees d e =
    let count : (d + 1) - 0 ≡ suc d = omega arith in
    ap (λ n. now ++ flat_map (sized front gs d g) (range_with_len 0 n)) count ∙ ap (λ ss. now ++ ss) (sym (ap (λ ds. behind front (choices ds d)) e ∙ choices-next front g gs d))

pub sizes-next : (now next whole : List Assignment) (front : List Rows) (g : ℕ) (gs : List ℕ) (d n : ℕ) → n < d + 1 → next ≡ now ++ sized front gs d g n → now ++ flat_map (sized front gs d g) (range_with_len n ((d + 1) - n)) ≡ whole → next ++ flat_map (sized front gs d g) (range_with_len (n + 1) ((d + 1) - (n + 1))) ≡ whole
sizes-next now next whole front g gs d n h pushed before =
    rw pushed (append_assoc now (sized front gs d g n) (flat_map (sized front gs d g) (range_with_len (n + 1) ((d + 1) - (n + 1))))
    ∙ (sym (ap (λ is. now ++ flat_map (sized front gs d g) is) (range_with_len-step n (d + 1) h)) ∙ before))

pub sizes-last : (now whole : List Assignment) (front : List Rows) (g : ℕ) (gs : List ℕ) (d n : ℕ) → d + 1 ≤ n → now ++ flat_map (sized front gs d g) (range_with_len n ((d + 1) - n)) ≡ whole → now ≡ whole
sizes-last now whole front g gs d n h before = sym (append-nil now) ∙ (sym (ap (λ is. now ++ flat_map (sized front gs d g) is) (range_with_len-end n (d + 1) h)) ∙ before)

-- diagram by diagram
unfoldable pub each_behind : List Rows → List ℕ → ℕ → List Rows → List Assignment
each_behind front gs left ds = flat_map (λ rows. behind (front ++ rows ∷ []) (choices gs left)) ds

pub sized-none : (front : List Rows) (gs : List ℕ) (d g n : ℕ) → nat_le (n * g) d ≡ false → sized front gs d g n ≡ []
unfolding sized
sized-none front gs d g n e = rw e refl

pub diagrams-first : (now : List Assignment) (front : List Rows) (gs : List ℕ) (d g n left : ℕ) → nat_le (n * g) d ≡ true → left ≡ d - n * g → now ++ each_behind front gs left (drop 0 (diagrams n)) ≡ now ++ sized front gs d g n
unfolding sized each_behind
diagrams-first now front gs d g n left e is = rw (e, is) refl

pub diagrams-next : (now next whole : List Assignment) (front : List Rows) (gs : List ℕ) (left k : ℕ) (ds : List Rows) (rows : Rows) → k < length ds → rows ≡ get_or ds k [] → next ≡ now ++ behind (front ++ rows ∷ []) (choices gs left) → now ++ each_behind front gs left (drop k ds) ≡ whole → next ++ each_behind front gs left (drop (k + 1) ds) ≡ whole
unfolding each_behind
diagrams-next now next whole front gs left k ds rows h is pushed before =
    let up : k + 1 ≡ suc k = omega arith in
    rw (up, pushed) (append_assoc now (behind (front ++ rows ∷ []) (choices gs left)) (flat_map (λ rows. behind (front ++ rows ∷ []) (choices gs left)) (drop (suc k) ds))
    ∙ (ap (λ r. now ++ (behind (front ++ r ∷ []) (choices gs left) ++ flat_map (λ rows. behind (front ++ rows ∷ []) (choices gs left)) (drop (suc k) ds))) is
    ∙ (sym (ap (λ ss. now ++ flat_map (λ rows. behind (front ++ rows ∷ []) (choices gs left)) ss) (drop-cons ds k [] h)) ∙ before)))

pub diagrams-last : (now whole : List Assignment) (front : List Rows) (gs : List ℕ) (left k : ℕ) (ds : List Rows) → length ds ≤ k → now ++ each_behind front gs left (drop k ds) ≡ whole → now ≡ whole
unfolding each_behind
diagrams-last now whole front gs left k ds h before = sym (append-nil now) ∙ (sym (ap (λ ss. now ++ flat_map (λ rows. behind (front ++ rows ∷ []) (choices gs left)) ss) (drop_all k ds h)) ∙ before)

-- no edge is left: the front is the one assignment
pub whole-front : (front : List Rows) (degrees : List ℕ) (d : ℕ) → length degrees ≡ 0 → behind front (choices degrees d) ≡ front ∷ []
unfolding behind choices
whole-front front [] d none = ap (λ s. s ∷ []) (append-nil front)
whole-front front (g ∷ gs) d none = absurd (omega arith)

pub behind-nothing : (lists : List Assignment) → behind [] lists ≡ lists
unfolding behind
behind-nothing [] = refl
behind-nothing (a ∷ lists) = ap (λ ss. a ∷ ss) (behind-nothing lists)

pub size_read : (sizes : List ℕ) (k x : ℕ) → k < length sizes → x ≡ get_or sizes k x → AreSizes sizes → x ≡ k
size_read sizes k x h read are = get_or_read sizes k x h read 0 ∙ are k h

-- at the very start
pub written-all : (d : ℕ) (all start : List Assignment) (front : List Rows) (degrees : List ℕ) → start ≡ [] → front ≡ [] → all ≡ start ++ behind front (choices degrees d) → all ≡ choices degrees d
written-all d all start front degrees es ef written = written ∙ rw (es, ef) (behind-nothing (choices degrees d))

pub all-assignments : (w : Web) (d : ℕ) (all : List Assignment) (degrees : List ℕ) → degrees ≡ degrees_of w → all ≡ choices degrees d → all ≡ assignments w d
unfolding assignments
all-assignments w d all degrees ed is = is ∙ ap (λ gs. choices gs d) ed
