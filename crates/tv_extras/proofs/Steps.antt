-- Each step of the search keeps the sets to come, and what is known of the open choices, and leaves fewer steps.
use Rattle.std.proofs.Common.{◌≡◌, ℕ, suc, zero, ◌+◌, ◌-◌, ◌<◌, ◌≤◌, Bool, true, false, List, [], ◌∷◌, ◌++◌, length, drop, get_or, arith, refl, sym, ◌∙◌, ap, subst, append_assoc, append-nil, length-drop}
use Rattle.std.specs.Prelude.{cond, reverse}
use mathlib.Core.Bool.{not}
use Rattle.std.proofs.lemmas.List.{reverse-append, reverse-reverse, drop_all, drop_more, length_push, nil_from_length}
use Rattle.tv_cells.specs.declared.cell.Cell.{Cell}
use Rattle.tv_cells.specs.declared.legs.Legs.{Legs}
use Rattle.tv_cells.specs.Cells.{rises}
use Rattle.tv_cells.specs.Extras.{is_extras}
use Rattle.tv_cells.specs.Cuts.{extras_after, enters, leaves_gap}
use Rattle.tv_cells.proofs.Rising.{rises-remove}
use Rattle.tv_extras.specs.declared.search.Search.{Search}
use Rattle.tv_extras.specs.Search.{ahead, besides, coming, AreChoices, branch, tail_steps, steps, IsSearch, IsSame}
use Rattle.tv_extras.proofs.Ahead.{ahead-all, ahead-none, ahead-start, ahead-step, ahead-refused, ahead-gap}

-- ---- one more choice

pub besides-push : (legs : Legs) (cells chosen : List Cell) (places : List ℕ) (c : Cell) (p n : ℕ) → besides legs cells (reverse (chosen ++ c ∷ [])) (reverse (places ++ p ∷ [])) n ≡ ahead legs chosen (drop (suc p) cells) (suc n) ++ besides legs cells (reverse chosen) (reverse places) (suc n)
unfolding besides
besides-push legs cells chosen places c p n =
    ap (λ r. besides legs cells r (reverse (places ++ p ∷ [])) n) (reverse-append chosen (c ∷ []))
    ∙ (ap (λ r. besides legs cells (c ∷ reverse chosen) r n) (reverse-append places (p ∷ []))
    ∙ ap (λ d. ahead legs d (drop (suc p) cells) (suc n) ++ besides legs cells (reverse chosen) (reverse places) (suc n)) (reverse-reverse chosen))

pub besides-none : (legs : Legs) (cells chosen : List Cell) (places : List ℕ) (n : ℕ) → places ≡ [] → besides legs cells (reverse chosen) (reverse places) n ≡ []
unfolding besides
besides-none legs cells chosen places n e = rw e (none (reverse chosen))
  where
    none : (r : List Cell) → besides legs cells r [] n ≡ []
    none [] = refl
    none (c ∷ r) = refl

pub choices-push : (cells chosen : List Cell) (places : List ℕ) (c : Cell) (p : ℕ) → drop p cells ≡ c ∷ drop (suc p) cells → rises (chosen ++ drop p cells) ≡ true → AreChoices cells (reverse chosen) (reverse places) → AreChoices cells (reverse (chosen ++ c ∷ [])) (reverse (places ++ p ∷ []))
unfolding AreChoices
choices-push cells chosen places c p e r all =
    let here : AreChoices cells (c ∷ reverse chosen) (p ∷ reverse places) = (e, rw (reverse-reverse chosen) r, all) in
    rw (reverse-append chosen (c ∷ []), reverse-append places (p ∷ [])) here

-- what is known of the last choice
pub record IsLast (cells chosen : List Cell) (places : List ℕ) (c : Cell) (p : ℕ) : Type 0 where
  pub at : drop p cells ≡ c ∷ drop (suc p) cells
  pub rising : rises (chosen ++ drop p cells) ≡ true
  pub before : AreChoices cells (reverse chosen) (reverse places)

pub choices-pop : (cells chosen all : List Cell) (places every : List ℕ) (c : Cell) (p : ℕ) → all ≡ chosen ++ c ∷ [] → every ≡ places ++ p ∷ [] → AreChoices cells (reverse all) (reverse every) → IsLast cells chosen places c p
unfolding AreChoices
choices-pop cells chosen all places every c p ea ee h =
    let turned : reverse all ≡ c ∷ reverse chosen = ap reverse ea ∙ reverse-append chosen (c ∷ []) in
    let turned_places : reverse every ≡ p ∷ reverse places = ap reverse ee ∙ reverse-append places (p ∷ []) in
    let here : AreChoices cells (c ∷ reverse chosen) (p ∷ reverse places) = rw (turned, turned_places) at h in
    let P : List Cell → Type 0 = λ d. rises (d ++ drop p cells) ≡ true in
    record { at = here.0; rising = subst P (reverse-reverse chosen) here.1; before = here.2 }

reverse-none : {A : Type 0} (xs : List A) → reverse xs ≡ [] → xs ≡ []
reverse-none xs e = sym (reverse-reverse xs) ∙ ap reverse e

-- as many places as chosen cells
pub places-some : (cells chosen : List Cell) (places : List ℕ) → chosen ≡ [] → AreChoices cells (reverse chosen) (reverse places) → places ≡ []
unfolding AreChoices
places-some cells chosen places e h =
    let P : List Cell → Type 0 = λ d. AreChoices cells (reverse d) (reverse places) in
    reverse-none places (of (reverse places) (subst P e h))
  where
    of : (ps : List ℕ) → AreChoices cells [] ps → ps ≡ []
    of [] h = refl
    of (p ∷ ps) h = absurd h

pub place-within : (cells rest : List Cell) (c : Cell) (p : ℕ) → drop p cells ≡ c ∷ rest → p < length cells
place-within cells rest c p e = let l = ap length e in omega (arith, length-drop p cells)

pub rises-next : (chosen cells : List Cell) (c : Cell) (p : ℕ) → drop p cells ≡ c ∷ drop (suc p) cells → rises (chosen ++ drop p cells) ≡ true → rises (chosen ++ drop (p + 1) cells) ≡ true
rises-next chosen cells c p e r =
    let up : p + 1 ≡ suc p = omega arith in
    let P : List Cell → Type 0 = λ d. rises (chosen ++ d) ≡ true in
    rw up (rises-remove c chosen (drop (suc p) cells) (subst P e r))

-- taken, the cell stands before those behind it
pub rises-taken : (chosen cells : List Cell) (c : Cell) (p : ℕ) → drop p cells ≡ c ∷ drop (suc p) cells → rises (chosen ++ drop p cells) ≡ true → rises ((chosen ++ c ∷ []) ++ drop (p + 1) cells) ≡ true
rises-taken chosen cells c p e r =
    let up : p + 1 ≡ suc p = omega arith in
    let P : List Cell → Type 0 = λ d. rises (chosen ++ d) ≡ true in
    rw (up, append_assoc chosen (c ∷ []) (drop (suc p) cells)) (subst P e r)

-- the cell at a place
pub next-is : (cells : List Cell) (at : ℕ) (c : Cell) → at < length cells → c ≡ get_or cells at c → drop at cells ≡ c ∷ drop (suc at) cells
next-is cells at c before e =
    let up : at + 1 ≡ suc at = omega arith in
    drop_more cells at c before ∙ (ap (λ (x : Cell). x ∷ drop (at + 1) cells) (sym e) ∙ ap (λ k. c ∷ drop k cells) up)

pub pushed-length : {A : Type 0} (xs ys : List A) (x : A) → ys ≡ xs ++ x ∷ [] → length ys ≡ length xs + 1
pushed-length xs ys x e = ap length e ∙ length_push xs x

pub nil_by : {A : Type 0} (xs : List A) (k : ℕ) → k ≡ length xs → k ≡ 0 → xs ≡ []
nil_by xs k e none = nil_from_length xs (sym e ∙ none)

-- ---- the sets to come

pub start-same : (legs : Legs) (cells chosen : List Cell) (places : List ℕ) (n : ℕ) → chosen ≡ [] → places ≡ [] → coming true legs cells chosen places 0 n ≡ extras_after legs [] cells n
start-same legs cells chosen places n ec ep =
    ap (λ b. ahead legs chosen cells n ++ b) (besides-none legs cells chosen places n ep)
    ∙ (append-nil (ahead legs chosen cells n) ∙ (ap (λ d. ahead legs d cells n) ec ∙ ahead-start legs cells n))

take-main : (legs : Legs) (cells chosen : List Cell) (places : List ℕ) (c : Cell) (at n : ℕ) → drop at cells ≡ c ∷ drop (suc at) cells → ahead legs (chosen ++ c ∷ []) (drop (suc at) cells) n ++ besides legs cells (reverse (chosen ++ c ∷ [])) (reverse (places ++ at ∷ [])) n ≡ ahead legs chosen (drop at cells) (suc n) ++ besides legs cells (reverse chosen) (reverse places) (suc n)
take-main legs cells chosen places c at n e =
    ap (λ b. ahead legs (chosen ++ c ∷ []) (drop (suc at) cells) n ++ b) (besides-push legs cells chosen places c at n)
    ∙ (sym (append_assoc (ahead legs (chosen ++ c ∷ []) (drop (suc at) cells) n) (ahead legs chosen (drop (suc at) cells) (suc n)) (besides legs cells (reverse chosen) (reverse places) (suc n)))
    ∙ ap (λ sets. sets ++ besides legs cells (reverse chosen) (reverse places) (suc n)) (sym (ap (λ d. ahead legs chosen d (suc n)) e ∙ ahead-step legs chosen c (drop (suc at) cells) n)))

pub take-same : (legs : Legs) (cells chosen after : List Cell) (places choices : List ℕ) (c : Cell) (at n : ℕ) (f : Bool) → f ≡ true → 0 < n → drop at cells ≡ c ∷ drop (suc at) cells → after ≡ chosen ++ c ∷ [] → choices ≡ places ++ at ∷ [] → coming f legs cells after choices (at + 1) (n - 1) ≡ coming f legs cells chosen places at n
take-same legs cells chosen after places choices c at n f forward some e ea ec =
    let up : at + 1 ≡ suc at = omega arith in
    let down : suc (n - 1) ≡ n = omega arith in
    let P : ℕ → Type 0 = λ k. ahead legs (chosen ++ c ∷ []) (drop (suc at) cells) (n - 1) ++ besides legs cells (reverse (chosen ++ c ∷ [])) (reverse (places ++ at ∷ [])) (n - 1) ≡ ahead legs chosen (drop at cells) k ++ besides legs cells (reverse chosen) (reverse places) k in
    rw (forward, up, ea, ec) (subst P down (take-main legs cells chosen places c at (n - 1) e))

-- nothing is ahead
pub end-same : (legs : Legs) (cells chosen : List Cell) (places : List ℕ) (at n : ℕ) (f : Bool) → ahead legs chosen (drop at cells) n ≡ [] → coming false legs cells chosen places at n ≡ coming f legs cells chosen places at n
end-same legs cells chosen places at n true none = ap (λ a. a ++ besides legs cells (reverse chosen) (reverse places) n) (sym none)
end-same legs cells chosen places at n false none = refl

pub stop-none : (legs : Legs) (cells chosen : List Cell) (at n : ℕ) → 0 < n → at ≡ length cells → ahead legs chosen (drop at cells) n ≡ []
stop-none legs cells chosen at n some e = ap (λ d. ahead legs chosen d n) (drop_all at cells (omega arith)) ∙ ahead-none legs chosen n some

pub arrive-none : (legs : Legs) (cells chosen : List Cell) (at n : ℕ) → n ≡ 0 → is_extras legs chosen ≡ false → ahead legs chosen (drop at cells) n ≡ []
arrive-none legs cells chosen at n e off = ap (ahead legs chosen (drop at cells)) e ∙ (ahead-all legs chosen (drop at cells) ∙ ap (λ b. cond b (chosen ∷ []) []) off)

pub pass-same : (legs : Legs) (cells chosen : List Cell) (places : List ℕ) (at n : ℕ) (f : Bool) → f ≡ true → n ≡ 0 → is_extras legs chosen ≡ true → coming f legs cells chosen places at n ≡ chosen ∷ coming false legs cells chosen places at n
pass-same legs cells chosen places at n f forward e on =
    let here : ahead legs chosen (drop at cells) n ≡ chosen ∷ [] = ap (ahead legs chosen (drop at cells)) e ∙ (ahead-all legs chosen (drop at cells) ∙ ap (λ b. cond b (chosen ∷ []) []) on) in
    rw forward (ap (λ a. a ++ besides legs cells (reverse chosen) (reverse places) n) here)

-- a cell is left out
cut-same : (legs : Legs) (chosen rest : List Cell) (c : Cell) (n : ℕ) (g : Bool) → g ≡ leaves_gap legs chosen c → rises (chosen ++ c ∷ rest) ≡ true → cond (not g) (ahead legs chosen rest n) [] ≡ ahead legs chosen rest n
cut-same legs chosen rest c n true e r = sym (ahead-gap legs chosen c rest n r (sym e))
cut-same legs chosen rest c n false e r = refl

pub back-same : (legs : Legs) (cells chosen all : List Cell) (places every : List ℕ) (c : Cell) (p at n : ℕ) (g : Bool) → all ≡ chosen ++ c ∷ [] → every ≡ places ++ p ∷ [] → IsLast cells chosen places c p → g ≡ leaves_gap legs chosen c → coming (not g) legs cells chosen places (p + 1) (n + 1) ≡ coming false legs cells all every at n
back-same legs cells chosen all places every c p at n g ea ee last gap =
    let up : p + 1 ≡ suc p = omega arith in
    let more : n + 1 ≡ suc n = omega arith in
    let P : List Cell → Type 0 = λ d. rises (chosen ++ d) ≡ true in
    let cut = cut-same legs chosen (drop (suc p) cells) c (suc n) g gap (subst P last.at last.rising) in
    rw (up, more, ea, ee) (ap (λ a. a ++ besides legs cells (reverse chosen) (reverse places) (suc n)) cut ∙ sym (besides-push legs cells chosen places c p n))

pub leave-same : (legs : Legs) (cells chosen : List Cell) (places : List ℕ) (c : Cell) (at n : ℕ) (g now : Bool) → now ≡ true → 0 < n → drop at cells ≡ c ∷ drop (suc at) cells → rises (chosen ++ drop at cells) ≡ true → enters legs chosen c ≡ false → g ≡ leaves_gap legs chosen c → coming (not g) legs cells chosen places (at + 1) n ≡ coming now legs cells chosen places at n
leave-same legs cells chosen places c at zero g now forward some e r refused gap = absurd (omega arith)
leave-same legs cells chosen places c at (suc n) g now forward some e r refused gap =
    let up : at + 1 ≡ suc at = omega arith in
    let P : List Cell → Type 0 = λ d. rises (chosen ++ d) ≡ true in
    let rising : rises (chosen ++ c ∷ drop (suc at) cells) ≡ true = subst P e r in
    let cut = cut-same legs chosen (drop (suc at) cells) c (suc n) g gap rising in
    let whole : ahead legs chosen (drop at cells) (suc n) ≡ ahead legs chosen (drop (suc at) cells) (suc n) =
    ap (λ d. ahead legs chosen d (suc n)) e ∙ (ahead-step legs chosen c (drop (suc at) cells) n ∙ ap (λ a. a ++ ahead legs chosen (drop (suc at) cells) (suc n)) (ahead-refused legs chosen c (drop (suc at) cells) n rising refused)) in
    rw (up, forward) (ap (λ a. a ++ besides legs cells (reverse chosen) (reverse places) (suc n)) (cut ∙ sym whole))

-- ---- the steps left

branch-some : (n : ℕ) → 0 < branch n
unfolding branch
branch-some zero = omega arith
branch-some (suc n) = omega arith

branch-step : (n k : ℕ) → n ≡ suc k → branch n ≡ 2 + (branch k + branch k)
unfolding branch
branch-step n k e = ap branch e

tail-push : (cells : List Cell) (places : List ℕ) (p : ℕ) → tail_steps cells (reverse (places ++ p ∷ [])) ≡ suc (branch (length cells - suc p)) + tail_steps cells (reverse places)
unfolding tail_steps
tail-push cells places p = ap (tail_steps cells) (reverse-append places (p ∷ []))

pub take-less : (cells : List Cell) (places choices : List ℕ) (at : ℕ) (f : Bool) → f ≡ true → at < length cells → choices ≡ places ++ at ∷ [] → steps f cells choices (at + 1) < steps f cells places at
take-less cells places choices at f forward before ec =
    let up : at + 1 ≡ suc at = omega arith in
    let some = branch-step (length cells - at) (length cells - suc at) (omega arith) in
    let pushed = tail-push cells places at in
    rw (forward, up, ec) (omega arith)

pub end-less : (cells : List Cell) (places : List ℕ) (at : ℕ) (f : Bool) → f ≡ true → steps false cells places at < steps f cells places at
end-less cells places at f forward = let some = branch-some (length cells - at) in rw forward (omega arith)

at-most : (n : ℕ) (f : Bool) → cond f n 0 ≤ n
at-most n true = omega arith
at-most n false = omega arith

pub leave-less : (cells : List Cell) (places : List ℕ) (at : ℕ) (f now : Bool) → now ≡ true → at < length cells → steps f cells places (at + 1) < steps now cells places at
leave-less cells places at f now forward before =
    let up : at + 1 ≡ suc at = omega arith in
    let some = branch-step (length cells - at) (length cells - suc at) (omega arith) in
    let most = at-most (branch (length cells - suc at)) f in
    rw (forward, up) (omega arith)

pub back-less : (cells : List Cell) (places every : List ℕ) (p at : ℕ) (f : Bool) → every ≡ places ++ p ∷ [] → steps f cells places (p + 1) < steps false cells every at
back-less cells places every p at f ee =
    let up : p + 1 ≡ suc p = omega arith in
    let pushed = tail-push cells places p in
    let most = at-most (branch (length cells - suc p)) f in
    rw (up, ee) (omega arith)

-- ---- searches with the same sets to come

pub same-itself : (s : Search) → IsSearch s → IsSame s s
same-itself s v = record { valid = v; legs = refl; cells = refl; same = refl }

pub same-after : (s t u : Search) → IsSame s t → IsSame t u → IsSame s u
same-after s t u a b = record { valid = b.valid; legs = b.legs ∙ a.legs; cells = b.cells ∙ a.cells; same = b.same ∙ a.same }

pub start-choices : (cells chosen : List Cell) (places : List ℕ) → chosen ≡ [] → places ≡ [] → AreChoices cells (reverse chosen) (reverse places)
unfolding AreChoices
start-choices cells chosen places ec ep = let none : AreChoices cells [] [] = tt in rw (ec, ep) none

pub start-rising : (cells chosen : List Cell) → chosen ≡ [] → rises cells ≡ true → rises (chosen ++ drop 0 cells) ≡ true
start-rising cells chosen ec r = rw ec r

-- ---- behind the last choice

pub behind-none : (legs : Legs) (cells chosen : List Cell) (places : List ℕ) (at n : ℕ) (f : Bool) → f ≡ false → places ≡ [] → coming f legs cells chosen places at n ≡ []
behind-none legs cells chosen places at n f behind e = rw behind (besides-none legs cells chosen places n e)

pub behind-same : (legs : Legs) (cells chosen all : List Cell) (places every : List ℕ) (c : Cell) (p at n : ℕ) (g f : Bool) → f ≡ false → all ≡ chosen ++ c ∷ [] → every ≡ places ++ p ∷ [] → IsLast cells chosen places c p → g ≡ leaves_gap legs chosen c → coming (not g) legs cells chosen places (p + 1) (n + 1) ≡ coming f legs cells all every at n
behind-same legs cells chosen all places every c p at n g f behind ea ee last gap = rw behind (back-same legs cells chosen all places every c p at n g ea ee last gap)

pub behind-less : (cells : List Cell) (places every : List ℕ) (p at : ℕ) (g f : Bool) → f ≡ false → every ≡ places ++ p ∷ [] → steps g cells places (p + 1) < steps f cells every at
behind-less cells places every p at g f behind ee = rw behind (back-less cells places every p at g ee)
