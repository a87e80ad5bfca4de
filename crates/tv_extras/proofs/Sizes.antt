-- The sets by rising numbers of boxes: the first of them, and from one number to the next.
use Rattle.std.proofs.Common.{◌≡◌, ℕ, suc, ◌+◌, ◌-◌, ◌<◌, ◌≤◌, List, [], ◌∷◌, ◌++◌, map, arith, refl, sym, ◌∙◌, ap, subst, Bool, true, false}
use Rattle.std.specs.List.{flat_map, range_with_len}
use Rattle.tv_cells.specs.declared.cell.Cell.{Cell}
use Rattle.tv_cells.specs.declared.legs.Legs.{Legs}
use Rattle.tv_cells.specs.Extras.{AreDiagrams}
use Rattle.tv_cells.specs.Cuts.{extras_after}
use Rattle.tv_spec_boxes.specs.Configurations.{extras_of}
use Rattle.tv_extras.specs.declared.sized.SizedSets.{SizedSets}
use Rattle.tv_extras.specs.Room.{worth_cells}
use Rattle.tv_extras.proofs.WorthSets.{worth-same}
use Rattle.tv_extras.specs.declared.search.Search.{Search}
use Rattle.tv_extras.specs.Search.{to_come, Finds, IsSearch, IsSame}
use Rattle.tv_extras.specs.Sized.{of_size, all_of_size, sizes_of, sized, IsSized, IsSizedSame}

pub sizes-start : (legs : Legs) (most first last : ℕ) (sets : List (List Cell)) → sets ≡ extras_of legs most first → sizes_of legs most first last sets ≡ flat_map (all_of_size legs most) (range_with_len first (suc (last - first)))
unfolding sizes_of
sizes-start legs most first last sets e =
    let up : first + 1 ≡ suc first = omega arith in
    ap (λ s. map (of_size first) s ++ flat_map (all_of_size legs most) (range_with_len (suc first) (last - first))) e
    ∙ ap (λ k. all_of_size legs most first ++ flat_map (all_of_size legs most) (range_with_len k (last - first))) (sym up)

pub sizes-first : (legs : Legs) (most i last : ℕ) (s : List Cell) (sets now : List (List Cell)) → now ≡ s ∷ sets → sizes_of legs most i last now ≡ of_size i s ∷ sizes_of legs most i last sets
unfolding sizes_of
sizes-first legs most i last s sets now e = ap (λ all. map (of_size i) all ++ flat_map (all_of_size legs most) (range_with_len (suc i) (last - i))) e

pub sizes-none : (legs : Legs) (most i last : ℕ) (sets : List (List Cell)) → sets ≡ [] → i ≡ last → sizes_of legs most i last sets ≡ []
unfolding sizes_of
sizes-none legs most i last sets none e =
    let over : last - i ≡ 0 = omega arith in
    ap (λ all. map (of_size i) all ++ flat_map (all_of_size legs most) (range_with_len (suc i) (last - i))) none
    ∙ ap (λ n. flat_map (all_of_size legs most) (range_with_len (suc i) n)) over

pub sizes-next : (legs : Legs) (most i last : ℕ) (sets next : List (List Cell)) → sets ≡ [] → i < last → next ≡ extras_of legs most (i + 1) → sizes_of legs most (i + 1) last next ≡ sizes_of legs most i last sets
unfolding sizes_of
sizes-next legs most i last sets next none l e =
    let more : last - i ≡ suc (last - (i + 1)) = omega arith in
    let up : suc i ≡ i + 1 = omega arith in
    let over : suc (i + 1) ≡ (i + 1) + 1 = omega arith in
    ap (λ s. map (of_size (i + 1)) s ++ flat_map (all_of_size legs most) (range_with_len (suc (i + 1)) (last - (i + 1)))) e
    ∙ (ap (λ k. all_of_size legs most (i + 1) ++ flat_map (all_of_size legs most) (range_with_len k (last - (i + 1)))) over
    ∙ sym (ap (λ all. map (of_size i) all ++ flat_map (all_of_size legs most) (range_with_len (suc i) (last - i))) none
    ∙ (ap (λ n. flat_map (all_of_size legs most) (range_with_len (suc i) n)) more
    ∙ ap (λ k. flat_map (all_of_size legs most) (range_with_len k (suc (last - (i + 1))))) up)))

pub sized-itself : (s : SizedSets) → IsSized s → IsSizedSame s s
sized-itself s v = record { valid = v; legs = refl; most = refl; last = refl; size = omega arith; same = refl }

-- the sets of a number of boxes among the cells that are worth it
pub worth-sets : (legs now : Legs) (cells : List Cell) (sets : List (List Cell)) (most i : ℕ) → now ≡ legs → cells ≡ worth_cells legs most → AreDiagrams legs → i ≤ most → sets ≡ extras_after legs [] cells i → sets ≡ extras_of now most i
worth-sets legs now cells sets most i el ec diagrams l e =
    e ∙ (ap (λ cs. extras_after legs [] cs i) ec ∙ (worth-same legs most most i diagrams l l ∙ ap (λ g. extras_of g most i) (sym el)))

pub restart-value : (legs now : Legs) (cells : List Cell) (sets : List (List Cell)) (most first last : ℕ) → now ≡ legs → cells ≡ worth_cells legs most → AreDiagrams legs → first ≤ most → sets ≡ extras_after legs [] cells first → sizes_of now most first last sets ≡ flat_map (all_of_size legs most) (range_with_len first (suc (last - first)))
restart-value legs now cells sets most first last el ec diagrams l e =
    sizes-start now most first last sets (worth-sets legs now cells sets most first el ec diagrams l e)
    ∙ ap (λ g. flat_map (all_of_size g most) (range_with_len first (suc (last - first)))) el

-- ---- one step, over the search inside

pub sized-kept : (s : SizedSets) (t : Search) (size : ℕ) → IsSized s → IsSearch t → t.legs ≡ s.search.legs → t.cells.items ≡ s.search.cells.items → size ≤ s.last → IsSized (record { search = t; size = size; last = s.last; most = s.most })
sized-kept s t size v valid el ec l = record {
  valid = valid;
  worth = ec ∙ (v.worth ∙ ap (λ g. worth_cells g s.most) (sym el));
  diagrams = subst AreDiagrams (sym el) v.diagrams;
  size = l;
  last = v.last;
  most = v.most;
}

pub sized-first : (s : SizedSets) (t u : Search) → IsSame s.search t → u.legs ≡ t.legs → u.chosen.items ≡ t.chosen.items → to_come t ≡ t.chosen.items ∷ to_come u → sized s ≡ of_size s.size u.chosen.items ∷ sizes_of u.legs s.most s.size s.last (to_come u)
sized-first s t u found el ec passed =
    sizes-first s.search.legs s.most s.size s.last u.chosen.items (to_come u) (to_come s.search) (sym found.same ∙ (passed ∙ ap (λ c. c ∷ to_come u) (sym ec)))
    ∙ ap (λ g. of_size s.size u.chosen.items ∷ sizes_of g s.most s.size s.last (to_come u)) (sym (el ∙ found.legs))

pub sized-same : (s : SizedSets) (t : Search) → IsSame s.search t → sizes_of t.legs s.most s.size s.last (to_come t) ≡ sized s
sized-same s t found = ap (λ g. sizes_of g s.most s.size s.last (to_come t)) found.legs ∙ ap (sizes_of s.search.legs s.most s.size s.last) found.same

pub sized-next : (s : SizedSets) (t u : Search) → IsSized s → IsSame s.search t → to_come t ≡ [] → s.size < s.last → u.legs ≡ t.legs → to_come u ≡ extras_after t.legs [] t.cells.items (s.size + 1) → sizes_of u.legs s.most (s.size + 1) s.last (to_come u) ≡ sized s
sized-next s t u v found none l el e =
    let kept = sized-kept s t s.size v found.valid found.legs found.cells v.size in
    let next = worth-sets t.legs u.legs t.cells.items (to_come u) s.most (s.size + 1) el kept.worth kept.diagrams (omega (arith, v.last)) e in
    sizes-next u.legs s.most s.size s.last (to_come s.search) (to_come u) (sym found.same ∙ none) l next
    ∙ ap (λ g. sizes_of g s.most s.size s.last (to_come s.search)) (el ∙ found.legs)

pub finds-none : (b : Bool) (t : Search) → b ≡ false → Finds b t → to_come t ≡ []
finds-none false t e f = f
finds-none true t e f = cc
