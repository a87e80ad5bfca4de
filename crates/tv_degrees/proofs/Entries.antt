-- The entries of a class, one point after the other.
--
-- entries_from e m n k count == the entries from point k on
use Rattle.std.specs.Prelude.{◌≡◌, ℕ, ◌+◌, ◌-◌, ◌<◌, ◌≤◌, ℤ, pos, ◌+ℤ◌, ◌-ℤ◌, ◌*ℤ◌, neg_ℤ, List, [], ◌∷◌, ◌++◌, map, length}
use Rattle.std.specs.List.{AllByRecursion, range_with_len}
use Rattle.std.proofs.Common.{sym, ap, subst, ◌∙◌, get_or, append_assoc, append-nil, length-append, arith}
use Rattle.std.proofs.lemmas.List.FromFn.{get_or-map-range_with_len, length-map-range_with_len}
use Rattle.tv_spec_plane.specs.declared.records.CompactEdge.{CompactEdge}
use Rattle.tv_spec_plane.specs.Web.{Web, below, edge_ratio, edge_class}
use Rattle.tv_lattice.specs.Classes.{IsEntry, IsEntries}
use Rattle.tv_lattice.proofs.Each.{each_push}
use Rattle.tv_lattice.proofs.Sums.{degree_from, degree_from-next}
use Rattle.tv_web.proofs.Finding.{range_with_len-step, range_with_len-end}
use Rattle.tv_degrees.specs.Edges.{entry_by}

unfoldable pub entries_from : CompactEdge → ℤ → ℤ → ℕ → ℕ → List ℤ
entries_from e m n k count = map (entry_by e m n) (range_with_len k (count - k))

-- the entries so far: those that are left complete them, and each is within its limit
pub record AreEntries (e : CompactEdge) (m n : ℤ) (k count : ℕ) (done : List ℤ) : Type 0 where
  pub whole : done ++ entries_from e m n k count ≡ map (entry_by e m n) (below count)
  pub number : length done ≡ k
  pub small : AllByRecursion IsEntry done

pub entries_first : (e : CompactEdge) (m n : ℤ) (count : ℕ) (done : List ℤ) → done ≡ [] → AreEntries e m n 0 count done
unfolding entries_from
entries_first e m n count done none = record {
  whole = ap (λ (xs : List ℤ). xs ++ entries_from e m n 0 count) none ∙ ap (λ i. map (entry_by e m n) (range_with_len 0 i)) (let i : count - 0 ≡ count = omega arith in i);
  number = ap length none;
  small = subst (AllByRecursion IsEntry) (sym none) tt;
}

pub entries_next : (e : CompactEdge) (m n : ℤ) (k count : ℕ) (done more : List ℤ) → k < count → IsEntry (entry_by e m n k) → more ≡ done ++ entry_by e m n k ∷ [] → AreEntries e m n k count done → AreEntries e m n (k + 1) count more
unfolding entries_from
entries_next e m n k count done more h limit pushed so_far = record {
  whole = rw pushed (append_assoc done (entry_by e m n k ∷ []) (map (entry_by e m n) (range_with_len (k + 1) (count - (k + 1)))) ∙ (sym (ap (λ is. done ++ map (entry_by e m n) is) (range_with_len-step k count h)) ∙ so_far.whole));
  number = ap length pushed ∙ (length-append done (entry_by e m n k ∷ []) ∙ omega (arith, so_far.number));
  small = subst (AllByRecursion IsEntry) (sym pushed) (each_push IsEntry done (entry_by e m n k) so_far.small limit);
}

pub entries_last : (e : CompactEdge) (m n : ℤ) (k count : ℕ) (done : List ℤ) → count ≤ k → AreEntries e m n k count done → done ≡ map (entry_by e m n) (below count)
unfolding entries_from
entries_last e m n k count done h so_far = sym (append-nil done) ∙ (sym (ap (λ is. done ++ map (entry_by e m n) is) (range_with_len-end k count h)) ∙ so_far.whole)

pub entries_limits : (e : CompactEdge) (m n : ℤ) (k count : ℕ) (done : List ℤ) → k ≤ 64 → AreEntries e m n k count done → IsEntries done
entries_limits e m n k count done few so_far = record { few = omega (arith, so_far.number); small = so_far.small }

-- entry k of the list
pub entries-get : (f : ℕ → ℤ) (n i : ℕ) → i < n → get_or (map f (below n)) i (pos 0) ≡ f i
entries-get f n i h = get_or-map-range_with_len f 0 n i i (pos 0) h (omega arith)

-- the class and the degree of an edge by its ratio
pub edge_class-by : (w : Web) (e : CompactEdge) (m n : ℤ) (count : ℕ) → m ≡ edge_ratio w e -ℤ pos 2 → n ≡ neg_ℤ (edge_ratio w e) → count ≡ length w.points → map (entry_by e m n) (below count) ≡ edge_class w e
edge_class-by w e m n count first second same = ap (λ (i : ℤ). map (entry_by e i n) (below count)) first ∙ (ap (λ (i : ℤ). map (entry_by e (edge_ratio w e -ℤ pos 2) i) (below count)) second ∙ ap (λ i. map (entry_by e (edge_ratio w e -ℤ pos 2) (neg_ℤ (edge_ratio w e))) (below i)) same)

pub length-edge_class : (w : Web) (e : CompactEdge) → length (edge_class w e) ≡ length w.points
length-edge_class w e = length-map-range_with_len _ 0 (length w.points)

-- one point more of the degree
pub degree_next : (hs : List ℤ) (e : CompactEdge) (m n : ℤ) (count k : ℕ) (total more whole h x : ℤ) → k < count → length hs ≡ count → h ≡ get_or hs k (pos 0) → x ≡ entry_by e m n k → more ≡ total +ℤ (h *ℤ x) → total +ℤ degree_from hs (map (entry_by e m n) (below count)) k ≡ whole → more +ℤ degree_from hs (map (entry_by e m n) (below count)) (k + 1) ≡ whole
degree_next hs e m n count k total more whole h x l same height entry value was =
    let factors = value ∙ (ap (λ z. total +ℤ (z *ℤ x)) height ∙ ap (λ z. total +ℤ (get_or hs k (pos 0) *ℤ z)) (entry ∙ sym (entries-get (entry_by e m n) count k l))) in
    degree_from-next hs (map (entry_by e m n) (below count)) k total more whole (omega arith) (omega (arith, length-map-range_with_len (entry_by e m n) 0 count)) factors was
