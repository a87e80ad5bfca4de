-- The last edges, point by point and edge by edge, and what is stuck behind them.
use Rattle.std.specs.Prelude.{◌≡◌, ℕ, zero, suc, ◌+◌, ◌<◌, ◌≤◌, List, [], ◌∷◌, ◌++◌, length, drop, slice_index_or}
use Rattle.std.specs.List.{AllByRecursion}
use Rattle.std.proofs.Common.{sym, arith, get_or, subst, below_more, length-append}
use Rattle.std.proofs.Math.ListN.{get_or-append}
use Rattle.std.proofs.Math.Seq.{get_or-append_seam}
use Rattle.tv_spec_plane.specs.declared.records.CompactEdge.{CompactEdge}
use Rattle.tv_spec_plane.specs.Web.{Web, compact, no_edge}
use Rattle.tv_class_assignments.specs.Remaining.{Left}
use Rattle.tv_class_assignments.specs.Tables.{IsPast, AreLast, AreTables, IsStuck}
use Rattle.tv_class_assignments.specs.Walk.{with_left}
use Rattle.tv_class_assignments.proofs.Lefts.{IsUntouched, with_left-stuck}

untouched_from : (w : Web) (p : ℕ) (es : List CompactEdge) (k : ℕ) → ((i : ℕ) → k ≤ i → i < length es → IsUntouched w p (get_or es i no_edge)) → AllByRecursion (IsUntouched w p) (drop k es)
untouched_from w p [] zero none = tt
untouched_from w p [] (suc k) none = tt
untouched_from w p (e ∷ es) zero none = (none 0 (omega arith) (omega arith), untouched_from w p es zero (λ i h l. none (suc i) (omega arith) (omega arith)))
untouched_from w p (e ∷ es) (suc k) none = untouched_from w p es k (λ i h l. none (suc i) (omega arith) (omega arith))

pub stuck-none : (w : Web) (sizes last : List ℕ) (e : ℕ) (l : Left) → AreTables w sizes last → IsStuck last l.class (e + 1) → with_left w (drop (suc e) (compact w)) l ≡ []
stuck-none w sizes last e l tables stuck =
    with_left-stuck w stuck.point (drop (suc e) (compact w)) l
    (untouched_from w stuck.point (compact w) (suc e) (λ i h l. tables.last stuck.point stuck.listed i (let p = stuck.past in omega arith) l))
    stuck.owed

-- ---- point by point

pub lasts-next : (w : Web) (last more : List ℕ) (k n : ℕ) → more ≡ last ++ k ∷ [] → n ≡ length last → IsPast w n k → AreLast w last → AreLast w more
lasts-next w last more k n pushed is past before = subst (AreLast w) (sym pushed) (λ p h. each p (let m = length-append last (k ∷ []) in omega arith))
  where
    there : (p : ℕ) → p < length last → IsPast w p (slice_index_or (last ++ k ∷ []) p 0)
    there p l = subst (IsPast w p) (sym (get_or-append last (k ∷ []) 0 p l)) (before p l)

    here : IsPast w (length last) (slice_index_or (last ++ k ∷ []) (length last) 0)
    here = subst (IsPast w (length last)) (sym (get_or-append_seam last k [] 0)) (subst (λ m. IsPast w m k) is past)

    each : (p : ℕ) → p < length last + 1 → IsPast w p (slice_index_or (last ++ k ∷ []) p 0)
    each = below_more (λ p. IsPast w p (slice_index_or (last ++ k ∷ []) p 0)) (length last) there here
