-- The pending edges, one after the other, and the states as they are told.
use Rattle.std.specs.Prelude.{◌≡◌, ℕ, zero, suc, ◌+◌, ◌<◌, ◌≤◌, Bool, true, false, cond, List, [], ◌∷◌, ◌++◌, map, filter, drop, length}
use Rattle.std.proofs.Common.{refl, sym, ap, ◌∙◌, arith, get_or, append_assoc, append-nil}
use Rattle.std.proofs.Math.Seq.{drop-cons}
use Rattle.std.proofs.lemmas.List.{drop_all}
use Rattle.std.proofs.lemmas.List.FromFn.{length-range_with_len, get_or-range_with_len}
use Rattle.tv_lemmas.specs.Naturals.{below}
use Rattle.tv_spec_plane.specs.declared.records.CompactEdge.{CompactEdge}
use Rattle.tv_spec_plane.specs.Web.{Web, compact, no_edge}
use Rattle.tv_spec_partial.specs.Partial.{is_pending, pending}

flag-at : (p : CompactEdge → Bool) (es : List CompactEdge) (k : ℕ) → k < length es → get_or (map p es) k false ≡ p (get_or es k no_edge)
flag-at p [] k h = absurd (omega arith)
flag-at p (e ∷ es) zero h = refl
flag-at p (e ∷ es) (suc k) h = flag-at p es k (omega arith)

by-flag : (f : Bool) (x : ℕ) (done rest : List ℕ) → cond f (done ++ x ∷ []) done ++ rest ≡ done ++ cond f (x ∷ rest) rest
by-flag true x done rest = append_assoc done (x ∷ []) rest
by-flag false x done rest = refl

module _ (w : Web) (t : ℕ) where
  abbrev pub is_one : ℕ → Bool
  is_one k = is_pending t (get_or (compact w) k no_edge)

  pub edges-next : (done next : List ℕ) (k : ℕ) (f : Bool) → k < length (compact w) → f ≡ get_or (map (is_pending t) (compact w)) k false → next ≡ cond f (done ++ k ∷ []) done →
      done ++ filter (is_one) (drop k (below (length (compact w)))) ≡ pending w t → next ++ filter (is_one) (drop (k + 1) (below (length (compact w)))) ≡ pending w t
  edges-next done next k f h flag pushed before =
      let n = length (compact w) in
      let long : k < length (below n) = rw (length-range_with_len 0 n) h in
      let here : get_or (below n) k 0 ≡ k = get_or-range_with_len 0 n k 0 h ∙ omega arith in
      let step : drop k (below n) ≡ k ∷ drop (suc k) (below n) = drop-cons (below n) k 0 long ∙ ap (λ x. x ∷ drop (suc k) (below n)) here in
      let up : k + 1 ≡ suc k = omega arith in
      let test : f ≡ is_one k = flag ∙ flag-at (is_pending t) (compact w) k h in
      rw (up, pushed) (by-flag f k done (filter is_one (drop (suc k) (below n)))
      ∙ (ap (λ b. done ++ cond b (k ∷ filter is_one (drop (suc k) (below n))) (filter is_one (drop (suc k) (below n)))) test
      ∙ (ap (λ xs. done ++ filter is_one xs) (sym step) ∙ before)))

  pub edges-last : (done : List ℕ) (k : ℕ) → length (compact w) ≤ k → done ++ filter (is_one) (drop k (below (length (compact w)))) ≡ pending w t → done ≡ pending w t
  edges-last done k h before =
      let n = length (compact w) in
      let none : drop k (below n) ≡ [] = drop_all k (below n) (rw (length-range_with_len 0 n) h) in
      sym (append-nil done) ∙ (ap (λ xs. done ++ filter is_one xs) (sym none) ∙ before)
