-- Diagrams that are put on some edges of an assignment, and picked from it.
use Rattle.std.specs.Prelude.{◌≡◌, ℕ, suc, ◌+◌, ◌*◌, ◌≤◌, Bool, true, false, cond, not, ◌||◌, ℤ, pos, ◌+ℤ◌, List, [], ◌∷◌, map, filter, length, ⊤, zero, take, slice_index_or, ◌<◌}
use Rattle.std.specs.List.{AllByRecursion}
use Rattle.std.proofs.Common.{refl, sym, ap, ◌∙◌, arith}
use Rattle.std.proofs.lemmas.Int.{ints}
use Rattle.tv_spec_plane.specs.declared.records.CompactEdge.{CompactEdge}
use Rattle.tv_spec_plane.specs.Web.{no_edge}
use Rattle.tv_partition.specs.Rows.{IsDiagram, size}
use Rattle.tv_spec_boxes.specs.Assignments.{Rows, Assignment, sum_on}
use Rattle.tv_laws_counts.proofs.Choices.{degree_by}
use Rattle.tv_laws_frontier.specs.Frontier.{only}
use Rattle.tv_laws_frontier.specs.Steps.{picked, put, nothing}
use Rattle.tv_laws_frontier.proofs.Agreeing.{Agrees}

-- each edge that p doesn't pick has the empty diagram
abbrev pub Stays : (CompactEdge → Bool) → List CompactEdge → Assignment → Type 0
Stays p (e ∷ es) (d ∷ a) = (p e ≡ false → d ≡ []) × Stays p es a
Stays p _ _ = ⊤

module _ (p : CompactEdge → Bool) where
  pub put-none : (es : List CompactEdge) (a : Assignment) → put p es [] a ≡ a
  put-none [] a = refl
  put-none (e ∷ es) [] = refl
  put-none (e ∷ es) (d ∷ a) = refl

  pub put-skip : (e : CompactEdge) (es : List CompactEdge) (g : List Rows) (d : Rows) (a : Assignment) → p e ≡ false → put p (e ∷ es) g (d ∷ a) ≡ d ∷ put p es g a
  put-skip e es [] d a off = ap (λ b. d ∷ b) (sym (put-none es a))
  put-skip e es (x ∷ g) d a off = rw off refl

  pub put-long : (es : List CompactEdge) (g : List Rows) (a : Assignment) → length (put p es g a) ≡ length a
  put-long [] g a = refl
  put-long (e ∷ es) [] a = refl
  put-long (e ∷ es) (x ∷ g) [] = refl
  put-long (e ∷ es) (x ∷ g) (d ∷ a) = elim (p e) as (λ b. length (cond b (x ∷ put p es g a) (d ∷ put p es (x ∷ g) a)) ≡ length (d ∷ a)) [ true ↦ ap suc (put-long es g a) | false ↦ ap suc (put-long es (x ∷ g) a) ]

  pub put-diagrams : (es : List CompactEdge) (g : List Rows) (a : Assignment) → AllByRecursion IsDiagram g → AllByRecursion IsDiagram a → AllByRecursion IsDiagram (put p es g a)
  put-diagrams [] g a new all = all
  put-diagrams (e ∷ es) [] a new all = all
  put-diagrams (e ∷ es) (x ∷ g) [] new all = all
  put-diagrams (e ∷ es) (x ∷ g) (d ∷ a) new all = elim (p e) as (λ b. AllByRecursion IsDiagram (cond b (x ∷ put p es g a) (d ∷ put p es (x ∷ g) a))) [ true ↦ (new.0, put-diagrams es g a new.1 all.1) | false ↦ (all.0, put-diagrams es (x ∷ g) a new all.1) ]

  -- ---- what is put is picked

  picked-put-head : (e : CompactEdge) (es : List CompactEdge) (g : List Rows) (d : Rows) (b : Assignment) (c : Bool) → p e ≡ c → length g ≡ length (cond c (e ∷ filter p es) (filter p es)) → ((h : List Rows) → length h ≡ length (filter p es) → picked p es (put p es h b) ≡ h) → picked p (e ∷ es) (put p (e ∷ es) g (d ∷ b)) ≡ g
  picked-put-head e es [] d b true is long rest = absurd (omega arith)
  picked-put-head e es (x ∷ g) d b true is long rest = rw (is, is) (ap (λ h. x ∷ h) (rest g (omega arith)))
  picked-put-head e es g d b false is long rest = rw (put-skip e es g d b is, is) (rest g long)

  pub picked-put : (es : List CompactEdge) (g : List Rows) (b : Assignment) → length b ≡ length es → length g ≡ length (filter p es) → picked p es (put p es g b) ≡ g
  picked-put [] [] b long same = refl
  picked-put [] (x ∷ g) b long same = absurd (omega arith)
  picked-put (e ∷ es) g [] long same = absurd (omega arith)
  picked-put (e ∷ es) g (d ∷ b) long same = picked-put-head e es g d b (p e) refl same (λ h. picked-put es h b (omega arith))

  -- the diagram at a place
  put-at-head : (e : CompactEdge) (es : List CompactEdge) (g : List Rows) (d : Rows) (a : Assignment) (k : ℕ) (c : Bool) → p e ≡ c → length g ≡ length (cond c (e ∷ filter p es) (filter p es)) → ((h : List Rows) → length h ≡ length (filter p es) → slice_index_or (put p es h a) k [] ≡ cond (p (slice_index_or es k no_edge)) (slice_index_or h (length (filter p (take k es))) []) (slice_index_or a k [])) → slice_index_or (put p (e ∷ es) g (d ∷ a)) (suc k) [] ≡ cond (p (slice_index_or es k no_edge)) (slice_index_or g (length (cond c (e ∷ filter p (take k es)) (filter p (take k es)))) []) (slice_index_or a k [])
  put-at-head e es [] d a k true is long rest = absurd (omega arith)
  put-at-head e es (x ∷ g) d a k true is long rest = rw is (rest g (omega arith))
  put-at-head e es g d a k false is long rest = rw (put-skip e es g d a is) (rest g long)

  put-at-first : (e : CompactEdge) (es : List CompactEdge) (g : List Rows) (d : Rows) (a : Assignment) (c : Bool) → p e ≡ c → length g ≡ length (cond c (e ∷ filter p es) (filter p es)) → slice_index_or (put p (e ∷ es) g (d ∷ a)) 0 [] ≡ cond c (slice_index_or g 0 []) d
  put-at-first e es [] d a true is long = absurd (omega arith)
  put-at-first e es (x ∷ g) d a true is long = rw is refl
  put-at-first e es g d a false is long = rw (put-skip e es g d a is) refl

  pub put-at : (es : List CompactEdge) (g : List Rows) (a : Assignment) → length a ≡ length es → length g ≡ length (filter p es) → (k : ℕ) → k < length es → slice_index_or (put p es g a) k [] ≡ cond (p (slice_index_or es k no_edge)) (slice_index_or g (length (filter p (take k es))) []) (slice_index_or a k [])
  put-at [] g a long same k h = absurd (omega arith)
  put-at (e ∷ es) g [] long same k h = absurd (omega arith)
  put-at (e ∷ es) g (d ∷ a) long same zero h = put-at-first e es g d a (p e) refl same
  put-at (e ∷ es) g (d ∷ a) long same (suc k) h = put-at-head e es g d a k (p e) refl same (λ f few. put-at es f a (omega arith) few k (omega arith))

  pub picked-long : (es : List CompactEdge) (a : Assignment) → length a ≡ length es → length (picked p es a) ≡ length (filter p es)
  picked-long [] a long = refl
  picked-long (e ∷ es) [] long = absurd (omega arith)
  picked-long (e ∷ es) (d ∷ a) long = elim (p e) as (λ b. length (cond b (d ∷ picked p es a) (picked p es a)) ≡ length (cond b (e ∷ filter p es) (filter p es))) [ true ↦ ap suc (picked-long es a (omega arith)) | false ↦ picked-long es a (omega arith) ]

  pub picked-diagrams : (es : List CompactEdge) (a : Assignment) → AllByRecursion IsDiagram a → AllByRecursion IsDiagram (picked p es a)
  picked-diagrams [] a all = tt
  picked-diagrams (e ∷ es) [] all = tt
  picked-diagrams (e ∷ es) (d ∷ a) all = elim (p e) as (λ b. AllByRecursion IsDiagram (cond b (d ∷ picked p es a) (picked p es a))) [ true ↦ (all.0, picked-diagrams es a all.1) | false ↦ picked-diagrams es a all.1 ]

  pub picked-degree : (f : CompactEdge → ℕ) (es : List CompactEdge) (a : Assignment) → degree_by (map f (filter p es)) (picked p es a) ≤ degree_by (map f es) a
  picked-degree f [] a = omega arith
  picked-degree f (e ∷ es) [] = by_test (p e)
    where
      by_test : (b : Bool) → degree_by (map f (cond b (e ∷ filter p es) (filter p es))) [] ≤ 0
      by_test true = omega arith
      by_test false = none (map f (filter p es))
        where
          none : (gs : List ℕ) → degree_by gs [] ≤ 0
          none [] = omega arith
          none (g ∷ gs) = omega arith
  picked-degree f (e ∷ es) (d ∷ a) = let rest = picked-degree f es a in elim (p e) as (λ b. degree_by (map f (cond b (e ∷ filter p es) (filter p es))) (cond b (d ∷ picked p es a) (picked p es a)) ≤ size d * f e + degree_by (map f es) a) [ true ↦ omega arith | false ↦ omega arith ]

  pub only-long : (es : List CompactEdge) (a : Assignment) → length a ≡ length es → length (only p es a) ≡ length es
  only-long [] a long = refl
  only-long (e ∷ es) [] long = absurd (omega arith)
  only-long (e ∷ es) (d ∷ a) long = ap suc (only-long es a (omega arith))

  pub only-diagrams : (es : List CompactEdge) (a : Assignment) → AllByRecursion IsDiagram a → AllByRecursion IsDiagram (only p es a)
  only-diagrams [] a all = tt
  only-diagrams (e ∷ es) [] all = tt
  only-diagrams (e ∷ es) (d ∷ a) all = (elim (p e) as (λ b. IsDiagram (cond b d [])) [ true ↦ all.0 | false ↦ tt ], only-diagrams es a all.1)

  pub only-degree : (f : CompactEdge → ℕ) (es : List CompactEdge) (a : Assignment) → degree_by (map f es) (only p es a) ≤ degree_by (map f es) a
  only-degree f [] a = omega arith
  only-degree f (e ∷ es) [] = omega arith
  only-degree f (e ∷ es) (d ∷ a) = let rest = only-degree f es a in elim (p e) as (λ b. size (cond b d []) * f e + degree_by (map f es) (only p es a) ≤ size d * f e + degree_by (map f es) a) [ true ↦ omega arith | false ↦ omega arith ]

  -- ---- sums with what is put on edges that had nothing

  module _ (f : CompactEdge → Rows → ℤ) (empty : (e : CompactEdge) → f e [] ≡ pos 0) where
    sum-put-head : (e : CompactEdge) (es : List CompactEdge) (g : List Rows) (d : Rows) (b : Assignment) (c : Bool) → p e ≡ c → (p e ≡ true → d ≡ []) → ((h : List Rows) → sum_on f es (put p es h b) ≡ sum_on f es b +ℤ sum_on f es (put p es h (nothing es))) → sum_on f (e ∷ es) (put p (e ∷ es) g (d ∷ b)) ≡ sum_on f (e ∷ es) (d ∷ b) +ℤ sum_on f (e ∷ es) (put p (e ∷ es) g ([] ∷ nothing es))
    sum-put-head e es [] d b c is bare rest = let here = rest [] in let first : sum_on f es (put p es [] b) ≡ sum_on f es b = ap (sum_on f es) (put-none es b) in let other : sum_on f es (put p es [] (nothing es)) ≡ sum_on f es (nothing es) = ap (sum_on f es) (put-none es (nothing es)) in omega (arith, ints, empty e)
    sum-put-head e es (x ∷ g) d b true is bare rest = rw (is, bare is) (omega (arith, ints, empty e, rest g))
    sum-put-head e es (x ∷ g) d b false is bare rest = rw is (omega (arith, ints, empty e, rest (x ∷ g)))

    pub sum-put : (es : List CompactEdge) (g : List Rows) (b : Assignment) → length b ≡ length es → Stays (λ e. not (p e)) es b → sum_on f es (put p es g b) ≡ sum_on f es b +ℤ sum_on f es (put p es g (nothing es))
    sum-put [] g b long bare = omega (arith, ints)
    sum-put (e ∷ es) g [] long bare = absurd (omega arith)
    sum-put (e ∷ es) g (d ∷ b) long bare = sum-put-head e es g d b (p e) refl (λ on. bare.0 (ap not on)) (λ h. sum-put es h b (omega arith) bare.1)

-- ---- two tests that pick no edge both

module _ (p q : CompactEdge → Bool) (apart : (e : CompactEdge) → q e ≡ true → p e ≡ false) where
  picked-other-head : (e : CompactEdge) (es : List CompactEdge) (x : Rows) (g : List Rows) (d : Rows) (b : Assignment) (c : Bool) → p e ≡ c → ((h : List Rows) → picked q es (put p es h b) ≡ picked q es b) → picked q (e ∷ es) (put p (e ∷ es) (x ∷ g) (d ∷ b)) ≡ picked q (e ∷ es) (d ∷ b)
  picked-other-head e es x g d b true is rest = rw is (by_test (q e) refl)
    where
      by_test : (c : Bool) → q e ≡ c → cond c (x ∷ picked q es (put p es g b)) (picked q es (put p es g b)) ≡ cond c (d ∷ picked q es b) (picked q es b)
      by_test true on = absurd (let no : true ≡ false = sym is ∙ apart e on in cc)
      by_test false off = rest g
  picked-other-head e es x g d b false is rest = rw is (ap (λ h. cond (q e) (d ∷ h) h) (rest (x ∷ g)))

  pub picked-other : (es : List CompactEdge) (g : List Rows) (b : Assignment) → picked q es (put p es g b) ≡ picked q es b
  picked-other [] g b = refl
  picked-other (e ∷ es) [] b = refl
  picked-other (e ∷ es) (x ∷ g) [] = refl
  picked-other (e ∷ es) (x ∷ g) (d ∷ b) = picked-other-head e es x g d b (p e) refl (λ h. picked-other es h b)

  agrees-other-head : (e : CompactEdge) (es : List CompactEdge) (x : Rows) (g : List Rows) (d : Rows) (b : Assignment) (c : Bool) → p e ≡ c → ((h : List Rows) → Agrees q es (put p es h b) b) → Agrees q (e ∷ es) (put p (e ∷ es) (x ∷ g) (d ∷ b)) (d ∷ b)
  agrees-other-head e es x g d b true is rest = rw is ((λ on. absurd (let no : true ≡ false = sym is ∙ apart e on in cc)), rest g)
  agrees-other-head e es x g d b false is rest = rw is ((λ on. refl), rest (x ∷ g))

  pub agrees-itself : (es : List CompactEdge) (b : Assignment) → length b ≡ length es → Agrees q es b b
  agrees-itself [] b long = tt
  agrees-itself (e ∷ es) [] long = absurd (omega arith)
  agrees-itself (e ∷ es) (d ∷ b) long = ((λ on. refl), agrees-itself es b (omega arith))

  pub agrees-other : (es : List CompactEdge) (g : List Rows) (b : Assignment) → length b ≡ length es → Agrees q es (put p es g b) b
  agrees-other [] g b long = tt
  agrees-other (e ∷ es) g [] long = absurd (omega arith)
  agrees-other (e ∷ es) [] (d ∷ b) long = agrees-itself (e ∷ es) (d ∷ b) long
  agrees-other (e ∷ es) (x ∷ g) (d ∷ b) long = agrees-other-head e es x g d b (p e) refl (λ h. agrees-other es h b (omega arith))

  -- on the edges that either picks, an assignment is what is picked from it
  near-skip : (e : CompactEdge) (es : List CompactEdge) (d : Rows) (b : Assignment) (c : Bool) → q e ≡ c → put q (e ∷ es) (picked q (e ∷ es) (d ∷ b)) ([] ∷ nothing es) ≡ cond c d [] ∷ put q es (picked q es b) (nothing es)
  near-skip e es d b true on = rw (on, on) refl
  near-skip e es d b false off = ap (λ k. put q (e ∷ es) k ([] ∷ nothing es)) (ap (λ c. cond c (d ∷ picked q es b) (picked q es b)) off) ∙ put-skip q e es (picked q es b) [] (nothing es) off

  near-head : (e : CompactEdge) (es : List CompactEdge) (g : List Rows) (d : Rows) (b : Assignment) (c : Bool) → p e ≡ c → length g ≡ length (cond c (e ∷ filter p es) (filter p es)) → ((h : List Rows) → length h ≡ length (filter p es) → Agrees (λ e. q e || p e) es (put p es h b) (put p es h (put q es (picked q es b) (nothing es)))) → Agrees (λ e. q e || p e) (e ∷ es) (put p (e ∷ es) g (d ∷ b)) (put p (e ∷ es) g (cond (q e) d [] ∷ put q es (picked q es b) (nothing es)))
  near-head e es [] d b true is long rest = absurd (omega arith)
  near-head e es (x ∷ g) d b true is long rest = rw is ((λ on. refl), rest g (omega arith))
  near-head e es g d b false is long rest = rw (put-skip p e es g d b is, put-skip p e es g (cond (q e) d []) (put q es (picked q es b) (nothing es)) is) (heads, rest g long)
    where
      heads : (q e || p e) ≡ true → d ≡ cond (q e) d []
      heads on = by_test (q e) (rw is at on)
        where
          by_test : (c : Bool) → (c || false) ≡ true → d ≡ cond c d []
          by_test true h = refl
          by_test false h = cc

  pub near-agrees : (es : List CompactEdge) (g : List Rows) (b : Assignment) → length b ≡ length es → length g ≡ length (filter p es) → Agrees (λ e. q e || p e) es (put p es g b) (put p es g (put q es (picked q es b) (nothing es)))
  near-agrees [] g b long same = tt
  near-agrees (e ∷ es) g [] long same = absurd (omega arith)
  near-agrees (e ∷ es) g (d ∷ b) long same = rw (near-skip e es d b (q e) refl) (near-head e es g d b (p e) refl same (λ h. near-agrees es h b (omega arith)))

pub agrees-picked : (p : CompactEdge → Bool) (es : List CompactEdge) (a b : Assignment) → Agrees p es a b → picked p es a ≡ picked p es b
agrees-picked p [] a b same = refl
agrees-picked p (e ∷ es) [] b same = absurd same
agrees-picked p (e ∷ es) (x ∷ a) [] same = absurd same
agrees-picked p (e ∷ es) (x ∷ a) (y ∷ b) same = heads (p e) same.0 (agrees-picked p es a b same.1)
  where
    heads : (c : Bool) → (c ≡ true → x ≡ y) → picked p es a ≡ picked p es b → cond c (x ∷ picked p es a) (picked p es a) ≡ cond c (y ∷ picked p es b) (picked p es b)
    heads true first rest = ap (λ z. z ∷ picked p es a) (first refl) ∙ ap (λ k. y ∷ k) rest
    heads false first rest = rest
