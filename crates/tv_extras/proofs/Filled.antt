-- Each step of the corners keeps the fillings to come.
use Rattle.std.proofs.Common.{◌≡◌, ℕ, suc, ◌-◌, ◌<◌, ◌≤◌, Bool, true, false, List, [], ◌∷◌, ◌++◌, map, length, arith, refl, sym, ◌∙◌, ap, subst, append-nil}
use Rattle.std.specs.Prelude.{cond, nat_eq}
use Rattle.std.specs.List.{flat_map, range_with_len}
use Rattle.std.proofs.lemmas.List.{length-map}
use Rattle.std.proofs.lemmas.Bool.Decides.{nat_tests}
use Rattle.tv_lemmas.proofs.Lists.{flat_map-same, flat_map-flat_map, flat_map-none, flat_map-last}
use Rattle.tv_cells.specs.declared.cell.Cell.{Cell}
use Rattle.tv_cells.specs.declared.legs.Legs.{Legs}
use Rattle.tv_spec_boxes.specs.Configurations.{extras_of, fillings}
use Rattle.tv_extras.specs.declared.nodes.Node.{Node}
use Rattle.tv_extras.specs.Sized.{SizedSet, of_size, all_of_size, sized, IsSized, IsSizedSame, IsAdvanced, IsExhausted, Advances}
use Rattle.tv_extras.specs.Nodes.{Filling, behind, ways, legs_of, currents, beyond, inside_of, to_fill, IsNode, AreNodes, IsKept, IsSameFill, IsFilled, IsAllFilled, Gives, GivesInside, IsMovedOn, IsUnmoved, IsRestarted}

-- ---- the parts of what is to come

pub outside-none : (node : Node) (fills : List Filling) → node.inside ≡ false → inside_of node fills ≡ []
unfolding inside_of
outside-none node fills e = ap (λ b. cond b (behind node.sets.search.chosen.items fills) []) e

pub inside-is : (node : Node) (fills : List Filling) → node.inside ≡ true → inside_of node fills ≡ behind node.sets.search.chosen.items fills
unfolding inside_of
inside-is node fills e = ap (λ b. cond b (behind node.sets.search.chosen.items fills) []) e

pub inside-none : (node : Node) (fills : List Filling) → fills ≡ [] → inside_of node fills ≡ []
unfolding inside_of
inside-none node fills e = ap (λ f. cond node.inside (behind node.sets.search.chosen.items f) []) e ∙ by node.inside
  where
    by : (b : Bool) → cond b (behind node.sets.search.chosen.items []) [] ≡ []
    by true = refl
    by false = refl

-- what is empty behind one set is so behind another
inside-still : (s t : Node) (fills : List Filling) → t.inside ≡ s.inside → inside_of s fills ≡ [] → inside_of t fills ≡ []
unfolding inside_of
inside-still s t fills e none = ap (λ b. cond b (behind t.sets.search.chosen.items fills) []) e ∙ by s.inside fills none
  where
    by : (b : Bool) (fs : List Filling) → cond b (behind s.sets.search.chosen.items fs) [] ≡ [] → cond b (behind t.sets.search.chosen.items fs) [] ≡ []
    by true [] n = refl
    by true (f ∷ fs) n = cc
    by false fs n = refl

beyond-same : (s t : Node) (rest now : List Legs) → IsSizedSame s.sets t.sets → now ≡ rest → beyond t now ≡ beyond s rest
unfolding beyond
beyond-same s t rest now same e =
    ap (λ r. ways (fillings r t.sets.most) t.sets.last (sized t.sets)) e
    ∙ (ap (λ m. ways (fillings rest m) t.sets.last (sized t.sets)) same.most
    ∙ (ap (λ l. ways (fillings rest s.sets.most) l (sized t.sets)) same.last
    ∙ ap (ways (fillings rest s.sets.most) s.sets.last) same.same))

beyond-none : (s : Node) (rest : List Legs) → sized s.sets ≡ [] → beyond s rest ≡ []
unfolding beyond
beyond-none s rest e = ap (ways (fillings rest s.sets.most) s.sets.last) e

beyond-first : (s t : Node) (rest : List Legs) → IsAdvanced s.sets t.sets → beyond s rest ≡ behind t.sets.search.chosen.items (fillings rest t.sets.most (t.sets.last - t.sets.size)) ++ beyond t rest
unfolding beyond
beyond-first s t rest a =
    ap (ways (fillings rest s.sets.most) s.sets.last) a.first
    ∙ (ap (λ m. ways (fillings rest m) s.sets.last (of_size t.sets.size t.sets.search.chosen.items ∷ sized t.sets)) (sym a.most)
    ∙ ap (λ l. ways (fillings rest t.sets.most) l (of_size t.sets.size t.sets.search.chosen.items ∷ sized t.sets)) (sym a.last))

pub kept-itself : (most : ℕ) (nodes : List Node) → AreNodes most nodes → IsKept most nodes nodes
kept-itself most nodes v = record { valid = v; legs = refl }

pub kept-length : (most : ℕ) (s t : List Node) → IsKept most s t → length t ≡ length s
kept-length most s t k = sym (length-map t (λ node. node.sets.search.legs)) ∙ (ap length k.legs ∙ length-map s (λ node. node.sets.search.legs))

-- a first corner that may stand at any of its sets
module _ (most : ℕ) (s t : Node) (l m : List Node) (v : IsNode most s l) (some : 0 < length l) (kept : IsKept most l m) where
  node-by : IsSized t.sets → t.sets.most ≡ s.sets.most → IsNode most t m
  node-by sets e =
      let long = kept-length most l m kept in
      record {
        sets = sets;
        limit = e ∙ v.limit;
        full = λ none. absurd (omega arith);
        outside = λ none. absurd (omega arith);
      }

  kept-by : IsSized t.sets → t.sets.most ≡ s.sets.most → t.sets.search.legs ≡ s.sets.search.legs → IsKept most (s ∷ l) (t ∷ m)
  kept-by sets e legs = record {
    valid = (node-by sets e, kept.valid);
    legs = ap (λ g. g ∷ legs_of m) legs ∙ ap (λ gs. s.sets.search.legs ∷ gs) kept.legs;
  }

  -- nothing is left inside the set: the corner moves on
  pub step-none : inside_of s (to_fill l) ≡ [] → IsMovedOn false s t → IsAllFilled most (s ∷ l) (t ∷ m)
  unfolding to_fill
  step-none none moved =
      let k = moved.sets.kept in
      record {
        kept = kept-by k.valid k.most k.legs;
        was = ap (λ fs. fs ++ beyond s (legs_of l)) none ∙ beyond-none s (legs_of l) (sym k.same ∙ moved.sets.none);
        is = ap (λ fs. fs ++ beyond t (legs_of m)) (outside-none t (to_fill m) moved.inside) ∙ beyond-none t (legs_of m) moved.sets.none;
      }

  pub step-same : inside_of s (to_fill l) ≡ [] → inside_of s (to_fill m) ≡ [] → IsUnmoved s t → IsSameFill most (s ∷ l) (t ∷ m)
  unfolding to_fill
  step-same was is unmoved =
      let k = unmoved.sets in
      record {
        kept = kept-by k.valid k.most k.legs;
        same =
            ap (λ fs. fs ++ beyond t (legs_of m)) (inside-still s t (to_fill m) unmoved.inside is)
            ∙ (beyond-same s t (legs_of l) (legs_of m) k kept.legs ∙ ap (λ fs. fs ++ beyond s (legs_of l)) (sym was));
      }

  pub step-next : inside_of s (to_fill l) ≡ [] → IsMovedOn true s t → to_fill m ≡ fillings (legs_of l) most (t.sets.last - t.sets.size) → IsSameFill most (s ∷ l) (t ∷ m)
  unfolding to_fill
  step-next was moved all =
      let a = moved.sets in
      let limit : most ≡ t.sets.most = sym (a.most ∙ v.limit) in
      record {
        kept = kept-by a.valid a.most a.legs;
        same =
            ap (λ fs. fs ++ beyond t (legs_of m)) (inside-is t (to_fill m) moved.inside ∙ ap (behind t.sets.search.chosen.items) (all ∙ ap (λ n. fillings (legs_of l) n (t.sets.last - t.sets.size)) limit))
            ∙ (ap (λ r. behind t.sets.search.chosen.items (fillings (legs_of l) t.sets.most (t.sets.last - t.sets.size)) ++ beyond t r) kept.legs
            ∙ (sym (beyond-first s t (legs_of l) a) ∙ ap (λ fs. fs ++ beyond s (legs_of l)) (sym was)));
      }

-- the corner stays where it is
module _ (most : ℕ) (s : Node) (l m : List Node) (v : IsNode most s l) where
  stays : IsKept most l m → IsKept most (s ∷ l) (s ∷ m)
  stays kept =
      let long = kept-length most l m kept in
      record {
        valid = (record { sets = v.sets; limit = v.limit; full = λ none. v.full (omega arith); outside = λ none. v.outside (omega arith) }, kept.valid);
        legs = ap (λ gs. s.sets.search.legs ∷ gs) kept.legs;
      }

  pub inside-found : s.inside ≡ true → IsFilled most l m → IsFilled most (s ∷ l) (s ∷ m)
  unfolding to_fill
  inside-found inside filled = record {
    kept = stays filled.kept;
    first =
        ap (λ fs. fs ++ beyond s (legs_of l)) (inside-is s (to_fill l) inside ∙ ap (behind s.sets.search.chosen.items) filled.first)
        ∙ (ap (λ r. (s.sets.search.chosen.items ∷ currents m) ∷ (behind s.sets.search.chosen.items (to_fill m) ++ beyond s r)) (sym filled.kept.legs)
        ∙ ap (λ fs. (s.sets.search.chosen.items ∷ currents m) ∷ (fs ++ beyond s (legs_of m))) (sym (inside-is s (to_fill m) inside)));
  }

  pub inside-same : IsSameFill most l m → IsSameFill most (s ∷ l) (s ∷ m)
  unfolding to_fill
  inside-same same = record {
    kept = stays same.kept;
    same = ap (λ fs. inside_of s fs ++ beyond s (legs_of m)) same.same ∙ ap (λ r. inside_of s (to_fill l) ++ beyond s r) same.kept.legs;
  }

pub fill-after : (most : ℕ) (s t u : List Node) → IsSameFill most s t → IsSameFill most t u → IsSameFill most s u
fill-after most s t u a b = record { kept = record { valid = b.kept.valid; legs = b.kept.legs ∙ a.kept.legs }; same = b.same ∙ a.same }

pub filled-after : (most : ℕ) (s t u : List Node) → IsSameFill most s t → IsFilled most t u → IsFilled most s u
filled-after most s t u a b = record { kept = record { valid = b.kept.valid; legs = b.kept.legs ∙ a.kept.legs }; first = sym a.same ∙ b.first }

pub none-after : (most : ℕ) (s t u : List Node) → IsSameFill most s t → IsAllFilled most t u → IsAllFilled most s u
none-after most s t u a b = record { kept = record { valid = b.kept.valid; legs = b.kept.legs ∙ a.kept.legs }; was = sym a.same ∙ b.was; is = b.is }

-- ---- the last corner

none-wanted : (most n : ℕ) → n ≡ 0 → fillings [] most n ≡ [] ∷ []
unfolding fillings
none-wanted most n e = rw e refl

some-wanted : (most n : ℕ) → 0 < n → fillings [] most n ≡ []
unfolding fillings
some-wanted most n l = let off : nat_eq n 0 ≡ false = grind (arith, nat_tests) in rw off refl

module _ (most : ℕ) (s t : Node) (v : IsNode most s []) (inside : t.inside ≡ s.inside) where
  last-kept : IsSized t.sets → t.sets.most ≡ s.sets.most → t.sets.last ≡ s.sets.last → s.sets.size ≤ t.sets.size → t.sets.search.legs ≡ s.sets.search.legs → IsKept most (s ∷ []) (t ∷ [])
  last-kept sets e last more legs =
      let full = v.full refl in
      record {
        valid = (record { sets = sets; limit = e ∙ v.limit; full = λ none. omega (arith, sets.size); outside = λ none. inside ∙ v.outside refl }, tt);
        legs = ap (λ g. g ∷ []) legs;
      }

  pub last-found : IsAdvanced s.sets t.sets → IsFilled most (s ∷ []) (t ∷ [])
  unfolding to_fill
  last-found a =
      let full = v.full refl in
      let over : t.sets.last - t.sets.size ≡ 0 = omega (arith, a.last, a.size, a.valid.size) in
      record {
        kept = last-kept a.valid a.most a.last a.size a.legs;
        first =
            ap (λ fs. fs ++ beyond s []) (outside-none s [] (v.outside refl))
            ∙ (beyond-first s t [] a
            ∙ (ap (λ fs. behind t.sets.search.chosen.items fs ++ beyond t []) (none-wanted t.sets.most (t.sets.last - t.sets.size) over)
            ∙ ap (λ fs. (t.sets.search.chosen.items ∷ []) ∷ (fs ++ beyond t [])) (sym (outside-none t [] (inside ∙ v.outside refl)))));
      }

  last-same-fill : IsSizedSame s.sets t.sets → to_fill (t ∷ []) ≡ to_fill (s ∷ [])
  unfolding to_fill
  last-same-fill k =
      ap (λ fs. fs ++ beyond t []) (outside-none t [] (inside ∙ v.outside refl))
      ∙ (beyond-same s t [] [] k refl ∙ ap (λ fs. fs ++ beyond s []) (sym (outside-none s [] (v.outside refl))))

  pub last-same : IsSizedSame s.sets t.sets → IsSameFill most (s ∷ []) (t ∷ [])
  last-same k = record { kept = last-kept k.valid k.most k.last k.size k.legs; same = last-same-fill k }

  pub last-none : IsExhausted s.sets t.sets → IsAllFilled most (s ∷ []) (t ∷ [])
  unfolding to_fill
  last-none e =
      let k = e.kept in
      let none : to_fill (t ∷ []) ≡ [] = ap (λ fs. fs ++ beyond t []) (outside-none t [] (inside ∙ v.outside refl)) ∙ beyond-none t [] e.none in
      record {
        kept = last-kept k.valid k.most k.last k.size k.legs;
        was = sym (last-same-fill k) ∙ none;
        is = none;
      }

-- ---- the beginning

flat_map-map : {A B C : Type 0} (f : B → List C) (h : A → B) (xs : List A) → flat_map f (map h xs) ≡ flat_map (λ x. f (h x)) xs
flat_map-map f h [] = refl
flat_map-map f h (x ∷ xs) = ap (λ ys. f (h x) ++ ys) (flat_map-map f h xs)

-- the fillings with i boxes at the first corner
abbrev with_first : Legs → ℕ → (ℕ → List Filling) → ℕ → ℕ → List Filling
with_first legs most rest n i = flat_map (λ s. behind s (rest (n - i))) (extras_of legs most i)

ways-all : (legs : Legs) (most n : ℕ) (rest : ℕ → List Filling) (sizes : List ℕ) → ways rest n (flat_map (all_of_size legs most) sizes) ≡ flat_map (with_first legs most rest n) sizes
ways-all legs most n rest sizes =
    flat_map-flat_map (λ (s : SizedSet). behind s.cells (rest (n - s.boxes))) (all_of_size legs most) sizes
    ∙ flat_map-same (λ i. flat_map (λ (s : SizedSet). behind s.cells (rest (n - s.boxes))) (all_of_size legs most i)) (with_first legs most rest n)
    (λ i. flat_map-map (λ (s : SizedSet). behind s.cells (rest (n - s.boxes))) (of_size i) (extras_of legs most i)) sizes

fillings-first : (legs : Legs) (rest : List Legs) (most n : ℕ) → fillings (legs ∷ rest) most n ≡ flat_map (with_first legs most (fillings rest most) n) (range_with_len 0 (suc n))
unfolding fillings
fillings-first legs rest most n = refl

-- the one corner takes all
fillings-one : (legs : Legs) (most n : ℕ) → fillings (legs ∷ []) most n ≡ flat_map (with_first legs most (fillings [] most) n) (range_with_len n (suc (n - n)))
fillings-one legs most n =
    let over : n - n ≡ 0 = omega arith in
    let F : ℕ → List Filling = with_first legs most (fillings [] most) n in
    fillings-first legs [] most n
    ∙ (flat_map-last F 0 n (λ j h. ap (λ fs. flat_map (λ (s : List Cell). behind s fs) (extras_of legs most j)) (some-wanted most (n - j) (omega arith)) ∙ flat_map-none (extras_of legs most j))
    ∙ (ap F (omega arith) ∙ (sym (append-nil (F n)) ∙ ap (λ k. flat_map F (range_with_len n (suc k))) (sym over))))

module _ (most first n : ℕ) (s t : Node) (l : List Node) (v : IsNode most s l) (others : AreNodes most l) (r : IsRestarted first n s t) where
  restarted-fill : to_fill (t ∷ l) ≡ flat_map (with_first s.sets.search.legs most (fillings (legs_of l) most) n) (range_with_len first (suc (n - first)))
  unfolding to_fill beyond
  restarted-fill =
      let limit : t.sets.most ≡ most = r.most ∙ v.limit in
      ap (λ fs. fs ++ ways (fillings (legs_of l) t.sets.most) t.sets.last (sized t.sets)) (outside-none t (to_fill l) r.inside)
      ∙ (ap (λ m. ways (fillings (legs_of l) m) t.sets.last (sized t.sets)) limit
      ∙ (ap (λ k. ways (fillings (legs_of l) most) k (sized t.sets)) r.greatest
      ∙ (ap (ways (fillings (legs_of l) most) n) (r.value ∙ ap (λ m. flat_map (all_of_size s.sets.search.legs m) (range_with_len first (suc (n - first)))) v.limit)
      ∙ ways-all s.sets.search.legs most n (fillings (legs_of l) most) (range_with_len first (suc (n - first))))))

  restarted-kept : (length l ≡ 0 → first ≡ n) → IsKept most (s ∷ l) (t ∷ l)
  restarted-kept full = record {
    valid = (record { sets = r.sets; limit = r.most ∙ v.limit; full = λ none. r.size ∙ (full none ∙ sym r.greatest); outside = λ none. r.inside }, others);
    legs = ap (λ g. g ∷ legs_of l) r.legs;
  }

pub enter-more : (most n : ℕ) (s t : Node) (l : List Node) → IsNode most s l → AreNodes most l → IsRestarted 0 n s t → to_fill (t ∷ l) ≡ fillings (legs_of (s ∷ l)) most n
enter-more most n s t l v others r =
    let all : n - 0 ≡ n = omega arith in
    restarted-fill most 0 n s t l v others r
    ∙ (ap (λ k. flat_map (with_first s.sets.search.legs most (fillings (legs_of l) most) n) (range_with_len 0 (suc k))) all
    ∙ sym (fillings-first s.sets.search.legs (legs_of l) most n))

pub enter-one : (most n : ℕ) (s t : Node) (l : List Node) → length l ≡ 0 → IsNode most s l → AreNodes most l → IsRestarted n n s t → to_fill (t ∷ l) ≡ fillings (legs_of (s ∷ l)) most n
enter-one most n s t (node ∷ l) none v others r = absurd (omega arith)
enter-one most n s t [] none v others r = restarted-fill most n n s t [] v others r ∙ sym (fillings-one s.sets.search.legs most n)

pub enter-kept : (most first n : ℕ) (s t : Node) (l : List Node) → (length l ≡ 0 → first ≡ n) → IsNode most s l → AreNodes most l → IsRestarted first n s t → IsKept most (s ∷ l) (t ∷ l)
enter-kept most first n s t l full v others r = restarted-kept most first n s t l v others r full

-- ---- what each return of the search tells

pub none-filled : (most : ℕ) (nodes : List Node) → length nodes ≡ 0 → AreNodes most nodes → IsAllFilled most nodes nodes
unfolding to_fill
none-filled most [] e v = record { kept = kept-itself most [] v; was = refl; is = refl }
none-filled most (node ∷ nodes) e v = absurd (omega arith)

pub last-gives : (most : ℕ) (nodes later : List Node) (s t : Node) → nodes ≡ s ∷ later → length later ≡ 0 → AreNodes most nodes → t.inside ≡ s.inside → (found : Bool) → Advances found s.sets t.sets → Gives most found nodes (t ∷ later)
last-gives most nodes (node ∷ later) s t e none v inside found a = absurd (omega arith)
last-gives most nodes [] s t e none v inside true a =
    let P : List Node → Type 0 = λ ns. IsFilled most ns (t ∷ []) in
    let first = subst (AreNodes most) e v in
    subst P (sym e) (last-found most s t first.0 inside a)
last-gives most nodes [] s t e none v inside false a =
    let P : List Node → Type 0 = λ ns. IsAllFilled most ns (t ∷ []) in
    let first = subst (AreNodes most) e v in
    subst P (sym e) (last-none most s t first.0 inside a)

pub last-keeps : (most : ℕ) (nodes later : List Node) (s t : Node) → nodes ≡ s ∷ later → length later ≡ 0 → AreNodes most nodes → t.inside ≡ s.inside → IsSizedSame s.sets t.sets → IsSameFill most nodes (t ∷ later)
last-keeps most nodes (node ∷ later) s t e none v inside k = absurd (omega arith)
last-keeps most nodes [] s t e none v inside k =
    let P : List Node → Type 0 = λ ns. IsSameFill most ns (t ∷ []) in
    let first = subst (AreNodes most) e v in
    subst P (sym e) (last-same most s t first.0 inside k)

pub same-from : (most : ℕ) (nodes s t u : List Node) → nodes ≡ s → IsSameFill most s t → IsSameFill most t u → IsSameFill most nodes u
same-from most nodes s t u e a b = let P : List Node → Type 0 = λ ns. IsSameFill most ns u in subst P (sym e) (fill-after most s t u a b)

pub filled-from : (most : ℕ) (nodes s t u : List Node) → nodes ≡ s → IsSameFill most s t → IsFilled most t u → IsFilled most nodes u
filled-from most nodes s t u e a b = let P : List Node → Type 0 = λ ns. IsFilled most ns u in subst P (sym e) (filled-after most s t u a b)

pub none-from : (most : ℕ) (nodes s t u : List Node) → nodes ≡ s → IsSameFill most s t → IsAllFilled most t u → IsAllFilled most nodes u
none-from most nodes s t u e a b = let P : List Node → Type 0 = λ ns. IsAllFilled most ns u in subst P (sym e) (none-after most s t u a b)

pub kept-after : (most : ℕ) (s t u : List Node) → IsKept most s t → IsKept most t u → IsKept most s u
kept-after most s t u a b = record { valid = b.valid; legs = b.legs ∙ a.legs }

pub inside-gives : (most : ℕ) (s : Node) (l m : List Node) → s.inside ≡ true → (found : Bool) → Gives most found l m → GivesInside most s found l m
inside-gives most s l m e true g = (e, g)
inside-gives most s l m e false g = (g.kept, inside-none s (to_fill l) g.was, inside-none s (to_fill m) g.is)

pub gives-found : (most : ℕ) (s : Node) (l m : List Node) (b : Bool) → b ≡ true → GivesInside most s b l m → (s.inside ≡ true) × IsFilled most l m
gives-found most s l m true e g = g
gives-found most s l m false e g = cc

pub gives-none : (most : ℕ) (s : Node) (l m : List Node) (b : Bool) → b ≡ false → GivesInside most s b l m → IsKept most l m × (inside_of s (to_fill l) ≡ []) × (inside_of s (to_fill m) ≡ [])
gives-none most s l m false e g = g
gives-none most s l m true e g = cc

pub moved-at : (b v : Bool) (s t : Node) → b ≡ v → IsMovedOn b s t → IsMovedOn v s t
moved-at b v s t e m = let P : Bool → Type 0 = λ x. IsMovedOn x s t in subst P e m
