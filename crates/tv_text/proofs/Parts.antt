-- How the lines follow from the parts between line feeds, one part after another.
use Rattle.std.proofs.Common.{◌≡◌, ℕ, ◌+◌, ◌<◌, ◌≤◌, List, [], ◌∷◌, ◌++◌, length, map, drop, get_or, refl, sym, ◌∙◌, ap, append_assoc, add-one, arith, drop-cons, length-drop, false, cond, ◌==◌}
use Rattle.std.proofs.lemmas.Bool.Decides.{nat_tests}
use Rattle.std.proofs.lemmas.List.{drop_all, length-map}
use Rattle.std.specs.Str.Lines.{lines_of_parts, strip_carriage_return}

before_last : (p : List ℕ) (more : List (List ℕ)) → 0 < length more → lines_of_parts (p ∷ more) ≡ strip_carriage_return p ∷ lines_of_parts more
before_last p [] h = absurd (omega arith)
before_last p (q ∷ more) h = refl

last : (p : List ℕ) → 0 < length p → lines_of_parts (p ∷ []) ≡ p ∷ []
last p h = let full : (length p == 0) ≡ false = grind (arith, nat_tests) in ap (λ b. cond b [] (p ∷ [])) full

empty : (p : List ℕ) → length p ≡ 0 → lines_of_parts (p ∷ []) ≡ []
empty [] h = refl
empty (b ∷ p) h = absurd (omega arith)

-- what is done, and what is left to do
abbrev pub AllLines : {A : Type 0} → (A → List ℕ) → List (List ℕ) → ℕ → List A → Type 0
AllLines f done i ps = done ++ lines_of_parts (map f (drop i ps)) ≡ lines_of_parts (map f ps)

cut : {A : Type 0} (i : ℕ) (ps : List A) (d : A) → i + 1 ≤ length ps → drop i ps ≡ get_or ps i d ∷ drop (i + 1) ps
cut i ps d h = let l : i < length ps = omega arith in drop-cons ps i d l ∙ ap (λ k. get_or ps i d ∷ drop k ps) (sym (add-one i))

some_left : {A : Type 0} (f : A → List ℕ) (i : ℕ) (ps : List A) → i + 1 < length ps → 0 < length (map f (drop (i + 1) ps))
some_left f i ps h = simp (length-map, length-drop) (omega arith)

pub AllLines-more : {A : Type 0} (f : A → List ℕ) (done : List (List ℕ)) (i : ℕ) (ps : List A) (d : A) (x : List ℕ) → AllLines f done i ps → i + 1 < length ps → x ≡ strip_carriage_return (f (get_or ps i d)) → AllLines f (done ++ x ∷ []) (i + 1) ps
AllLines-more f done i ps d x h l e =
    let parts : lines_of_parts (map f (drop i ps)) ≡ x ∷ lines_of_parts (map f (drop (i + 1) ps)) =
    ap (λ z. lines_of_parts (map f z)) (cut i ps d (omega arith)) ∙ before_last _ _ (some_left f i ps l) ∙ ap (λ z. z ∷ lines_of_parts (map f (drop (i + 1) ps))) (sym e) in
    append_assoc done (x ∷ []) _ ∙ ap (λ z. done ++ z) (sym parts) ∙ h

alone : {A : Type 0} (f : A → List ℕ) (i : ℕ) (ps : List A) (d : A) → i + 1 ≡ length ps → map f (drop i ps) ≡ f (get_or ps i d) ∷ []
alone f i ps d l = ap (map f) (cut i ps d (omega arith)) ∙ ap (λ z. f (get_or ps i d) ∷ map f z) (drop_all (i + 1) ps (omega arith))

nothing : {A : Type 0} (f : A → List ℕ) (i : ℕ) (ps : List A) → i + 1 ≡ length ps → lines_of_parts (map f (drop (i + 1) ps)) ≡ []
nothing f i ps l = ap (λ z. lines_of_parts (map f z)) (drop_all (i + 1) ps (omega arith))

pub AllLines-last : {A : Type 0} (f : A → List ℕ) (done : List (List ℕ)) (i : ℕ) (ps : List A) (d : A) → AllLines f done i ps → i + 1 ≡ length ps → 0 < length (f (get_or ps i d)) → AllLines f (done ++ f (get_or ps i d) ∷ []) (i + 1) ps
AllLines-last f done i ps d h l e =
    let x = f (get_or ps i d) in
    let parts : lines_of_parts (map f (drop i ps)) ≡ x ∷ lines_of_parts (map f (drop (i + 1) ps)) =
    ap lines_of_parts (alone f i ps d l) ∙ last x e ∙ ap (λ z. x ∷ z) (sym (nothing f i ps l)) in
    append_assoc done (x ∷ []) _ ∙ ap (λ z. done ++ z) (sym parts) ∙ h

pub AllLines-empty : {A : Type 0} (f : A → List ℕ) (done : List (List ℕ)) (i : ℕ) (ps : List A) (d : A) → AllLines f done i ps → i + 1 ≡ length ps → length (f (get_or ps i d)) ≡ 0 → AllLines f done (i + 1) ps
AllLines-empty f done i ps d h l e =
    let parts : lines_of_parts (map f (drop i ps)) ≡ lines_of_parts (map f (drop (i + 1) ps)) =
    ap lines_of_parts (alone f i ps d l) ∙ empty (f (get_or ps i d)) e ∙ sym (nothing f i ps l) in
    ap (λ z. done ++ z) (sym parts) ∙ h
