-- What is picked and put, one place after the other: what is done and what is left make the whole.
use Rattle.std.proofs.Common.{◌≡◌, ℕ, zero, suc, ◌+◌, ◌<◌, ◌≤◌, Bool, true, false, cond, List, [], ◌∷◌, ◌++◌, length, drop, take, get_or, refl, sym, ap, ◌∙◌, arith, append_assoc, append-nil, add-one}
use Rattle.std.specs.Prelude.{◌&&◌, nat_lt}
use Rattle.std.proofs.lemmas.Bool.{ltb-true, ltb-false}
use Rattle.std.proofs.Math.Seq.{drop-cons}
use Rattle.std.proofs.lemmas.List.{get_or_read, drop_all}
use Rattle.tv_spec_plane.specs.declared.records.CompactEdge.{CompactEdge}
use Rattle.tv_laws_frontier.specs.Steps.{nothing}
use Rattle.tv_frontier.specs.Picks.{picks, put_by}

picks-step : {A : Type 0} (fs : List Bool) (xs : List A) (k : ℕ) (d : A) → k < length xs → picks (drop k fs) (drop k xs) ≡ cond (get_or fs k false) (get_or xs k d ∷ picks (drop (suc k) fs) (drop (suc k) xs)) (picks (drop (suc k) fs) (drop (suc k) xs))
picks-step fs [] k d h = absurd (omega arith)
picks-step [] (x ∷ xs) zero d h = refl
picks-step [] (x ∷ xs) (suc k) d h = refl
picks-step (f ∷ fs) (x ∷ xs) zero d h = refl
picks-step (f ∷ fs) (x ∷ xs) (suc k) d h = picks-step fs xs k d (omega arith)

picks-past : {A : Type 0} (fs : List Bool) (xs : List A) → xs ≡ [] → picks fs xs ≡ []
picks-past [] xs e = refl
picks-past (f ∷ fs) xs e = rw e refl

pub picked-last : {A : Type 0} (fs : List Bool) (xs done whole : List A) (k : ℕ) → length xs ≤ k → done ++ picks (drop k fs) (drop k xs) ≡ whole → done ≡ whole
picked-last fs xs done whole k h e = sym (append-nil done) ∙ (ap (λ rest. done ++ rest) (sym (picks-past (drop k fs) (drop k xs) (drop_all k xs h))) ∙ e)

by-flag : {A : Type 0} (f : Bool) (x : A) (done rest : List A) → cond f (done ++ x ∷ []) done ++ rest ≡ done ++ cond f (x ∷ rest) rest
by-flag true x done rest = append_assoc done (x ∷ []) rest
by-flag false x done rest = refl

pub picked-next : {A : Type 0} (fs : List Bool) (xs done next whole : List A) (k : ℕ) (f : Bool) (x : A) → k < length xs → x ≡ get_or xs k x → f ≡ get_or fs k false → next ≡ cond f (done ++ x ∷ []) done → done ++ picks (drop k fs) (drop k xs) ≡ whole → next ++ picks (drop (k + 1) fs) (drop (k + 1) xs) ≡ whole
picked-next fs xs done next whole k f x h read flag pushed before =
    let up : k + 1 ≡ suc k = omega arith in
    rw (up, pushed) (by-flag f x done (picks (drop (suc k) fs) (drop (suc k) xs))
    ∙ (ap (λ g. done ++ cond g (x ∷ picks (drop (suc k) fs) (drop (suc k) xs)) (picks (drop (suc k) fs) (drop (suc k) xs))) flag
    ∙ (ap (λ y. done ++ cond (get_or fs k false) (y ∷ picks (drop (suc k) fs) (drop (suc k) xs)) (picks (drop (suc k) fs) (drop (suc k) xs))) read
    ∙ (ap (λ rest. done ++ rest) (sym (picks-step fs xs k x h)) ∙ before))))

-- ---- what is put

put-none : {A : Type 0} (fs : List Bool) (a : List A) → put_by fs [] a ≡ a
put-none [] a = refl
put-none (f ∷ fs) [] = refl
put-none (f ∷ fs) (y ∷ a) = refl

put-past : {A : Type 0} (fs : List Bool) (g a : List A) → a ≡ [] → put_by fs g a ≡ []
put-past [] g a e = e
put-past (f ∷ fs) [] a e = e
put-past (f ∷ fs) (x ∷ g) a e = rw e refl

module _ {A : Type 0} (fs : List Bool) (a : List A) (y d : A) (g : List A) (j : ℕ) where
  put-more : (f : Bool) → j < length g → put_by (f ∷ fs) (drop j g) (y ∷ a) ≡ cond (f && true) (get_or g j d) y ∷ put_by fs (drop (cond (f && true) (j + 1) j) g) a
  put-more true h = rw (drop-cons g j d, add-one) refl
  put-more false h = rw (drop-cons g j d) refl

  put-less : (f : Bool) → length g ≤ j → put_by (f ∷ fs) (drop j g) (y ∷ a) ≡ cond (f && false) (get_or g j d) y ∷ put_by fs (drop (cond (f && false) (j + 1) j) g) a
  put-less true h = rw (drop_all j g h) (ap (λ z. y ∷ z) (sym (put-none fs a)))
  put-less false h = rw (drop_all j g h) (ap (λ z. y ∷ z) (sym (put-none fs a)))

  put-head : (f b : Bool) → nat_lt j (length g) ≡ b → put_by (f ∷ fs) (drop j g) (y ∷ a) ≡ cond (f && b) (get_or g j d) y ∷ put_by fs (drop (cond (f && b) (j + 1) j) g) a
  put-head f true e = put-more f (ltb-true j (length g) e)
  put-head f false e = put-less f (ltb-false j (length g) e)

put-step : {A : Type 0} (fs : List Bool) (g a : List A) (k j : ℕ) (d : A) → k < length a →
    put_by (drop k fs) (drop j g) (drop k a) ≡ cond (get_or fs k false && nat_lt j (length g)) (get_or g j d) (get_or a k d) ∷ put_by (drop (suc k) fs) (drop (cond (get_or fs k false && nat_lt j (length g)) (j + 1) j) g) (drop (suc k) a)
put-step fs g [] k j d h = absurd (omega arith)
put-step [] g (y ∷ a) zero j d h = refl
put-step [] g (y ∷ a) (suc k) j d h = drop-cons a k d (let l : k < length a = omega arith in l)
put-step (f ∷ fs) g (y ∷ a) (suc k) j d h = put-step fs g a k j d (omega arith)
put-step (f ∷ fs) g (y ∷ a) zero j d h = put-head fs a y d g j f (nat_lt j (length g)) refl

pub put-last : {A : Type 0} (fs : List Bool) (g a done whole : List A) (k : ℕ) → length a ≤ k → done ++ put_by (drop k fs) g (drop k a) ≡ whole → done ≡ whole
put-last fs g a done whole k h e = sym (append-nil done) ∙ (ap (λ rest. done ++ rest) (sym (put-past (drop k fs) g (drop k a) (drop_all k a h))) ∙ e)

pub put-next : {A : Type 0} (fs : List Bool) (g a done next whole : List A) (k j i : ℕ) (f : Bool) (y d : A) → k < length a → y ≡ get_or a k y → f ≡ get_or fs k false → next ≡ done ++ cond (f && nat_lt j (length g)) (get_or g j d) y ∷ [] → i ≡ cond (f && nat_lt j (length g)) (j + 1) j → done ++ put_by (drop k fs) (drop j g) (drop k a) ≡ whole → next ++ put_by (drop (k + 1) fs) (drop i g) (drop (k + 1) a) ≡ whole
put-next fs g a done next whole k j i f y d h read flag pushed after before =
    let up : k + 1 ≡ suc k = omega arith in
    let here : y ≡ get_or a k d = get_or_read a k y h read d in
    let rest = put_by (drop (suc k) fs) (drop (cond (get_or fs k false && nat_lt j (length g)) (j + 1) j) g) (drop (suc k) a) in
    rw (up, pushed, after, flag, here) (append_assoc done (cond (get_or fs k false && nat_lt j (length g)) (get_or g j d) (get_or a k d) ∷ []) rest
    ∙ (ap (λ z. done ++ z) (sym (put-step fs g a k j d h)) ∙ before))

pub put-few : (b : Bool) (j k i : ℕ) → i ≡ cond b (j + 1) j → j ≤ k → i ≤ k + 1
put-few true j k i e h = omega arith
put-few false j k i e h = omega arith

-- ---- nothing

pub nothing-next : (es : List CompactEdge) (k : ℕ) → k < length es → nothing (take (suc k) es) ≡ nothing (take k es) ++ [] ∷ []
nothing-next [] k h = absurd (omega arith)
nothing-next (e ∷ es) zero h = refl
nothing-next (e ∷ es) (suc k) h = ap (λ a. [] ∷ a) (nothing-next es k (omega arith))
