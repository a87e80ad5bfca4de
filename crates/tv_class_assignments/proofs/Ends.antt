-- The last of the frames, as it is read and written.
use Rattle.std.specs.Prelude.{◌≡◌, ℕ, ◌+◌, ◌<◌, ◌≤◌, true, false, cond, nat_lt, List, [], ◌∷◌, ◌++◌, length, take}
use Rattle.std.proofs.Common.{refl, sym, ap, ◌∙◌, arith, get_or, take_all, append_assoc, length-append}
use Rattle.std.proofs.Math.ListN.{set, get_or-append}
use Rattle.std.proofs.Math.Seq.{get_or-append_seam, set-append_seam}
use Rattle.std.proofs.lemmas.List.{take_more}
use Rattle.std.proofs.lemmas.Bool.Decides.{nat_tests}
use Rattle.tv_class_assignments.specs.Remaining.{Left}
use Rattle.tv_class_assignments.specs.Moves.{new_frame, larger, later, IsEnlarged, IsEntered}
use Rattle.tv_class_assignments.specs.declared.frame.Frame.{Frame}

pub last_split : (fs front : List Frame) (e m : ℕ) (f : Frame) → length fs ≡ e + 1 → m ≡ e → front ≡ take m fs → f ≡ get_or fs e f → fs ≡ front ++ f ∷ []
last_split fs front e m f top same is read =
    sym (take_all (e + 1) fs (omega arith))
    ∙ (take_more fs e f (omega arith)
    ∙ (ap (λ k. take k fs ++ get_or fs e f ∷ []) (sym same) ∙ (ap (λ xs. xs ++ get_or fs e f ∷ []) (sym is) ∙ ap (λ x. front ++ x ∷ []) (sym read))))

pub front_length : (fs front : List Frame) (f : Frame) (e : ℕ) → fs ≡ front ++ f ∷ [] → length fs ≡ e + 1 → length front ≡ e
front_length fs front f e was top = let n = length-append front (f ∷ []) in let m = ap length was in omega arith

written : (front : List Frame) (f g : Frame) (gs : List Frame) (k : ℕ) → length front ≡ k → set (front ++ f ∷ gs) k g ≡ front ++ g ∷ gs
written front f g gs k is = ap (λ j. set (front ++ f ∷ gs) j g) (sym is) ∙ set-append_seam front f gs g

pub enlarged_then : (fs : List Frame) (top d : ℕ) (f g : Frame) → length fs ≡ top + 1 → f ≡ get_or fs top f → d ≡ f.left.degree → f.size < d → g ≡ larger f → IsEnlarged fs (set fs top g)
enlarged_then fs top d f g count read is more next =
    let front : List Frame = take top fs in
    let was : fs ≡ front ++ f ∷ [] = last_split fs front top top f count refl refl read in
    let test : nat_lt f.size f.left.degree ≡ true = grind (arith, nat_tests) in
    record {
      front = front;
      last = f;
      was = was;
      is = ap (λ xs. set xs top g) was ∙ (written front f g [] top (front_length fs front f top was count) ∙ (ap (λ x. front ++ x ∷ []) next ∙ sym (ap (λ b. cond b (front ++ larger f ∷ []) front) test)));
    }

pub enlarged_else : (fs ps gs : List Frame) (top m d : ℕ) (f : Frame) → length fs ≡ top + 1 → m ≡ top → ps ≡ set fs top f → gs ≡ take m ps → f ≡ get_or fs top f → d ≡ f.left.degree → d ≤ f.size → IsEnlarged fs gs
enlarged_else fs ps gs top m d f count same kept is read degree last =
    let was : fs ≡ take top fs ++ f ∷ [] = last_split fs (take top fs) top top f count refl refl read in
    let all : ps ≡ fs = kept ∙ (ap (λ xs. set xs top f) was ∙ (written (take top fs) f f [] top (front_length fs (take top fs) f top was count) ∙ sym was)) in
    let test : nat_lt f.size f.left.degree ≡ false = grind (arith, nat_tests) in
    record {
      front = gs;
      last = f;
      was = last_split fs gs top m f count same (is ∙ ap (take m) all) read;
      is = sym (ap (λ b. cond b (gs ++ larger f ∷ []) gs) test);
    }

pub entered_by : (fs ps : List Frame) (top : ℕ) (f g : Frame) (l : Left) → length fs ≡ top + 1 → ps ≡ fs ++ new_frame l ∷ [] → f ≡ get_or ps top f → g ≡ later f → IsEntered fs l (set ps top g)
entered_by fs ps top f g l count pushed read next =
    let front : List Frame = take top fs in
    let here : f ≡ get_or fs top f = read ∙ (ap (λ xs. get_or xs top f) pushed ∙ get_or-append fs (new_frame l ∷ []) f top (omega arith)) in
    let was : fs ≡ front ++ f ∷ [] = last_split fs front top top f count refl refl here in
    record {
      front = front;
      last = f;
      was = was;
      is =
          ap (λ xs. set xs top g) (pushed ∙ (ap (λ xs. xs ++ new_frame l ∷ []) was ∙ append_assoc front (f ∷ []) (new_frame l ∷ [])))
          ∙ (written front f g (new_frame l ∷ []) top (front_length fs front f top was count)
          ∙ (sym (append_assoc front (g ∷ []) (new_frame l ∷ [])) ∙ ap (λ x. (front ++ x ∷ []) ++ new_frame l ∷ []) next));
    }

pub same_front : (fs gs ds : List Frame) (top m : ℕ) → m ≡ top → gs ≡ take m fs → ds ≡ fs → take top ds ≡ gs
same_front fs gs ds top m same is read = ap (take top) read ∙ (ap (λ k. take k fs) (sym same) ∙ sym is)

pub last_read : (fs front : List Frame) (e : ℕ) (f last : Frame) → length fs ≡ e + 1 → fs ≡ front ++ last ∷ [] → f ≡ get_or fs e f → f ≡ last
last_read fs front e f last top was read =
    read ∙ (ap (λ xs. get_or xs e f) was ∙ (ap (λ k. get_or (front ++ last ∷ []) k f) (sym (front_length fs front last e was top)) ∙ get_or-append_seam front last [] f))
