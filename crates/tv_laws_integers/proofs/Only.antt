-- Two lists of integers whose products agree at the places where the integers of both begin are the same list.
use Rattle.std.proofs.Common.{◌≡◌, inl, inr, ℕ, zero, suc, ◌+◌, ◌≤◌, ℤ, pos, ◌+ℤ◌, ◌-ℤ◌, List, [], ◌∷◌, length, refl, sym, ◌∙◌, ap, arith}
use Rattle.std.proofs.lemmas.Int.{ints}
use Rattle.std.specs.List.{AllByRecursion}
use Rattle.tv_lemmas.proofs.Members.{all-onto, all-both}
use Rattle.tv_spec_katz.specs.Katz.{Integer, katz}
use Rattle.tv_spec_katz.specs.Relations.{ComesLater, AreOrdered}
use Rattle.tv_laws_katz.specs.Further.{IsPositive, own_exponent}
use Rattle.tv_laws_katz.proofs.FurtherInteger.{new_integer, unchanged}
use Rattle.tv_laws_integers.specs.Reading.{AgreeAt}
use Rattle.tv_laws_integers.proofs.Later.{later_total, later_all, later_alike, earlier_place, positives}

turned : (hs : List ℤ) (is js ks : List Integer) → AllByRecursion (AgreeAt hs is js) ks → AllByRecursion (AgreeAt hs js is) ks
turned hs is js ks all = all-onto (AgreeAt hs is js) (AgreeAt hs js is) (λ k e. sym e) ks all

same_integer : (i j : Integer) → i.class ≡ j.class → i.genus ≡ j.genus → i.value ≡ j.value → i ≡ j
same_integer i j c g v = ap (λ x. record { class = x; genus = i.genus; value = i.value }) c
    ∙ (ap (λ x. record { class = j.class; genus = x; value = i.value }) g
    ∙ ap (λ x. record { class = j.class; genus = j.genus; value = x }) v)

moved : (F G : List ℤ → ℤ → ℤ) (z : ℤ) (v w : List ℤ) (m n : ℤ) → v ≡ w → m ≡ n → F w n ≡ G w n +ℤ z → F v m ≡ G v m +ℤ z
moved F G z v w m n e e' h = rw (e, e') h

module _ (hs : List ℤ) (D : ℕ) where
  -- without an integer the product stays at the earlier places
  without : (i : Integer) (is js ks : List Integer) → AllByRecursion (IsPositive hs) (i ∷ is)
      → AllByRecursion (ComesLater hs i) ks → AllByRecursion (AgreeAt hs (i ∷ is) js) ks → AllByRecursion (AgreeAt hs is js) ks
  without i is js ks up later all =
      all-both (ComesLater hs i) (AgreeAt hs (i ∷ is) js) (AgreeAt hs is js)
      (λ k b e. sym (unchanged hs i is k.class (own_exponent k) up (earlier_place hs i k b)) ∙ e) ks later all

  -- a list has no integer that comes later than all of the other one
  none_later : (i : Integer) (is js : List Integer) → AreOrdered D hs (i ∷ is) → AllByRecursion (ComesLater hs i) js
      → AllByRecursion (AgreeAt hs (i ∷ is) js) (i ∷ is) → AllByRecursion (AgreeAt hs (i ∷ is) js) js
      → (AllByRecursion (AgreeAt hs is js) is → AllByRecursion (AgreeAt hs is js) js → is ≡ js) → ⊥
  none_later i is js order later all others rest =
      let up = positives D hs (i ∷ is) order in
      let same : is ≡ js = rest (without i is js is up order.1.0 all.1) (without i is js js up later others) in
      let own : katz hs (i ∷ is) i.class (own_exponent i) ≡ katz hs is i.class (own_exponent i) = all.0
      ∙ ap (λ ks. katz hs ks i.class (own_exponent i)) (sym same) in
      let more = new_integer hs i is up in
      order.0.value (omega (arith, ints))

  -- of two last integers with one place the values are the same
  both_last : (i j : Integer) (is js : List Integer) → AreOrdered D hs (i ∷ is) → AreOrdered D hs (j ∷ js) → i.class ≡ j.class
      → i.genus ≡ j.genus → is ≡ js → AgreeAt hs (i ∷ is) (j ∷ js) i → i ≡ j
  both_last i j is js order order' c g rest e =
      let first = new_integer hs i is (positives D hs (i ∷ is) order) in
      let second = moved (katz hs (j ∷ js)) (katz hs js) j.value i.class j.class (own_exponent i) (own_exponent j) c
      (ap (λ n. pos 1 -ℤ pos n) g) (new_integer hs j js (positives D hs (j ∷ js) order')) in
      let below : katz hs is i.class (own_exponent i) ≡ katz hs js i.class (own_exponent i) = ap
      (λ ks. katz hs ks i.class (own_exponent i)) rest in
      same_integer i j c g (omega (arith, ints))

  -- of two last integers with one place neither is needed for the other ones to agree
  without_both : (i j : Integer) (is js ks : List Integer) → AllByRecursion (IsPositive hs) (i ∷ is)
      → AllByRecursion (IsPositive hs) (j ∷ js) → AllByRecursion (ComesLater hs i) ks → AllByRecursion (ComesLater hs j) ks
      → AllByRecursion (AgreeAt hs (i ∷ is) (j ∷ js)) ks → AllByRecursion (AgreeAt hs is js) ks
  without_both i j is js ks up up' later later' all =
      turned hs js is ks (without j js is ks up' later' (turned hs is (j ∷ js) ks (without i is (j ∷ js) ks up later all)))

  only_by : (n : ℕ) (is js : List Integer) → length is + length js ≤ n → AreOrdered D hs is → AreOrdered D hs js
      → AllByRecursion (AgreeAt hs is js) is → AllByRecursion (AgreeAt hs is js) js → is ≡ js
  only_by n [] [] few order order' all all' = refl
  only_by zero (i ∷ is) js few order order' all all' = absurd (omega arith)
  only_by zero [] (j ∷ js) few order order' all all' = absurd (omega arith)
  only_by (suc n) (i ∷ is) [] few order order' all all' = absurd
      (none_later i is [] order tt all all' (only_by n is [] (omega arith) order.1.1 order'))
  only_by (suc n) [] (j ∷ js) few order order' all all' = absurd
      (none_later j js [] order' tt (turned hs [] (j ∷ js) (j ∷ js) all') (turned hs [] (j ∷ js) [] all)
      (only_by n js [] (omega arith) order'.1.1 order))
  only_by (suc n) (i ∷ is) (j ∷ js) few order order' all all' = elim
      (later_total hs i j (order.0.positive.entries ∙ sym order'.0.positive.entries)) as (λ _. (i ∷ is) ≡ (j ∷ js)) [
        | inl later ↦ absurd (none_later i is (j ∷ js) order (later, later_all hs i j js later order'.1.0) all all'
            (only_by n is (j ∷ js) (omega arith) order.1.1 order'))
        | inr (inl place) ↦
            let up = positives D hs (i ∷ is) order in
            let up' = positives D hs (j ∷ js) order' in
            let own = without_both i j is js is up up' order.1.0 (later_alike hs i j place.0 place.1 is order.1.0) all.1 in
            let others = without_both i j is js js up up' (later_alike hs j i (sym place.0) (sym place.1) js order'.1.0)
            order'.1.0 all'.1 in
            let same : is ≡ js = only_by n is js (omega arith) order.1.1 order'.1.1 own others in
            ap (λ k. k ∷ is) (both_last i j is js order order' place.0 place.1 same all.0) ∙ ap (λ ks. j ∷ ks) same
        | inr (inr later) ↦
            absurd (none_later j js (i ∷ is) order' (later, later_all hs j i is later order.1.0)
            (turned hs (i ∷ is) (j ∷ js) (j ∷ js) all') (turned hs (i ∷ is) (j ∷ js) (i ∷ is) all)
            (λ own others. sym (only_by n (i ∷ is) js (omega arith) order order'.1.1 (turned hs js (i ∷ is) (i ∷ is) others)
            (turned hs js (i ∷ is) js own))))
      ]

  pub only_at : (is js : List Integer) → AreOrdered D hs is → AreOrdered D hs js → AllByRecursion (AgreeAt hs is js) is
      → AllByRecursion (AgreeAt hs is js) js → is ≡ js
  only_at is js = only_by (length is + length js) is js (omega arith)
