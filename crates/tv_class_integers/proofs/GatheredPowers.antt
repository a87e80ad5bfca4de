-- Powers other than 0, listed by their steps.
--
-- IsListedTo powers i list == the list has the powers other than 0 at steps below i, each once
-- listed-none, listed-same, listed-more  no power yet, one that is 0, and one that is not
-- listed-powers, listed-once  all of them
use Rattle.std.specs.Prelude.{◌≡◌, ℕ, ◌+◌, ◌<◌, ◌≤◌, ℤ, pos, ◌+ℤ◌, List, [], ◌∷◌, ◌++◌, length, nat_eq, true, false}
use Rattle.std.specs.List.{AllByRecursion, IsDistinct}
use Rattle.std.proofs.Common.{refl, sym, ap, arith, ◌∙◌, inl, inr}
use Rattle.std.proofs.lemmas.Int.{ints}
use Rattle.std.proofs.lemmas.Bool.{cases_lt}
use Rattle.std.proofs.lemmas.Bool.Decides.{nat_tests}
use Rattle.tv_ring.specs.Whole.{wholes}
use Rattle.tv_ring.specs.Sums.{at}
use Rattle.tv_lemmas.proofs.Distinct.{distinct-append}
use Rattle.tv_lemmas.proofs.Members.{all-append, all-onto}
use Rattle.tv_lemmas.proofs.Sums.{total-append}
use Rattle.tv_laws_katz.specs.Logarithm.{when}
use Rattle.tv_laws_katz.proofs.Totals.{when-on, when-off}
use Rattle.tv_laws_series.proofs.Listed.{at_past}
use Rattle.tv_recurrence.specs.declared.part.Power.{Power}
use Rattle.tv_recurrence.specs.Products.{power_by, same_step}
use Rattle.tv_lemmas.proofs.Tests.{eq-on, eq-off}

pub record IsListedTo (powers : List ℤ) (i : ℕ) (list : List Power) : Type 0 where
  pub below : AllByRecursion (λ f. f.step < i) list
  pub once : IsDistinct same_step list
  pub sums : (s : ℕ) → s < i → power_by list s ≡ at wholes powers s
  pub none : (s : ℕ) → i ≤ s → power_by list s ≡ pos 0

module _ (powers : List ℤ) where
  pub listed-none : (list : List Power) → list ≡ [] → IsListedTo powers 0 list
  unfolding IsDistinct
  listed-none list e = rw e (record { below = tt; once = tt; sums = λ s h. absurd (omega arith); none = λ s h. refl })

  higher : (i : ℕ) (list : List Power) → AllByRecursion (λ f. f.step < i) list → AllByRecursion (λ f. f.step < i + 1) list
  higher i list below = all-onto (λ f. f.step < i) (λ f. f.step < i + 1) (λ f h. omega arith) list below

  pub listed-same : (i : ℕ) (list : List Power) → IsListedTo powers i list → at wholes powers i ≡ pos 0 →
      IsListedTo powers (i + 1) list
  listed-same i list was e = record {
    below = higher i list was.below;
    once = was.once;
    sums = λ s h. elim (cases_lt s i) as (λ _. power_by list s ≡ at wholes powers s) [
      | inl before ↦ was.sums s before
      | inr here ↦ let same : s ≡ i = omega arith in was.none s here ∙ sym (ap (at wholes powers) same ∙ e)
    ];
    none = λ s h. was.none s (omega arith);
  }

  module _ (i : ℕ) (list next : List Power) (f : Power) (was : IsListedTo powers i list) (e : next ≡ list ++ f ∷ [])
      (step : f.step ≡ i)
      (power : f.power ≡ at wholes powers i) where
    split : (s : ℕ) → power_by next s ≡ power_by list s +ℤ when (nat_eq f.step s) f.power
    split s =
        let parts = total-append (λ (g : Power). when (nat_eq g.step s) g.power) list (f ∷ []) in
        ap (λ l. power_by l s) e ∙ omega (arith, ints)

    pub listed-more : IsListedTo powers (i + 1) next
    unfolding IsDistinct
    listed-more = record {
      below = rw e (all-append (λ g. g.step < i + 1) list (f ∷ []) (higher i list was.below) (omega arith, tt));
      once = rw e (distinct-append same_step list (f ∷ []) was.once (tt, tt)
          (all-onto (λ g. g.step < i) (λ g. AllByRecursion (λ h. same_step g h ≡ false) (f ∷ [])) (λ g h.
          (eq-off g.step f.step (λ same. absurd (omega arith)), tt)) list was.below));
      sums = λ s h. elim (cases_lt s i) as (λ _. power_by next s ≡ at wholes powers s) [
        | inl before ↦
            let off = when-off (nat_eq f.step s) f.power (eq-off f.step s (λ same. absurd (omega arith))) in
            let old = was.sums s before in
            split s ∙ omega (arith, ints)
        | inr here ↦
            let same : s ≡ i = omega arith in
            let on = when-on (nat_eq f.step s) f.power (eq-on f.step s (omega arith)) in
            let old = was.none s here in
            split s ∙ (omega (arith, ints) ∙ (power ∙ ap (at wholes powers) (sym same)))
      ];
      none = λ s h.
          let off = when-off (nat_eq f.step s) f.power (eq-off f.step s (λ same. absurd (omega arith))) in
          let old = was.none s (omega arith) in
          split s ∙ omega (arith, ints);
    }

  pub listed-powers : (i : ℕ) (list : List Power) → IsListedTo powers i list → length powers ≤ i → (s : ℕ) →
      power_by list s ≡ at wholes powers s
  listed-powers i list was all s = elim (cases_lt s i) as (λ _. power_by list s ≡ at wholes powers s) [
    | inl before ↦ was.sums s before
    | inr past ↦ was.none s past ∙ sym (at_past wholes powers s (omega arith))
  ]
