-- Bounds that are found on numbers alone: each is enough for the states after it.
use Rattle.std.specs.Prelude.{◌≡◌, ◌⊎◌, Contains, ℕ, zero, suc, ◌+◌, ◌-◌, ◌<◌, ◌≤◌, true, false, ℤ, pos, negsuc, ◌+ℤ◌, ◌-ℤ◌, ◌≤ℤ◌, ◌<ℤ◌, List, [], ◌∷◌, ◌++◌, length, take, unsigned_abs}
use Rattle.std.specs.Int.{int_min, int_max}
use Rattle.std.specs.List.{AllByRecursion, IsDistinct}
use Rattle.std.proofs.Common.{refl, sym, ap, subst, ◌∙◌, inl, inr, arith, get_or}
use Rattle.std.proofs.Math.ListN.{get_or-append}
use Rattle.std.proofs.Math.Seq.{get_or-append_seam}
use Rattle.std.proofs.lemmas.List.{length-append}
use Rattle.std.proofs.lemmas.Bool.{cases_lt, cases_order}
use Rattle.std.proofs.lemmas.Int.{ints, clamps}
use Rattle.std.proofs.lemmas.Map.Keys.{apart_from_distinct}
use Rattle.tv_lemmas.proofs.Members.{all-onto, all-append, all-at, all-contains}
use Rattle.tv_spec_plane.specs.Web.{Web, degree_of}
use Rattle.tv_spec_boxes.specs.Assignments.{Rows, no_legs, class_of, same_choice}
use Rattle.tv_laws_frontier.specs.Frontier.{kept_upto}
use Rattle.tv_laws_frontier.specs.Steps.{states, options, near_part}
use Rattle.tv_laws_frontier.proofs.Listed.{choice_equality}
use Rattle.tv_laws_frontier.proofs.StateClasses.{end_states}
use Rattle.tv_frontier.specs.Joining.{IsSpan}
use Rattle.tv_frontier.specs.Rows.{after_of, IsBound}
use Rattle.tv_frontier.specs.Bounds.{shift_of, IsAfter, GoesNowhere, NeedsAtMost, Suffices, AllSuffice, AreBounds, AllReach, IsPlan}
use Rattle.tv_frontier.proofs.Least.{lowest-low}
use Rattle.tv_frontier.proofs.Bounded.{bound-at, bound-small}
use Rattle.tv_frontier.proofs.Next.{keys-once, stage-of, take-next}

-- ---- one choice on the new edges

not-twice : (keys : List (List Rows)) (p q : ℕ) (x : List Rows) → IsDistinct same_choice keys → p < q → q < length keys → get_or keys p [] ≡ x → get_or keys q [] ≡ x → ⊥
not-twice keys p q x distinct before within at_p at_q =
    let apart : same_choice (get_or keys p []) (get_or keys q []) ≡ false = apart_from_distinct same_choice keys p q [] distinct before within in
    let same : same_choice (get_or keys p []) (get_or keys q []) ≡ true = ap (λ z. same_choice z (get_or keys q [])) at_p ∙ (ap (same_choice x) at_q ∙ choice_equality.own x) in
    let bad : true ≡ false = sym same ∙ apart in cc

-- a choice stands at one place
one-place : (keys : List (List Rows)) (p q : ℕ) (x : List Rows) → IsDistinct same_choice keys → p < length keys → q < length keys → get_or keys p [] ≡ x → get_or keys q [] ≡ x → p ≡ q
one-place keys p q x distinct first second at_p at_q = elim (cases_order p q) [
  | inl same ↦ same
  | inr other ↦ elim other [
    | inl before ↦ absurd (not-twice keys p q x distinct before second at_p at_q)
    | inr after ↦ absurd (not-twice keys q p x distinct after first at_q at_p)
  ]
]

at-most : (x y s k b : ℤ) → x ≡ y → k ≡ s → b ≡ y -ℤ k → (x -ℤ s) ≤ℤ b
at-most x y s k b same shift is = omega (arith, ints)

below-both : (x s b c : ℤ) → (x -ℤ s) ≤ℤ b → b ≤ℤ c → (x -ℤ s) ≤ℤ c
below-both x s b c first second = omega (arith, ints)

not-both : (x y : ℤ) → x <ℤ y → y ≤ℤ x → ⊥
not-both x y less more = omega (arith, ints)

module _ (w : Web) (d t : ℕ) (next : List ℤ) (h : List Rows) where
  pub needs-some : (g : List Rows) (p : ℕ) (k b : ℤ) → IsAfter w d t h g p → k ≡ shift_of w t h g → b ≡ get_or next p (pos 0) -ℤ k → NeedsAtMost w d t next h b g
  needs-some g p k b here shift is q there =
      let same : q ≡ p = one-place (states w d (suc t)) q p (after_of w t h g) (keys-once w d (suc t) (states w d (suc t)) refl) there.place here.place there.choice here.choice in
      at-most (get_or next q (pos 0)) (get_or next p (pos 0)) (shift_of w t h g) k b (ap (λ z. get_or next z (pos 0)) same) shift is

  pub needs-none : (g : List Rows) (b : ℤ) → GoesNowhere w d t h g → NeedsAtMost w d t next h b g
  needs-none g b nowhere q there = absurd (elim nowhere [
    | inl great ↦ not-both (pos d) (degree_of w.heights (class_of w (near_part w t h g))) great there.within
    | inr absent ↦ none-there absent
  ])
    where
      none-there : AllByRecursion (λ (k : List Rows). same_choice (after_of w t h g) k ≡ false) (states w d (suc t)) → ⊥
      none-there absent =
          let off : same_choice (after_of w t h g) (get_or (states w d (suc t)) q []) ≡ false = all-at (λ (k : List Rows). same_choice (after_of w t h g) k ≡ false) (states w d (suc t)) [] absent q there.place in
          let own : same_choice (after_of w t h g) (get_or (states w d (suc t)) q []) ≡ true = ap (same_choice (after_of w t h g)) there.choice ∙ choice_equality.own (after_of w t h g) in
          let bad : true ≡ false = sym own ∙ off in cc

  needs-more : (b c : ℤ) (g : List Rows) → b ≤ℤ c → NeedsAtMost w d t next h b g → NeedsAtMost w d t next h c g
  needs-more b c g more needs q there = below-both (get_or next q (pos 0)) (shift_of w t h g) b c (needs q there) more

  pub needs-next : (gs : List (List Rows)) (k : ℕ) (g : List Rows) (b e c : ℤ) → k < length gs → g ≡ get_or gs k g → c ≡ int_max b e → AllByRecursion (NeedsAtMost w d t next h b) (take k gs) → NeedsAtMost w d t next h e g → AllByRecursion (NeedsAtMost w d t next h c) (take (k + 1) gs)
  needs-next gs k g b e c within read is all needs =
      let first : b ≤ℤ c = omega (arith, ints, clamps) in
      let second : e ≤ℤ c = omega (arith, ints, clamps) in
      subst (AllByRecursion (NeedsAtMost w d t next h c)) (sym (take-next gs k g within read))
      (all-append (NeedsAtMost w d t next h c) (take k gs) (g ∷ []) (all-onto (NeedsAtMost w d t next h b) (NeedsAtMost w d t next h c) (λ x. needs-more b c x first) (take k gs) all) (needs-more e c g second needs, tt))

  lesser-of : (b m c : ℤ) → c ≡ int_min b m → (c ≡ m) ⊎ (b ≤ℤ c)
  lesser-of b m c is = by_less (m -ℤ b) refl
    where
      by_less : (z : ℤ) → m -ℤ b ≡ z → (c ≡ m) ⊎ (b ≤ℤ c)
      by_less (pos x) e = inr (omega (arith, ints, clamps))
      by_less (negsuc x) e = inl (omega (arith, ints, clamps))

  pub suffices-all : (n m b c : ℤ) (gs : List (List Rows)) → gs ≡ options w d t → m ≡ kept_upto w (no_legs w) d n → c ≡ int_min b m → AllByRecursion (NeedsAtMost w d t next h b) gs → Suffices w d n t next h c
  suffices-all n m b c gs listed last is all g p among after = elim (lesser-of b m c is) [
    | inl whole ↦ inl (whole ∙ last)
    | inr most ↦ inr (below-both (get_or next p (pos 0)) (shift_of w t h g) b c (needs p after) most)
  ]
    where
      needs : NeedsAtMost w d t next h b g
      needs = all-contains (NeedsAtMost w d t next h b) gs g all (subst (λ (zs : List (List Rows)). Contains zs g) (sym listed) among)

pub next-small : (w : Web) (d : ℕ) (n low m : ℤ) (t : ℕ) (next : List ℤ) (p : ℕ) → IsSpan w d n low m → t < length w.triangles → AreBounds w d n (suc t) next → p < length (states w d (suc t)) → unsigned_abs (get_or next p (pos 0)) ≤ 200000000
next-small w d n low m t next p span corner bounds within =
    let there : p < length next = (let l = bounds.one_each in omega arith) in
    bound-small w d n low m (get_or next p (pos 0)) t (stage-of w d n low m t span corner) (bound-at w d n next p (pos 0) bounds.each there)

-- ---- all states before a corner

pub suffice-next : (w : Web) (d : ℕ) (n : ℤ) (t : ℕ) (next : List ℤ) (keys : List (List Rows)) (bs cs : List ℤ) (k : ℕ) (h : List Rows) (b : ℤ) → cs ≡ bs ++ b ∷ [] → length bs ≡ k → get_or keys k [] ≡ h → Suffices w d n t next h b →
    ((q : ℕ) → q < k → Suffices w d n t next (get_or keys q []) (get_or bs q (pos 0))) → (q : ℕ) → q < k + 1 → Suffices w d n t next (get_or keys q []) (get_or cs q (pos 0))
suffice-next w d n t next keys bs cs k h b pushed long read here all q within = elim (cases_lt q k) [
  | inl before ↦ early before
  | inr past ↦ late (omega arith)
]
  where
    early : q < k → Suffices w d n t next (get_or keys q []) (get_or cs q (pos 0))
    early before =
        let same : get_or bs q (pos 0) ≡ get_or cs q (pos 0) = sym (ap (λ zs. get_or zs q (pos 0)) pushed ∙ get_or-append bs (b ∷ []) (pos 0) q (omega arith)) in
        subst (Suffices w d n t next (get_or keys q [])) same (all q before)

    late : q ≡ k → Suffices w d n t next (get_or keys q []) (get_or cs q (pos 0))
    late last =
        let place : q ≡ length bs = last ∙ sym long in
        let same : b ≡ get_or cs q (pos 0) = sym (ap (λ zs. get_or zs q (pos 0)) pushed ∙ (ap (λ z. get_or (bs ++ b ∷ []) z (pos 0)) place ∙ get_or-append_seam bs b [] (pos 0))) in
        let key : h ≡ get_or keys q [] = sym read ∙ ap (λ z. get_or keys z []) (sym last) in
        subst (Suffices w d n t next (get_or keys q [])) same (subst (λ (z : List Rows). Suffices w d n t next z b) key here)

pub suffice-last : (w : Web) (d : ℕ) (n : ℤ) (t : ℕ) (next : List ℤ) (keys : List (List Rows)) (bs : List ℤ) (k : ℕ) → keys ≡ states w d t → length keys ≤ k → ((q : ℕ) → q < k → Suffices w d n t next (get_or keys q []) (get_or bs q (pos 0))) → AllSuffice w d n t next bs
suffice-last w d n t next keys bs k is past all q within =
    let long : length keys ≡ length (states w d t) = ap length is in
    subst (λ (ks : List (List Rows)). Suffices w d n t next (get_or ks q []) (get_or bs q (pos 0))) is (all q (omega arith))

pub last-bound : (w : Web) (d : ℕ) (n low m b : ℤ) → IsSpan w d n low m → b ≡ int_max n (low -ℤ pos 1) → IsBound w d n b × (n ≤ℤ b)
last-bound w d n low m b span is =
    let none = lowest-low w d in
    let f = span.floor in let e = span.upto in let r = span.rises in
    (record { first = omega (arith, ints, clamps); last = omega (arith, ints, clamps) }, omega (arith, ints, clamps))

pub least-bound : (w : Web) (d : ℕ) (n low m b c : ℤ) → IsSpan w d n low m → low ≤ℤ (b +ℤ pos 1) → c ≡ int_min b m → IsBound w d n c
least-bound w d n low m b c span more is =
    let f = span.floor in let e = span.upto in let r = span.rises in
    record { first = omega (arith, ints, clamps); last = omega (arith, ints, clamps) }

-- ---- the plan

pub plan-first : (w : Web) (d : ℕ) (n : ℤ) (t : ℕ) (plan : List (List ℤ)) (bs : List ℤ) → plan ≡ bs ∷ [] → AreBounds w d n t bs → AllReach n bs → IsPlan w d n t 1 plan
plan-first w d n t plan bs is bounds reach = record {
  long = ap length is;
  each = λ s j sum within. (let first : j ≡ 0 = omega arith in let here : s ≡ t = omega arith in
      let same : bs ≡ get_or plan j [] = sym (ap (λ z. get_or plan z []) first ∙ ap (λ ps. get_or ps 0 []) is) in
      subst (AreBounds w d n s) same (subst (λ (z : ℕ). AreBounds w d n z bs) (sym here) bounds));
  last = λ some. subst (AllReach n) (sym (ap (λ ps. get_or ps 0 []) is)) reach;
  steps = λ s j sum within. absurd (omega arith);
}

module _ (w : Web) (d : ℕ) (n : ℤ) (t s k : ℕ) (old new : List (List ℤ)) (bs : List ℤ) (plan : IsPlan w d n t k old) (pushed : new ≡ old ++ bs ∷ []) (some : 1 ≤ k) (sum : s + k ≡ t) (bounds : AreBounds w d n s bs) (suffice : AllSuffice w d n s (get_or old (k - 1) []) bs) where
  at-old : (j : ℕ) → j < k → get_or old j [] ≡ get_or new j []
  at-old j within = let l = plan.long in sym (ap (λ ps. get_or ps j []) pushed ∙ get_or-append old (bs ∷ []) [] j (omega arith))

  at-new : (j : ℕ) → j ≡ k → bs ≡ get_or new j []
  at-new j is =
      let place : j ≡ length old = is ∙ sym plan.long in
      sym (ap (λ ps. get_or ps j []) pushed ∙ (ap (λ z. get_or (old ++ bs ∷ []) z []) place ∙ get_or-append_seam old bs [] []))

  each-next : (u j : ℕ) → u + j ≡ t → j < k + 1 → AreBounds w d n u (get_or new j [])
  each-next u j e within = elim (cases_lt j k) [
    | inl before ↦ subst (AreBounds w d n u) (at-old j before) (plan.each u j e before)
    | inr past ↦ late (omega arith)
  ]
    where
      late : j ≡ k → AreBounds w d n u (get_or new j [])
      late last =
          let here : s ≡ u = omega arith in
          subst (AreBounds w d n u) (at-new j last) (subst (λ (z : ℕ). AreBounds w d n z bs) here bounds)

  steps-next : (u j : ℕ) → u + suc j ≡ t → suc j < k + 1 → AllSuffice w d n u (get_or new j []) (get_or new (suc j) [])
  steps-next u j e within = elim (cases_lt (suc j) k) [
    | inl before ↦ early before
    | inr past ↦ late (omega arith)
  ]
    where
      P : List ℤ → Type 0
      P z = AllSuffice w d n u z (get_or new (suc j) [])

      early : suc j < k → AllSuffice w d n u (get_or new j []) (get_or new (suc j) [])
      early before = subst P (at-old j (omega arith)) (subst (AllSuffice w d n u (get_or old j [])) (at-old (suc j) before) (plan.steps u j e before))

      late : suc j ≡ k → AllSuffice w d n u (get_or new j []) (get_or new (suc j) [])
      late last =
          let here : s ≡ u = omega arith in
          let place : k - 1 ≡ j = omega arith in
          let moved : AllSuffice w d n u (get_or old j []) bs = subst (λ (z : ℕ). AllSuffice w d n u (get_or old z []) bs) place (subst (λ (z : ℕ). AllSuffice w d n z (get_or old (k - 1) []) bs) here suffice) in
          subst P (at-old j (omega arith)) (subst (AllSuffice w d n u (get_or old j [])) (at-new (suc j) last) moved)

  pub plan-next : IsPlan w d n t (k + 1) new
  plan-next = record {
    long = (let l = plan.long in ap length pushed ∙ (length-append old (bs ∷ []) ∙ omega arith));
    each = each-next;
    last = λ more. subst (AllReach n) (at-old 0 (omega arith)) (plan.last (omega arith));
    steps = steps-next;
  }

-- ---- what the plan is for

pub first-suffices : (w : Web) (d : ℕ) (n low m : ℤ) (next us : List ℤ) → IsSpan w d n low m → us ≡ m ∷ [] → AllSuffice w d n 0 next us
first-suffices w d n low m next us span is zero within g p among after = inl (ap (λ zs. get_or zs 0 (pos 0)) is ∙ span.upto)
first-suffices w d n low m next us span is (suc q) within g p among after = absurd (let one : length (states w d 0) ≡ 1 = ap length (end_states w d).before in omega arith)

pub first-reach : (w : Web) (d : ℕ) (n low m : ℤ) (us : List ℤ) → IsSpan w d n low m → us ≡ m ∷ [] → AllReach n us
first-reach w d n low m us span is =
    let none = lowest-low w d in let e = span.upto in
    let most : n ≤ℤ m = omega (arith, ints) in
    subst (AllReach n) (sym is) (most, tt)

module _ (w : Web) (d : ℕ) (n : ℤ) (t s : ℕ) (plan : List (List ℤ)) (us bs : List ℤ) (is : IsPlan w d n t t plan) (before : s < t) (read : get_or plan ((t - 1) - s) [] ≡ bs) (same : us ≡ bs) where
  pub next-suffices : (j : ℕ) → (s + 1) + suc j ≡ t → AllSuffice w d n (s + 1) (get_or plan j []) us
  next-suffices j sum =
      let place : suc j ≡ (t - 1) - s = omega arith in
      let now : get_or plan (suc j) [] ≡ us = ap (λ z. get_or plan z []) place ∙ (read ∙ sym same) in
      subst (AllSuffice w d n (s + 1) (get_or plan j [])) now (is.steps (s + 1) j sum (omega arith))

  pub next-reach : s + 1 ≡ t → AllReach n us
  next-reach last =
      let place : 0 ≡ (t - 1) - s = omega arith in
      let now : get_or plan 0 [] ≡ us = ap (λ z. get_or plan z []) place ∙ (read ∙ sym same) in
      subst (AllReach n) now (is.last (omega arith))
