use Rattle.std.proofs.Common.{◌≡◌, ℕ, suc, ◌+◌, ◌-◌, ◌++◌, ◌∷◌, [], List, length, ap, arith, refl, sym, ◌∙◌, subst, rules, w32, to_z, of_z, length-append, inl, inr}
use Rattle.std.specs.Prelude.{OnOk, cond, filter, ◌&&◌, nat_eq}
use Rattle.std.proofs.lemmas.Int.{to_z-of_z}
use Rattle.tv_spec_slices.specs.Slices.{Shape, base_at}
use Rattle.tv_spec_slices.specs.Paths.{columns}
use Rattle.tv_interlace.proofs.Beside.{columns-none}
use Rattle.tv_paths.specs.Among.{has_height, behind, one_more}
use Rattle.tv_paths.proofs.Behind.{columns-joined, longer-start, longer-next, longer-end, no-keys, height-outside, height-inside}
use Rattle.tv_paths.proofs.order.+columns.Goals as goal

pub push_columns-returns-then-left-eq0-clause-all :
    goal.push_columns-returns-then-left-eq0-clause-all
push_columns-returns-then-left-eq0-clause-all m c =
    let fits = c.ranges.t in
    let d = c.args.full + length c.args.front.now.items in
    let e = ap (λ front. behind c.args.keys.now c.args.full front (cond (nat_eq c.args.extras 0) ([] ∷ []) [])) c.as_slice.ensures.value
    ∙ ap (behind c.args.keys.now c.args.full c.args.front.now.items) (sym (columns-none c.args.legs.now c.args.t d c.args.left c.args.top c.args.extras c.if-left-eq0.true)) in
    let P : List Shape → Type 0 = λ ss. OnOk c.push_ended.result (c.push_ended.new.all.items ≡ c.args.all.now.items ++ ss) in
    subst P e c.push_ended.ensures

pub push_columns-returns-clause-all : goal.push_columns-returns-clause-all
push_columns-returns-clause-all m c =
    let len : c.len.result ≡ length c.args.front.now.items = search rules in
    let fits = c.ranges.t in
    let ends : c.may_end-ends.result ≡ (nat_eq (base_at c.args.legs.now c.args.t (c.args.full + length c.args.front.now.items)) 0 && nat_eq c.args.extras 0) = simp to_z-of_z at c.may_end-ends.ensures ∙ ap (λ n. nat_eq (base_at c.args.legs.now c.args.t (c.args.full + n)) 0 && nat_eq c.args.extras 0) len in
    let longer = simp to_z-of_z at c.in_ok-push_longer.ensures.all in
    let d = c.args.full + length c.args.front.now.items in
    let e = ap (λ front. c.push_longer.new.all.items ++ behind c.args.keys.now c.args.full front (cond c.may_end-ends.result ([] ∷ []) [])) (c.as_slice-2.ensures.value ∙ c.in_ok-push_longer.ensures.front)
    ∙ (ap (λ b. c.push_longer.new.all.items ++ behind c.args.keys.now c.args.full c.args.front.now.items (cond b ([] ∷ []) [])) ends
    ∙ columns-joined c.args.keys.now c.args.full c.args.legs.now c.args.t c.args.front.now.items d c.args.left c.args.top c.args.extras c.push_longer.new.all.items c.args.all.now.items (omega arith) longer) in
    let P : List Shape → Type 0 = λ ss. OnOk c.push_ended-2.result (c.push_ended-2.new.all.items ≡ ss) in
    subst P e c.push_ended-2.ensures

pub push_columns-returns-then-is_empty-clause-all : goal.push_columns-returns-then-is_empty-clause-all
push_columns-returns-then-is_empty-clause-all m c =
    let none : length c.args.keys.now ≡ 0 = search rules in
    no-keys c.args.keys.now c.args.full c.args.front.now.items _ c.args.all.now.items none

pub push_longer-loop-more-init : goal.push_longer-loop-more-init
push_longer-loop-more-init m c =
    let fits = c.ranges.t in
    record {
      kept = refl;
      within = omega arith;
      slices = simp to_z-of_z (longer-start c.args.keys.now c.args.full c.args.legs.now c.args.t c.args.front.now.items (c.args.full + length c.args.front.now.items) c.args.left c.args.top c.args.extras c.args.all.now.items);
    }

pub push_longer-loop-more-preserved : goal.push_longer-loop-more-preserved
push_longer-loop-more-preserved m c =
    let t = to_z w32 (of_z w32 c.args.t) in
    let P : ℕ → List Shape = one_more c.args.keys.now c.args.legs.now t c.args.full c.args.front.now.items (c.args.full + length c.args.front.now.items) c.args.left c.args.top c.args.extras in
    let Q : List ℕ → List Shape = λ f. c.loop-more.all.items ++ one_more c.args.keys.now c.args.legs.now t c.args.full f (c.args.full + length f) c.args.left c.args.top c.args.extras (c.loop-more.more - 1) in
    record {
      kept = c.in_ok-push_height.ensures.front ∙ c.loop-more.invariant.kept;
      within = omega (arith, c.loop-more.invariant.within);
      slices = longer-next c.args.keys.now c.args.full P c.loop-more.more c.push_height.new.all.items c.loop-more.all.items _ c.loop-more-test.true (c.in_ok-push_height.ensures.all ∙ ap Q c.loop-more.invariant.kept) c.loop-more.invariant.slices;
    }

pub push_longer-returns-clause-all : goal.push_longer-returns-clause-all
push_longer-returns-clause-all m c =
    let fits = c.ranges.t in
    longer-end c.args.keys.now c.args.full _ c.loop-more.more c.loop-more.all.items _ (λ l. omega (arith, l, c.loop-more-test.false)) (simp to_z-of_z at c.loop-more.invariant.slices)

pub push_height-returns-then-height-eq0-clause-all : goal.push_height-returns-then-height-eq0-clause-all
push_height-returns-then-height-eq0-clause-all m c =
    let len : c.len.result ≡ length c.args.front.now.items = search rules in
    let fits = c.ranges.t in
    let d = c.args.full + length c.args.front.now.items in
    let base : c.base_at.result ≡ base_at c.args.legs.now c.args.t d = simp to_z-of_z at c.base_at.ensures.value ∙ ap (λ n. base_at c.args.legs.now c.args.t (c.args.full + n)) len in
    height-outside c.args.keys.now c.args.legs.now c.args.t c.args.full c.args.front.now.items d c.args.left c.args.top c.args.extras c.args.more (c.base_at.result + c.args.more) c.args.all.now.items (ap (λ b. b + c.args.more) base)
    (λ low high. elim c.then-height-eq0.either [ inl none ↦ omega (arith, none, low) | inr over ↦ let above = over.1 in omega (arith, above, high) ])

pub push_height-returns-clause-all : goal.push_height-returns-clause-all
push_height-returns-clause-all m c =
    let len : c.len.result ≡ length c.args.front.now.items = search rules in
    let fits = c.ranges.t in
    let legs = c.args.legs.now in let t = c.args.t in let full = c.args.full in let front = c.args.front.now.items in let before = c.args.all.now.items in
    let h = c.base_at.result + c.args.more in
    let left = c.args.extras - c.args.more in
    let d = full + length front in
    let base : c.base_at.result ≡ base_at legs t d = simp to_z-of_z at c.base_at.ensures.value ∙ ap (λ n. base_at legs t (full + n)) len in
    let narrow : c.in_ok-some.some.items ≡ filter (has_height d h) c.args.keys.now = c.in_ok-some.ensures ∙ ap (λ n. filter (has_height (full + n) h) c.args.keys.now) len in
    let more : length (front ++ h ∷ []) ≡ suc (length front) = simp length-append (omega arith) in
    let place : full + length (front ++ h ∷ []) ≡ suc d = omega arith in
    let pushed = simp to_z-of_z at c.in_ok-push_columns.ensures.all in
    let P : List Shape → List ℕ → ℕ → List Shape = λ ks f e. before ++ behind ks full f (columns legs t e c.args.left h left) in
    height-inside c.args.keys.now c.in_ok-some.some.items legs t full front d c.args.left c.args.top c.args.extras c.args.more h c.push_columns.new.all.items before (ap (λ b. b + c.args.more) base) (omega arith) (omega arith) refl narrow
    (pushed ∙ (ap (λ ks. P ks c.push.new.self.items (full + length c.push.new.self.items)) c.as_slice.ensures.value ∙ (ap (λ f. P c.in_ok-some.some.items f (full + length f)) c.in_ok-push.ensures.items ∙ ap (P c.in_ok-some.some.items (front ++ h ∷ [])) place)))
