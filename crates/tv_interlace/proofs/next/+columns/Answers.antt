use Rattle.std.proofs.Common.{◌≡◌, ℕ, suc, ◌+◌, ◌-◌, ◌<◌, ◌≤◌, ◌++◌, ◌∷◌, [], List, pos, ◌+ℤ◌, min, max, length, ap, arith, refl, sym, ◌∙◌, subst, rules}
use Rattle.std.specs.Prelude.{OnOk, cond, ◌&&◌, nat_eq}
use Rattle.std.proofs.lemmas.Int.{to_z-of_z}
use Rattle.tv_spec_slices.specs.Slices.{Shape, reach, base_at}
use Rattle.tv_spec_slices.specs.Paths.{columns}
use Rattle.tv_interlace.specs.Bounds.{floor, ceiling}
use Rattle.tv_interlace.specs.Columns.{behind}
use Rattle.tv_interlace.specs.Rooms.{low, open_from, IsRoom}
use Rattle.tv_interlace.proofs.OpenPlaces.{open-after}
use Rattle.tv_interlace.proofs.Up.{up-fits}
use Rattle.tv_interlace.proofs.Beside.{columns-none, columns-joined}
use Rattle.tv_interlace.proofs.Longer.{longer-start, longer-next, longer-end}
use Rattle.tv_interlace.proofs.next.+columns.Goals as goal

pub push_columns-returns-then-left-eq0-clause-all :
    goal.push_columns-returns-then-left-eq0-clause-all
push_columns-returns-then-left-eq0-clause-all t c =
    let fits = c.ranges.t in
    let ended = simp to_z-of_z at c.push_ended.ensures in
    let d = c.args.full + length c.args.front.now.items in
    let e = ap (λ front. behind c.args.t c.args.a.now c.args.full front (cond (nat_eq c.args.extras 0) ([] ∷ []) [])) c.as_slice.ensures.value
    ∙ ap (behind c.args.t c.args.a.now c.args.full c.args.front.now.items) (sym (columns-none c.args.legs.now (c.args.t +ℤ pos 1) d c.args.left c.args.top c.args.extras c.if-left-eq0.true)) in
    let P : List Shape → Type 0 = λ ss. OnOk c.push_ended.result (c.push_ended.new.all.items ≡ c.args.all.now.items ++ ss) in
    subst P e ended

pub push_columns-returns-clause-all : goal.push_columns-returns-clause-all
push_columns-returns-clause-all t c =
    let len : c.len.result ≡ length c.args.front.now.items = search rules in
    let fits = c.ranges.t in
    let up = up-fits c.args.t c.requires.diagonal in
    let ended = simp to_z-of_z at c.push_ended-2.ensures in
    let ends : c.may_end-ends.result ≡ (nat_eq (base_at c.args.legs.now (c.args.t +ℤ pos 1) (c.args.full + length c.args.front.now.items)) 0 && nat_eq c.args.extras 0) = simp to_z-of_z at c.may_end-ends.ensures ∙ ap (λ n. nat_eq (base_at c.args.legs.now (c.args.t +ℤ pos 1) (c.args.full + n)) 0 && nat_eq c.args.extras 0) len in
    let longer = simp to_z-of_z at c.in_ok-push_longer.ensures.all in
    let d = c.args.full + length c.args.front.now.items in
    let e = ap (λ front. c.push_longer.new.all.items ++ behind c.args.t c.args.a.now c.args.full front (cond c.may_end-ends.result ([] ∷ []) [])) (c.as_slice-2.ensures.value ∙ c.in_ok-push_longer.ensures.front)
    ∙ (ap (λ b. c.push_longer.new.all.items ++ behind c.args.t c.args.a.now c.args.full c.args.front.now.items (cond b ([] ∷ []) [])) ends
    ∙ columns-joined c.args.legs.now c.args.t (c.args.t +ℤ pos 1) c.args.a.now c.args.full c.args.front.now.items d c.args.left c.args.top c.args.extras c.push_longer.new.all.items c.args.all.now.items (omega arith) longer) in
    let P : List Shape → Type 0 = λ ss. OnOk c.push_ended-2.result (c.push_ended-2.new.all.items ≡ ss) in
    subst P e ended

pub push_longer-loop-height-init : goal.push_longer-loop-height-init
push_longer-loop-height-init t c =
    let len : c.len.result ≡ length c.args.front.now.items = search rules in
    let fits = c.ranges.t in
    let up = up-fits c.args.t c.requires.diagonal in
    let u = c.args.t +ℤ pos 1 in
    let d = c.args.full + length c.args.front.now.items in
    let first = simp to_z-of_z at c.base_at-base.ensures.value in
    let base : c.base_at-base.result ≡ base_at c.args.legs.now u d = first ∙ ap (λ n. base_at c.args.legs.now u (c.args.full + n)) len in
    let after : IsRoom c.args.legs.now c.args.t c.args.a.now (suc d) c.room_after-after.result = subst (λ n. IsRoom c.args.legs.now c.args.t c.args.a.now (suc (c.args.full + n)) c.room_after-after.result) len (simp to_z-of_z at c.room_after-after.ensures) in
    let top : c.highest.result ≡ min (base_at c.args.legs.now u d + (c.args.extras - c.room_after-after.result.least)) (ceiling c.args.t c.args.a.now d) =
    simp to_z-of_z at c.highest.ensures ∙ ap (λ n. min (base_at c.args.legs.now u (c.args.full + n) + (c.args.extras - c.room_after-after.result.least)) (ceiling c.args.t c.args.a.now (c.args.full + n))) len in
    record {
      kept = refl;
      within_top = omega (arith, c.min-height.ensures);
      within_room = omega (arith, c.min-height.ensures, top, base);
      slices = simp to_z-of_z (longer-start c.args.legs.now c.args.t c.args.a.now c.args.full c.args.front.now.items d c.args.left c.args.top c.args.extras c.min-height.result c.room_after-after.result.least c.args.all.now.items refl
          (omega arith) after.least (c.min-height.ensures ∙ ap (min c.args.top) top));
    }

pub push_longer-push_after-requires : goal.push_longer-push_after-requires
push_longer-push_after-requires t c =
    let len : c.len.result ≡ length c.args.front.now.items = search rules in
    let fits = c.ranges.t in
    let up = up-fits c.args.t c.requires.diagonal in
    let d = c.args.full + length c.args.front.now.items in
    let L = low c.args.legs.now c.args.t c.args.a.now in
    let n = suc (reach c.args.a.now) in
    let room = c.room_after-after.result in
    let after : IsRoom c.args.legs.now c.args.t c.args.a.now (suc d) room = subst (λ n. IsRoom c.args.legs.now c.args.t c.args.a.now (suc (c.args.full + n)) room) len (simp to_z-of_z at c.room_after-after.ensures) in
    let first = simp to_z-of_z at c.base_at-base.ensures.value in
    let least = simp to_z-of_z at c.lowest-least.ensures in
    let kept : length c.loop-height.front.items ≡ length c.args.front.now.items = ap (length {A = ℕ}) c.loop-height.invariant.kept in
    let some = fewer (open_from L d n) (L d) room.least c.args.room.least c.args.extras c.loop-height.height c.base_at-base.result (after.least ∙ sym (open-after L d n)) c.requires.room.least c.requires.some c.loop-height.invariant.within_room in
    let most = more _ 1 _ room.most c.args.extras c.loop-height.height c.base_at-base.result c.lowest-least.result first least c.loop-height-test.true in
    (search rules, (simp to_z-of_z c.requires.diagonal, (omega (arith, kept, c.requires.short), (omega (arith, c.requires.few), (simp to_z-of_z (subst (λ k. IsRoom c.args.legs.now c.args.t c.args.a.now (suc (c.args.full + k)) room) (sym kept) after), (some, most))))))
  where
    fewer : (w x least room extras h base : ℕ) → least ≡ w - x → room ≡ w → room ≤ extras → h ≤ base + (extras - least) → least ≤ extras - (h - base)
    fewer w x least room extras h base e f l m = omega arith

    more : (b one low most extras h base least : ℕ) → base ≡ b → least ≡ max (max (max b one) low) (b + (extras - most)) → least ≤ h → extras - (h - base) ≤ most
    more b one low most extras h base least e f l = omega arith

pub push_longer-loop-height-preserved : goal.push_longer-loop-height-preserved
push_longer-loop-height-preserved t c =
    let len : c.len.result ≡ length c.args.front.now.items = search rules in
    let fits = c.ranges.t in
    let up = up-fits c.args.t c.requires.diagonal in
    let u = c.args.t +ℤ pos 1 in
    let d = c.args.full + length c.args.front.now.items in
    let h = c.loop-height.height in
    let first = simp to_z-of_z at c.base_at-base.ensures.value in
    let base : c.base_at-base.result ≡ base_at c.args.legs.now u d = first ∙ ap (λ n. base_at c.args.legs.now u (c.args.full + n)) len in
    let least = simp to_z-of_z at c.lowest-least.ensures in
    let after = simp to_z-of_z at c.in_ok-push_after.ensures.all in
    let low : c.base_at-base.result ≤ h = omega (arith, first, least, c.loop-height-test.true) in
    let some : 0 < h = omega (arith, least, c.loop-height-test.true) in
    let P : ℕ → Type 0 = λ b. b ≤ h in
    record {
      kept = c.in_ok-push_after.ensures.front ∙ c.loop-height.invariant.kept;
      within_top = omega (arith, c.loop-height.invariant.within_top);
      within_room = omega (arith, c.loop-height.invariant.within_room);
      slices = simp to_z-of_z (longer-next c.args.legs.now c.args.t c.args.a.now c.args.full c.args.front.now.items d c.args.left c.args.top c.args.extras h c.push_after.new.all.items c.loop-height.all.items _
          (subst P base low) some c.loop-height.invariant.within_top
          (after
          ∙ (ap (λ f. c.loop-height.all.items ++ behind c.args.t c.args.a.now c.args.full (f ++ h ∷ []) (columns c.args.legs.now u (suc (c.args.full + length f)) c.args.left h (c.args.extras - (h - c.base_at-base.result)))) c.loop-height.invariant.kept
          ∙ ap (λ b. c.loop-height.all.items ++ behind c.args.t c.args.a.now c.args.full (c.args.front.now.items ++ h ∷ []) (columns c.args.legs.now u (suc d) c.args.left h (c.args.extras - (h - b)))) base))
          (simp to_z-of_z at c.loop-height.invariant.slices));
    }

pub push_longer-returns-clause-all : goal.push_longer-returns-clause-all
push_longer-returns-clause-all t c =
    let len : c.len.result ≡ length c.args.front.now.items = search rules in
    let fits = c.ranges.t in
    let up = up-fits c.args.t c.requires.diagonal in
    let u = c.args.t +ℤ pos 1 in
    let d = c.args.full + length c.args.front.now.items in
    let after : IsRoom c.args.legs.now c.args.t c.args.a.now (suc d) c.room_after-after.result = subst (λ n. IsRoom c.args.legs.now c.args.t c.args.a.now (suc (c.args.full + n)) c.room_after-after.result) len (simp to_z-of_z at c.room_after-after.ensures) in
    let lowest : ℕ → ℕ = λ d. max (max (max (base_at c.args.legs.now u d) 1) (floor c.args.t c.args.a.now d)) (base_at c.args.legs.now u d + (c.args.extras - c.room_after-after.result.most)) in
    let least : c.lowest-least.result ≡ lowest d = simp to_z-of_z at c.lowest-least.ensures ∙ ap (λ n. lowest (c.args.full + n)) len in
    let P : ℕ → Type 0 = λ n. c.loop-height.height < n in
    longer-end c.args.legs.now c.args.t c.args.a.now c.args.full c.args.front.now.items d c.args.left c.args.top c.args.extras c.loop-height.height c.room_after-after.result.most c.loop-height.all.items _ refl (omega arith) after.most
    (subst P least c.loop-height-test.false) (simp to_z-of_z at c.loop-height.invariant.slices)
