use Rattle.std.proofs.Common.{◌≡◌, ℕ, ◌<◌, ◌+◌, w32, true, false, refl, take, sym, ap, ◌∙◌, subst, arith, inl}
use Rattle.std.specs.Prelude.{◌||◌, MatchOption}
use Rattle.std.proofs.lemmas.Int.{to_z-of_z}
use Rattle.tv_spec_slices.specs.Slices.{Shape, at, same_shape}
use Rattle.tv_slices.specs.Tables.{HasRow, IsTable}
use Rattle.tv_slices.proofs.Levels.{got}
use Rattle.tv_slices.proofs.Neighbours.{take-next, take-whole}
use Rattle.tv_laws_sums.specs.Mixed.{value}
use Rattle.tv_sums.specs.Plans.{are_fit}
use Rattle.tv_sums.specs.Keys.{key, IsKey}
use Rattle.tv_sums.specs.Parts.{kept_in, ways_in, summed, all_done, has_key, IsPart, IsEnd}
use Rattle.tv_sums.proofs.Done.{all-got}
use Rattle.tv_sums.proofs.LastTable.{has-push, end-start, end-turned, end-whole}
use Rattle.tv_sums.proofs.slices.last_slices.Goals as goal
use Rattle.tv_sums.proofs.slices.last_slices.Goals.{in-Some+in_ok-push_last, in_default}

pub loop-j-init : goal.loop-j-init
loop-j-init g c = λ old slices are at_t e high low part.
    let legs = c.args.legs.now in let plan = c.args.plan in
    subst (λ p. IsEnd g.C.Ring.ring legs old p slices (has_key (take 0 c.args.table.now.entries)) c.new-all.result.entries) (sym e)
    (end-start g.C.Ring.ring legs plan.k old plan.top plan.n slices are high c.new-all.result.entries (has_key (take 0 c.args.table.now.entries)) c.new-all.ensures.empty (λ q. refl))

pub loop-j-preserved : goal.loop-j-preserved
loop-j-preserved g c = λ old slices are at_t e high low part.
    let r = g.C.Ring.ring in let legs = c.args.legs.now in let plan = c.args.plan in let es = c.args.table.now.entries in
    let k = plan.k in let top = plan.top in let n = plan.n in
    elim c.match-get_index.branch [
      | in-Some+in_ok-push_last w ↦
          let h = w.in-Some.heights.now in let row = w.in-Some.row.now in
          let entry = sym w.in-Some.ensures.entry in
          let here = got es c.loop-j.j _ entry in
          let key_here = all-got (λ e. IsKey top n e.0 × (are_fit legs plan n (at e.0) ≡ true)) es c.loop-j.j _ part.keys entry in
          let has : HasRow r (ways_in legs old plan n slices h) (kept_in legs plan n h) row =
          subst (λ o. MatchOption o (all_done h ≡ true → (c : ℕ) → c < kept_in legs plan n h → ways_in legs old plan n slices h c ≡ 0) (HasRow r (ways_in legs old plan n slices h) (kept_in legs plan n h))) w.in-Some.ensures.value (part.each h key_here.0 key_here.1) in
          let before = c.loop-j.invariant old slices are at_t e high low part in
          let pushed = w.in_ok-push_last.ensures old slices (has_key (take c.loop-j.j es)) are at_t e high low key_here.0 has before in
          let more : (q : Shape) → has_key (take (c.loop-j.j + 1) es) q ≡ true → (has_key (take c.loop-j.j es) q || same_shape q h) ≡ true = λ q on.
          has-push (take c.loop-j.j es) (h, row) q (sym (ap (λ xs. has_key xs q) (take-next es c.loop-j.j (h, row) here.0 here.1)) ∙ on) in
          let turned = end-turned r legs k old top n slices are high (λ q. has_key (take c.loop-j.j es) q || same_shape q h) (has_key (take (c.loop-j.j + 1) es)) w.push_last.new.all.entries
          (λ s seen on. inl (more (key (value top s) n) on)) (subst (λ p. IsEnd r legs old p slices (λ q. has_key (take c.loop-j.j es) q || same_shape q h) w.push_last.new.all.entries) e pushed) in
          subst (λ m. IsEnd r legs old plan slices (has_key (take (c.loop-j.j + 1) es)) m.entries) (sym w.all-is)
          (subst (λ p. IsEnd r legs old p slices (has_key (take (c.loop-j.j + 1) es)) w.push_last.new.all.entries) (sym e) turned)
      | in_default w ↦ absurd (let off : false ≡ true = w.in_default.ensures.found.1 (omega arith) in cc)
    ]

pub returns : goal.returns
returns g c = λ old slices are at_t e high low short part.
    let r = g.C.Ring.ring in let legs = c.args.legs.now in let plan = c.args.plan in let es = c.args.table.now.entries in
    let k = plan.k in let top = plan.top in let n = plan.n in
    let end = c.loop-j.invariant old slices are (to_z-of_z w32 c.args.t c.ranges.t ∙ at_t) e high low part in
    let whole = subst (λ xs. IsEnd r legs old plan slices (has_key xs) c.loop-j.all.entries) (take-whole es c.loop-j.j (omega arith)) end in
    subst (λ t. IsTable r legs k t (summed legs k old slices) c.loop-j.all.entries) (sym at_t)
    (end-whole r legs k old top n slices are high low short es c.loop-j.all.entries (subst (λ p. IsPart r legs old p n slices all_done es) e part) (subst (λ p. IsEnd r legs old p slices (has_key es) c.loop-j.all.entries) e whole))
