use Rattle.std.proofs.Common.{◌≡◌, ℕ, ◌+◌, [], ◌∷◌, ◌++◌, ◌<◌, Option, Some, sym, ap, ◌∙◌, subst}
use Rattle.std.specs.Prelude.{cond, MatchOption}
use Rattle.std.specs.Map.{lookup}
use Rattle.indexmap.specs.IndexMap.{insert_entry}
use Rattle.tv_spec_slices.specs.Slices.{Shape, same_shape}
use Rattle.tv_spec_slices.specs.Paths.{ways_at}
use Rattle.tv_laws_sums.specs.Mixed.{value}
use Rattle.tv_slices.specs.declared.row.Row.{Row}
use Rattle.tv_slices.specs.Tables.{HasRow}
use Rattle.tv_slices.proofs.Put.{row-same}
use Rattle.tv_sums.specs.Plans.{plan_for}
use Rattle.tv_sums.specs.Keys.{key}
use Rattle.tv_sums.specs.Tells.{Tells}
use Rattle.tv_sums.specs.Parts.{kept_in, ways_in, all_done, IsPart}
use Rattle.tv_sums.proofs.First.{more-own, more-tells, part-more, own-before}
use Rattle.tv_sums.proofs.slices.push_first.Goals as goal

pub returns : goal.returns
returns g c = λ t slices e low has part.
    let r = g.C.Ring.ring in let legs = c.args.legs.now in let plan = c.args.plan in let a = c.args.a.now in let rows = c.args.all.now.entries in
    let k = plan.k in let top = plan.top in let n = plan.n in let q = plan_for k t top n in
    let b = key (value top a) n in
    let part_q = subst (λ q. IsPart r legs t q 0 slices all_done rows) e part in
    let before = own-before r legs k t top n slices a low rows part_q in
    let tells = more-tells r legs k t top n slices a low c.args.row.now has in
    let len : c.kept_in-len.result ≡ kept_in legs q 0 b = c.kept_in-len.ensures.value ∙ (ap (kept_in legs plan 0) c.in_ok-key.ensures ∙ ap (λ q. kept_in legs q 0 b) e) in
    let F = ways_in legs t q 0 slices b in let G = ways_at legs k t a in
    let W : Option (Row g.row.C.Denot) → ℕ → Type 0 = λ o m. MatchOption o ((c : ℕ) → c < m → F c ≡ 0) (HasRow r F m) → Tells r G m c.args.row.now → HasRow r (λ c. F c + G c) m c.in_ok-sum.sum in
    let at_key = subst (λ s. W (lookup (same_shape s) rows) c.kept_in-len.result) c.in_ok-key.ensures (subst (λ o. W o c.kept_in-len.result) c.get.ensures.value (c.in_ok-sum.ensures F G)) in
    let sum = subst (λ m. W (lookup (same_shape b) rows) m) len at_key before tells in
    let own = row-same r (λ c. F c + G c) (ways_in legs t q 0 (slices ++ a ∷ []) b) (kept_in legs q 0 b) c.in_ok-sum.sum (λ c l. sym (more-own r legs k t top n slices a low c)) sum in
    let I : Shape → Type 0 = λ s. (HasRow r (ways_in legs t q 0 (slices ++ a ∷ []) s) (kept_in legs q 0 s) c.in_ok-sum.sum) in
    subst (λ q. IsPart r legs t q 0 (slices ++ a ∷ []) all_done c.insert.new.self.entries) (sym e)
    (part-more r legs k t top n slices a low c.in_ok-sum.sum rows c.insert.new.self.entries
    (subst (λ s. (q : Shape) → lookup (same_shape q) c.insert.new.self.entries ≡ cond (same_shape s q) (Some c.in_ok-sum.sum) (lookup (same_shape q) rows)) c.in_ok-key.ensures c.in_ok-insert.ensures.updates.0)
    (subst (λ s. c.insert.new.self.entries ≡ insert_entry same_shape rows s c.in_ok-sum.sum) c.in_ok-key.ensures c.in_ok-insert.ensures.entries) own part_q)
