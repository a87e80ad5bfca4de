use Rattle.std.proofs.Common.{◌≡◌, ℕ, ◌+◌, ◌-◌, ◌≤◌, ℤ, pos, ◌+ℤ◌, List, take, w32, sym, ◌∙◌, ap, arith, subst}
use Rattle.std.proofs.lemmas.Int.{to_z-of_z}
use Rattle.std.proofs.lemmas.Result.{err_from_is_err_and}
use Rattle.tv_spec_slices.specs.Slices.{Shape}
use Rattle.tv_spec_slices.specs.Paths.{next_of, ways_at}
use Rattle.tv_interlace.proofs.Up.{up-fits}
use Rattle.tv_slices.specs.declared.row.Row.{Row}
use Rattle.tv_slices.specs.Tables.{known, IsTable, IsTooMany}
use Rattle.tv_slices.proofs.Neighbours.{partly, partly-start, partly-more, partly-wide, partly-whole, take-whole, beside-at, pushes-beside}
use Rattle.tv_slices.proofs.table.push_slice.Goals as goal

pub loop-b-init : goal.loop-b-init
loop-b-init g c =
    let T : ℤ → Type 0 = λ t. (h : Shape → ℕ → ℕ) → IsTable g.C.Ring.ring c.args.legs.now c.args.k (t +ℤ pos 1) h c.args.next.now.entries →
    IsTable g.C.Ring.ring c.args.legs.now c.args.k (t +ℤ pos 1) (partly c.args.legs.now (t +ℤ pos 1) (ways_at c.args.legs.now c.args.k t c.args.a.now) (take 0 c.deref-b-items.result.now) h) c.args.next.now.entries in
    subst T (sym (to_z-of_z w32 c.args.t c.ranges.t))
    (λ h table. partly-start g.C.Ring.ring c.args.legs.now c.args.k c.args.t (c.args.t +ℤ pos 1) (ways_at c.args.legs.now c.args.k c.args.t c.args.a.now) h c.deref-b-items.result.now c.args.next.now.entries table)

pub loop-b-preserved : goal.loop-b-preserved
loop-b-preserved g c =
    let fits_t = c.ranges.t in
    let up = up-fits c.args.t c.requires.diagonal in
    let r = g.C.Ring.ring in let legs = c.args.legs.now in let k = c.args.k in let a = c.args.a.now in let b = c.b-item.result in
    let u = c.args.t +ℤ pos 1 in let bs = c.deref-b-items.result.now in let j = c.loop-b.b-index in let f = ways_at legs k c.args.t a in
    let T : ℕ → List (Shape × Row g.row.C.Denot) → ℤ → Type 0 = λ j rows t. (h : Shape → ℕ → ℕ) → IsTable r legs k (t +ℤ pos 1) h c.args.next.now.entries → IsTable r legs k (t +ℤ pos 1) (partly legs (t +ℤ pos 1) (ways_at legs k t a) (take j bs) h) rows in
    let tz = to_z-of_z w32 c.args.t c.ranges.t in
    let before = subst (T j c.loop-b.next.entries) tz c.loop-b.invariant in
    let N : ℤ → Type 0 = λ t. c.in_ok-slices.slices.items ≡ next_of legs t a c.saturating_sub.result in
    let is : bs ≡ next_of legs c.args.t a c.saturating_sub.result = c.deref-b-items.ensures.value ∙ subst N tz c.in_ok-slices.ensures in
    let beside = beside-at legs c.args.t c.saturating_sub.result a b bs j c.known.ensures.diagrams is c.loop-b-test.true c.b-item.is in
    let small : c.saturating_sub.result ≤ k = omega arith in
    let push = pushes-beside r legs k c.args.t c.saturating_sub.result a b c.args.row.now c.known.ensures.diagrams small c.requires.row beside in
    let one = simp to_z-of_z at c.in_ok-push_one.ensures.table in
    subst (T (j + 1) c.push_one.new.next.entries) (sym tz)
    (λ h table. partly-more r legs k c.args.t u f h bs j b c.push_one.new.next.entries c.loop-b-test.true c.b-item.is (one f (known legs k c.args.t a) (partly legs u f (take j bs) h) push (before h table)))

pub returns-clause-table : goal.returns-clause-table
returns-clause-table g c =
    let r = g.C.Ring.ring in let legs = c.args.legs.now in let k = c.args.k in let a = c.args.a.now in
    let u = c.args.t +ℤ pos 1 in let bs = c.deref-b-items.result.now in let j = c.loop-b.b-index in let f = ways_at legs k c.args.t a in
    let T : ℤ → Type 0 = λ t. (h : Shape → ℕ → ℕ) → IsTable r legs k (t +ℤ pos 1) h c.args.next.now.entries → IsTable r legs k (t +ℤ pos 1) (partly legs (t +ℤ pos 1) (ways_at legs k t a) (take j bs) h) c.loop-b.next.entries in
    let tz = to_z-of_z w32 c.args.t c.ranges.t in
    let before = subst T tz c.loop-b.invariant in
    let N : ℤ → Type 0 = λ t. c.in_ok-slices.slices.items ≡ next_of legs t a c.saturating_sub.result in
    let M : ℕ → Type 0 = λ m. bs ≡ next_of legs c.args.t a m in
    let is = subst M c.saturating_sub.ensures (c.deref-b-items.ensures.value ∙ subst N tz c.in_ok-slices.ensures) in
    λ h table.
    subst (λ q. IsTable r legs k u q c.loop-b.next.entries) (ap (λ cs. partly legs u f cs h) (take-whole bs j c.loop-b-test.false) ∙ partly-whole legs k c.args.t (k - c.args.row.now.least) a bs h is) (before h table)

pub returns-in_err-push_one-clause-wide : goal.returns-in_err-push_one-clause-wide
returns-in_err-push_one-clause-wide g c =
    let fits_t = c.ranges.t in
    let up = up-fits c.args.t c.requires.diagonal in
    let r = g.C.Ring.ring in let legs = c.args.legs.now in let k = c.args.k in let a = c.args.a.now in let b = c.b-item.result in
    let u = c.args.t +ℤ pos 1 in let bs = c.deref-b-items.result.now in let j = c.loop-b.b-index in let f = ways_at legs k c.args.t a in
    let T : ℤ → Type 0 = λ t. (h : Shape → ℕ → ℕ) → IsTable r legs k (t +ℤ pos 1) h c.args.next.now.entries → IsTable r legs k (t +ℤ pos 1) (partly legs (t +ℤ pos 1) (ways_at legs k t a) (take j bs) h) c.loop-b.next.entries in
    let tz = to_z-of_z w32 c.args.t c.ranges.t in
    let before = subst T tz c.loop-b.invariant in
    let N : ℤ → Type 0 = λ t. c.in_ok-slices.slices.items ≡ next_of legs t a c.saturating_sub.result in
    let is : bs ≡ next_of legs c.args.t a c.saturating_sub.result = c.deref-b-items.ensures.value ∙ subst N tz c.in_ok-slices.ensures in
    let M : ℕ → Type 0 = λ m. bs ≡ next_of legs c.args.t a m in
    let beside = beside-at legs c.args.t c.saturating_sub.result a b bs j c.known.ensures.diagrams is c.loop-b-test.true c.b-item.is in
    let small : c.saturating_sub.result ≤ k = omega arith in
    let push = pushes-beside r legs k c.args.t c.saturating_sub.result a b c.args.row.now c.known.ensures.diagrams small c.requires.row beside in
    let one = simp to_z-of_z at c.in_err-push_one.ensures.wide in
    let p = err_from_is_err_and c.from_residual-in_err-push_one.result c.from_residual-in_err-push_one.ensures.1 in
    rw (p.1, p.2) (λ e h table.
    subst (λ q. IsTooMany r legs k u q) (partly-whole legs k c.args.t (k - c.args.row.now.least) a bs h (subst M c.saturating_sub.ensures is))
    (partly-wide r legs k c.args.t u f h bs j b c.loop-b-test.true c.b-item.is (one e f (known legs k c.args.t a) (partly legs u f (take j bs) h) push (before h table))))
