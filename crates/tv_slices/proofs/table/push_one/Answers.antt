use Rattle.std.proofs.Common.{◌≡◌, ℕ, ◌+◌, ◌<◌, ◌≤◌, true, Option, Err, sym, ap, arith, subst, rules}
use Rattle.std.specs.Map.{lookup}
use Rattle.std.proofs.lemmas.Int.{to_z-of_z}
use Rattle.std.proofs.lemmas.Result.{err_from_is_err_and}
use Rattle.tv_ring.specs.Operations.{limit}
use Rattle.tv_ring.specs.Sums.{at}
use Rattle.tv_ring.specs.declared.fault.RingFault.TheVariants.{Wide}
use Rattle.tv_spec_slices.specs.Slices.{Shape, fits, extras_of, same_shape}
use Rattle.tv_slices.specs.declared.row.Row.{Row}
use Rattle.tv_slices.specs.Rows.{shifted}
use Rattle.tv_slices.specs.Tables.{known, HasRow, IsTable, with_one}
use Rattle.tv_slices.specs.Joined.{counts_of, IsJoined}
use Rattle.tv_slices.proofs.Put.{Kept, kept-of, table-put, table-stays, joined-row, joined-wide}
use Rattle.tv_slices.proofs.table.push_one.Goals as goal

pub returns-then-saturating_add-from-clause-table :
    goal.returns-then-saturating_add-from-clause-table
returns-then-saturating_add-from-clause-table g c =
    let fits_t = c.ranges.t in
    let extras : c.extras_of-extras.result ≡ extras_of c.args.legs.now c.args.t c.args.b.now = simp to_z-of_z at c.extras_of-extras.ensures in
    let len = c.kept-len.result in
    let far : len ≤ c.args.row.now.least + c.extras_of-extras.result = omega arith in
    let P : ℕ → Type 0 = λ n. n ≤ c.args.row.now.least + extras_of c.args.legs.now c.args.t c.args.b.now in
    let Q : ℕ → Type 0 = λ x. len ≤ c.args.row.now.least + x in
    let is = simp to_z-of_z at c.kept-len.ensures in
    λ f n h p table.
    let kept = kept-of g.C.Ring.ring c.args.legs.now c.args.k c.args.t h c.args.b.now len (lookup (same_shape c.args.b.now) c.args.next.now.entries) c.requires.few (table.each c.args.b.now) (subst (Kept g.C.Ring.ring c.args.legs.now c.args.k c.args.t c.args.b.now len) c.get-old.ensures.value is) in
    table-stays g.C.Ring.ring c.args.legs.now c.args.k c.args.t c.args.next.now.entries c.args.b.now c.args.row.now f n h p (subst P kept (subst Q extras far)) table

pub returns-in_err-sums-clause-wide : goal.returns-in_err-sums-clause-wide
returns-in_err-sums-clause-wide g c =
    let fits_t = c.ranges.t in
    let r = g.C.Ring.ring in
    let b = c.args.b.now in
    let len = c.kept-len.result in
    let x = extras_of c.args.legs.now c.args.t b in
    let o = lookup (same_shape b) c.args.next.now.entries in
    let extras : c.extras_of-extras.result ≡ x = simp to_z-of_z at c.extras_of-extras.ensures in
    let is = simp to_z-of_z at c.kept-len.ensures in
    let W : Option (Row g.row.C.Denot) → ℕ → ℕ → Type 0 = λ o x len. (e : ℕ) × (e < len) × (limit < r.size (at r (counts_of o) e) + r.size (shifted r c.args.row.now.counts.items x e)) in
    let p = err_from_is_err_and c.from_residual.result c.from_residual.ensures.1 in
    rw (p.1, p.2) (λ e f n h q table.
    let kept = kept-of r c.args.legs.now c.args.k c.args.t h b len o c.requires.few (table.each b) (subst (Kept r c.args.legs.now c.args.k c.args.t b len) c.get-old.ensures.value is) in
    let far = subst (λ len. W o x len) kept (subst (λ x. W o x len) extras (subst (λ u. W u c.extras_of-extras.result len) c.get-old.ensures.value (c.in_err-sums.ensures.wide (let w : c.in_err-sums.field-0.0 ≡ Wide = cc e in ap Err w)))) in
    joined-wide g.met.C.Ring.laws c.args.legs.now c.args.k c.args.t b c.args.row.now f n h q o far.0 g.met.C.Ring.sizes (table.each b) far.1 far.2)

pub returns-clause-table : goal.returns-clause-table
returns-clause-table g c =
    let fits_t = c.ranges.t in
    let r = g.C.Ring.ring in
    let b = c.args.b.now in
    let len = c.kept-len.result in
    let row = c.in_ok-sums.sums in
    let o = lookup (same_shape b) c.args.next.now.entries in
    let extras : c.extras_of-extras.result ≡ extras_of c.args.legs.now c.args.t b = simp to_z-of_z at c.extras_of-extras.ensures in
    let is = simp to_z-of_z at c.kept-len.ensures in
    let copied : c.in_ok-clone.field-0 ≡ b = search rules in
    let J : Option (Row g.row.C.Denot) → ℕ → ℕ → Type 0 = λ o x len. IsJoined r o c.args.row.now x len row in
    let sums = subst (λ x. J o x len) extras (subst (λ u. J u c.extras_of-extras.result len) c.get-old.ensures.value c.in_ok-sums.ensures.value) in
    λ f n h p table.
    let kept = kept-of r c.args.legs.now c.args.k c.args.t h b len o c.requires.few (table.each b) (subst (Kept r c.args.legs.now c.args.k c.args.t b len) c.get-old.ensures.value is) in
    let has : HasRow r (with_one c.args.legs.now c.args.t f b h b) (known c.args.legs.now c.args.k c.args.t b) row =
    joined-row g.met.C.Ring.laws c.args.legs.now c.args.k c.args.t b c.args.row.now f n h p o row (table.each b) (subst (λ len. J o (extras_of c.args.legs.now c.args.t b) len) kept sums) in
    let P : Shape → Type 0 = λ a. (fits c.args.legs.now c.args.t a ≡ true) × (extras_of c.args.legs.now c.args.t a ≤ c.args.k) × HasRow r (with_one c.args.legs.now c.args.t f a h a) (known c.args.legs.now c.args.k c.args.t a) row in
    let at_copy = subst P (sym copied) (p.suits, p.few, has) in
    let Q : Shape → Type 0 = λ a. IsTable r c.args.legs.now c.args.k c.args.t (with_one c.args.legs.now c.args.t f a h) c.insert.new.self.entries in
    subst Q copied (table-put r c.args.legs.now c.args.k c.args.t c.args.next.now.entries c.insert.new.self.entries c.in_ok-clone.field-0 row f h at_copy.0 at_copy.1 c.in_ok-insert.ensures.updates.0 c.in_ok-insert.ensures.entries at_copy.2 table)
