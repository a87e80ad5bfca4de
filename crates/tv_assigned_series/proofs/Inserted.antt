-- What is kept by three legs, where something is put in.
use Rattle.std.proofs.Common.{◌≡◌, Bool, true, false, ◌&&◌, cond, List, [], ◌∷◌, Option, Some, None, nat_eq, refl, sym, ◌∙◌, ap, subst}
use Rattle.std.specs.Prelude.{IsSomeAnd}
use Rattle.std.specs.List.{AllByRecursion}
use Rattle.std.specs.Map.{lookup}
use Rattle.std.specs.Cmp.Lexicographic.{pointwise}
use Rattle.indexmap.specs.IndexMap.{insert_entry}
use Rattle.tv_cells.specs.declared.legs.Legs.{Legs}
use Rattle.tv_partition.proofs.Members.{same_lists}
use Rattle.tv_assigned_series.specs.Kept.{same}

and-both : (a b : Bool) → a && b ≡ true → (a ≡ true) × (b ≡ true)
and-both true b e = (refl, e)
and-both false b e = absurd (let f : false ≡ true = e in cc)

legs-are : (a b : Legs) → a.along_x ≡ b.along_x → a.along_y ≡ b.along_y → a.along_z ≡ b.along_z → a ≡ b
legs-are a b ex ey ez = ap (λ x. record a { along_x = x }) ex ∙ (ap (λ y. record a { along_x = b.along_x; along_y = y }) ey ∙ ap (λ z. record b { along_z = z }) ez)

-- legs that are found equal are equal
pub same-legs : (a b : Legs) → same a b ≡ true → a ≡ b
same-legs a b e =
    let first = and-both (pointwise nat_eq a.along_x b.along_x) (pointwise nat_eq a.along_y b.along_y && pointwise nat_eq a.along_z b.along_z) e in
    let others = and-both (pointwise nat_eq a.along_y b.along_y) (pointwise nat_eq a.along_z b.along_z) first.1 in
    legs-are a b (same_lists a.along_x b.along_x first.0) (same_lists a.along_y b.along_y others.0) (same_lists a.along_z b.along_z others.1)

module _ {V : Type 0} (P : Legs → V → Type 0) where
  each-onto : (b : Bool) (e : Legs × V) (es new : List (Legs × V)) (legs : Legs) (v : V) → same legs e.0 ≡ b → P legs v → AllByRecursion (λ f. P f.0 f.1) (e ∷ es) → AllByRecursion (λ f. P f.0 f.1) new → AllByRecursion (λ f. P f.0 f.1) (cond b ((e.0, v) ∷ es) (e ∷ new))
  each-onto true e es new legs v found here each rest = (subst (λ ls. P ls v) (same-legs legs e.0 found) here, each.1)
  each-onto false e es new legs v found here each rest = (each.0, rest)

  pub each-insert : (es : List (Legs × V)) (legs : Legs) (v : V) → P legs v → AllByRecursion (λ f. P f.0 f.1) es → AllByRecursion (λ f. P f.0 f.1) (insert_entry same es legs v)
  each-insert [] legs v here each = (here, tt)
  each-insert (e ∷ es) legs v here each = each-onto (same legs e.0) e es (insert_entry same es legs v) legs v refl here each (each-insert es legs v here each.1)

  -- where what is put in under some legs has P as soon as what stood there has it, P stays of what is found
  pub still-found : (old new : List (Legs × V)) (copy q : Legs) (v : V) → lookup (same q) new ≡ cond (same copy q) (Some v) (lookup (same q) old) → ((u : V) → lookup (same copy) old ≡ Some u → P copy u → P copy v) → IsSomeAnd (lookup (same q) old) (P q) → IsSomeAnd (lookup (same q) new) (P q)
  still-found old new copy q v put more had = decided (same copy q) refl
    where
      stood : (o : Option V) → lookup (same copy) old ≡ o → IsSomeAnd o (P copy) → P copy v
      stood None e h = absurd h
      stood (Some u) e h = more u e h

      at : (b : Bool) → same copy q ≡ b → lookup (same q) new ≡ cond b (Some v) (lookup (same q) old)
      at b e = put ∙ ap (λ d. cond d (Some v) (lookup (same q) old)) e

      decided : (b : Bool) → same copy q ≡ b → IsSomeAnd (lookup (same q) new) (P q)
      decided true e =
          let one : copy ≡ q = same-legs copy q e in
          let here : P copy v = stood (lookup (same copy) old) refl (subst (λ l. IsSomeAnd (lookup (same l) old) (P l)) (sym one) had) in
          subst (λ o. IsSomeAnd o (P q)) (sym (at true e)) (subst (λ l. P l v) one here)
      decided false e = subst (λ o. IsSomeAnd o (P q)) (sym (at false e)) had
