-- Members of joined lists.
use Rattle.std.specs.Prelude.{◌⊎◌, List, [], ◌∷◌, ◌++◌}
use Rattle.std.proofs.Common.{refl, subst, inl, inr}
use Rattle.tv_laws_tiling.specs.Members.{Among, Once}

pub among-append : {A : Type 0} (z : A) (xs ys : List A) → Among z (xs ++ ys) → Among z xs ⊎ Among z ys
among-append z [] ys m = inr m
among-append z (x ∷ xs) ys (inl e) = inl (inl e)
among-append z (x ∷ xs) ys (inr m) = elim (among-append z xs ys m) [ inl h ↦ inl (inr h) | inr h ↦ inr h ]

pub append-among_left : {A : Type 0} (z : A) (xs ys : List A) → Among z xs → Among z (xs ++ ys)
append-among_left z [] ys m = elim m [ ]
append-among_left z (x ∷ xs) ys (inl e) = inl e
append-among_left z (x ∷ xs) ys (inr m) = inr (append-among_left z xs ys m)

pub append-among_right : {A : Type 0} (z : A) (xs ys : List A) → Among z ys → Among z (xs ++ ys)
append-among_right z [] ys m = m
append-among_right z (x ∷ xs) ys m = inr (append-among_right z xs ys m)

pub once-append : {A : Type 0} (xs ys : List A) → Once xs → Once ys → ((z : A) → Among z xs → Among z ys → ⊥) → Once (xs ++ ys)
once-append [] ys once_xs once_ys apart = once_ys
once-append (x ∷ xs) ys once_xs once_ys apart =
    (λ m. elim (among-append x xs ys m) [ inl h ↦ once_xs.0 h | inr h ↦ apart x (inl refl) h ], once-append xs ys once_xs.1 once_ys (λ z h k. apart z (inr h) k))

-- where no member stands twice, the two parts share none, and none stands twice in the second
pub append-once_apart : {A : Type 0} (z : A) (xs ys : List A) → Once (xs ++ ys) → Among z xs → Among z ys → ⊥
append-once_apart z [] ys once m n = m
append-once_apart z (x ∷ xs) ys once (inl e) n = once.0 (append-among_right x xs ys (subst (λ y. Among y ys) e n))
append-once_apart z (x ∷ xs) ys once (inr m) n = append-once_apart z xs ys once.1 m n

pub append-once_right : {A : Type 0} (xs ys : List A) → Once (xs ++ ys) → Once ys
append-once_right [] ys once = once
append-once_right (x ∷ xs) ys once = append-once_right xs ys once.1
