-- A set into which all diagrams of a size are put in order numbers them by their places in the list.
use Rattle.std.proofs.Common.{◌≡◌, ℕ, zero, suc, ◌<◌, List, [], ◌∷◌, length, nat_eq, rules, arith, refl, sym, ◌∙◌, ap}
use Rattle.std.specs.Prelude.{Option, Some, None, IsSome, IfSome, is_some, slice_get, slice_index_or, ◌↔◌}
use Rattle.std.specs.List.{list_any, position}
use Rattle.std.specs.Cmp.{IsEquivalence}
use Rattle.std.specs.Cmp.Lexicographic.{pointwise}
use Rattle.std.specs.Cmp.Rules.{comparing}
use Rattle.std.proofs.lemmas.List.Quantifiers.{position-Some}
use Rattle.indexmap.specs.IndexSet.{insert_all}
use Rattle.indexmap.proofs.SetLemmas.{set_all_distinct}
use Rattle.tv_partition.specs.Rows.{IsSmall, size, diagrams}
use Rattle.tv_partition.proofs.Descending.{diagrams-once}
use Rattle.tv_partition.proofs.Members.{same_lists, diagrams-are-all}

lists_equivalence : IsEquivalence (pointwise nat_eq)
lists_equivalence = search (comparing, rules)

pub numbered-keys : (keys all : List (List ℕ)) (n : ℕ) → keys ≡ insert_all (pointwise nat_eq) [] all → all ≡ diagrams n → keys ≡ diagrams n
numbered-keys keys all n made is =
    made ∙ (ap (insert_all (pointwise nat_eq) []) is ∙ set_all_distinct lists_equivalence [] (diagrams n) (diagrams-once n))

pub number-exists : (d : List ℕ) (keys : List (List ℕ)) (n : ℕ) (r : Option ℕ) → is_some r ≡ list_any (pointwise nat_eq d) keys → keys ≡ diagrams n → IsSmall d → IsSome r ↔ (size d ≡ n)
number-exists d keys n r found is small =
    let same = found ∙ ap (list_any (pointwise nat_eq d)) is in
    let all = diagrams-are-all n d in
    (λ some. (all.0 (sym same ∙ some)).1, λ cells. same ∙ all.1 (small.0, cells))

slice_get_at : (lists : List (List ℕ)) (k : ℕ) (d : List ℕ) → k < length lists → slice_get lists k ≡ Some (slice_index_or lists k d)
slice_get_at [] k d l = absurd (omega arith)
slice_get_at (a ∷ lists) zero d l = refl
slice_get_at (a ∷ lists) (suc k) d l = slice_get_at lists k d (omega arith)

pub number-value : (d : List ℕ) (keys : List (List ℕ)) (n : ℕ) (r : Option ℕ) → r ≡ position (pointwise nat_eq d) keys → keys ≡ diagrams n → IfSome r (λ k. slice_get (diagrams n) k ≡ Some d)
number-value d keys n None at is = tt
number-value d keys n (Some k) at is =
    let place = position-Some (pointwise nat_eq d) keys k d (sym at) in
    ap (λ lists. slice_get lists k) (sym is) ∙ (slice_get_at keys k d place.0 ∙ ap Some (sym (same_lists d (slice_index_or keys k d) place.1)))
