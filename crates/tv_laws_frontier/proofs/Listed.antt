-- The lists of assignments and of choices have what is picked from their members.
use Rattle.std.specs.Prelude.{◌≡◌, Contains, ℕ, Bool, length, filter}
use Rattle.std.proofs.Common.{sym, ◌∙◌, arith}
use Rattle.std.proofs.lemmas.List.{length-map}
use Rattle.tv_lemmas.specs.Naturals.{as_natural}
use Rattle.tv_lemmas.proofs.Distinct.{pointwise-tells}
use Rattle.tv_lemmas.proofs.Lists.{pointwise-own}
use Rattle.tv_lemmas.proofs.Members.{all-filter, all-contains}
use Rattle.tv_lemmas.proofs.Permuted.{IsEquality}
use Rattle.tv_partition.proofs.Members.{same_lists}
use Rattle.tv_spec_plane.specs.declared.records.CompactEdge.{CompactEdge}
use Rattle.tv_spec_plane.specs.Graded.{HasDegree, IsGraded}
use Rattle.tv_spec_plane.specs.Web.{Web, compact, edge_degree}
use Rattle.tv_spec_boxes.specs.Assignments.{Assignment, choices, assignments, same_rows, same_choice}
use Rattle.tv_laws_counts.proofs.Assigned.{choice_listed}
use Rattle.tv_laws_counts.proofs.Choices.{IsChoice, own, choices_are}
use Rattle.tv_laws_counts.proofs.Degrees.{weights, weights_positive}
use Rattle.tv_laws_frontier.specs.Frontier.{only}
use Rattle.tv_laws_frontier.specs.Steps.{picked, choices_on}
use Rattle.tv_laws_frontier.proofs.Placed.{picked-long, picked-diagrams, picked-degree, only-long, only-diagrams, only-degree}

pub choice_equality : IsEquality same_choice
choice_equality = record { own = pointwise-own same_rows own; tells = pointwise-tells same_rows same_lists }

-- ---- members of the lists

pub listed-choice : (w : Web) (d : ℕ) (a : Assignment) → Contains (assignments w d) a → IsChoice (weights w (compact w)) d a
unfolding assignments
listed-choice w d a among = all-contains (IsChoice (weights w (compact w)) d) (choices (weights w (compact w)) d) a (choices_are (weights w (compact w)) d) among

pub choice-listed : (w : Web) (d : ℕ) (a : Assignment) → IsGraded w → IsChoice (weights w (compact w)) d a → Contains (assignments w d) a
unfolding assignments
choice-listed w d a graded is = choice_listed (weights w (compact w)) (weights_positive w (compact w) graded) d a is

pub listed-long : (w : Web) (d : ℕ) (a : Assignment) → Contains (assignments w d) a → length a ≡ length (compact w)
listed-long w d a among = (listed-choice w d a among).one_each ∙ length-map (compact w) (λ e. as_natural (edge_degree w e))

pub only-listed : (w : Web) (d : ℕ) (p : CompactEdge → Bool) (a : Assignment) → IsGraded w → Contains (assignments w d) a → Contains (assignments w d) (only p (compact w) a)
only-listed w d p a graded among =
    let is = listed-choice w d a among in
    let fewer = only-degree p (λ e. as_natural (edge_degree w e)) (compact w) a in
    let h = is.within in
    choice-listed w d (only p (compact w) a) graded (record {
      one_each = only-long p (compact w) a (listed-long w d a among) ∙ sym (length-map (compact w) (λ e. as_natural (edge_degree w e)));
      diagrams = only-diagrams p (compact w) a is.diagrams;
      within = omega arith;
    })

pub picked-listed : (w : Web) (d : ℕ) (p : CompactEdge → Bool) (a : Assignment) → IsGraded w → Contains (assignments w d) a → Contains (choices_on w p d) (picked p (compact w) a)
picked-listed w d p a graded among =
    let is = listed-choice w d a among in
    let fewer = picked-degree p (λ e. as_natural (edge_degree w e)) (compact w) a in
    let h = is.within in
    choice_listed (weights w (filter p (compact w))) (weights_positive w (filter p (compact w)) (all-filter (HasDegree w) (HasDegree w) p (λ e is on. is) (compact w) graded)) d (picked p (compact w) a) (record {
      one_each = picked-long p (compact w) a (listed-long w d a among) ∙ sym (length-map (filter p (compact w)) (λ e. as_natural (edge_degree w e)));
      diagrams = picked-diagrams p (compact w) a is.diagrams;
      within = omega arith;
    })
