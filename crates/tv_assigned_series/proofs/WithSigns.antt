-- The signs of the coefficients of an assignment.
use Rattle.std.proofs.Common.{◌≡◌, ℕ, suc, ◌<◌, ◌≤◌, ◌^◌, Bool, true, false, cond, List, refl, sym, ◌∙◌, ap, arith, w64, to_z, of_z}
use Rattle.std.specs.Prelude.{ℤ, pos, negsuc, neg_ℤ, ◌+ℤ◌, ◌-ℤ◌, ◌*ℤ◌, nat_eq, unsigned_abs}
use Rattle.std.proofs.lemmas.Int.{ints}
use Rattle.tv_ring.specs.Operations.{Operations, RingLaws}
use Rattle.tv_ring.specs.Sums.{at, times, whole_times}
use Rattle.tv_ring.proofs.Times.{whole_times-pos, whole_times-neg}
use Rattle.tv_laws_series.specs.Terms.{Terms, listed, above}
use Rattle.tv_laws_series.proofs.Exponents.{above_adds}
use Rattle.tv_laws_series.proofs.Listed.{at-listed, length-listed, listed_all}
use Rattle.tv_spec_plane.specs.Web.{Web, parity, sign}
use Rattle.tv_spec_boxes.specs.Assignments.{Rows, Assignment, all_legs, edge_costs, edge_twist, overlaps_of}
use Rattle.tv_spec_boxes.specs.Configurations.{boxes_left}
use Rattle.tv_laws_counts.specs.Ways.{corner_ways, ways_at, start_of, assignment_coefficient}
use Rattle.tv_assigned_series.specs.Terms.{signed_times, with_sign, signed, front_times}
use Rattle.tv_assigned_series.proofs.Coefficients.{signed_times-is}
use Rattle.tv_assigned_series.proofs.Fronts.{front_times-is}

pub signed-is : {A : Type 0} (r : Operations A) (xs : List A) (first : ℤ) (i : ℕ) → signed r xs first i ≡ with_sign r (at r xs i) (first +ℤ pos i)
unfolding signed
signed-is r xs first i = refl

-- a coefficient with its sign, as it is read
pub signed-read : {A : Type 0} (r : Operations A) (t : Terms A) (x : A) (first m z : ℤ) (k : ℕ) → t.low ≡ pos 0 → m ≡ pos k → z ≡ first +ℤ pos k → x ≡ at r t.coefficients (above t.low m) → with_sign r x z ≡ signed r t.coefficients first k
signed-read r t x first m z k el em ez ex =
    let adds = above_adds (pos 0) (pos k) (omega (arith, ints)) in
    let here : above t.low m ≡ k = rw (el, em) (place (above (pos 0) (pos k)) adds) in
    rw (ez, ex, here) (sym (signed-is r t.coefficients first k))
  where
    place : (d : ℕ) → pos 0 +ℤ pos d ≡ pos k → d ≡ k
    place d e = omega (arith, ints)

pub read_place : (first m : ℤ) (k : ℕ) → unsigned_abs first ≤ 2 ^ 40 → m ≡ pos k → k < 2 ^ 32 → to_z w64 (of_z w64 (to_z w64 (of_z w64 first) +ℤ to_z w64 (of_z w64 m))) ≡ first +ℤ pos k
read_place first m k h e small = omega (arith, ints)

negative : (n : ℕ) → negsuc 0 *ℤ pos n ≡ neg_ℤ (pos n)
negative n = omega (arith, ints)

positive : (n : ℕ) → pos 1 *ℤ pos n ≡ pos n
positive n = omega (arith, ints)

-- at i boxes from the start
left-at : (costs overlaps low : ℤ) (i : ℕ) → low ≡ costs -ℤ overlaps → ((low +ℤ pos i) -ℤ costs) +ℤ overlaps ≡ pos i
left-at costs overlaps low i e = omega (arith, ints)

twisted : (low twist first : ℤ) (i : ℕ) → first ≡ low +ℤ twist → (low +ℤ pos i) +ℤ twist ≡ first +ℤ pos i
twisted low twist first i e = omega (arith, ints)

coefficient-at : (w : Web) (fixed : List Rows) (a : Assignment) (low first : ℤ) (i : ℕ) → low ≡ start_of w fixed a → first ≡ low +ℤ edge_twist w a → assignment_coefficient w fixed a (low +ℤ pos i) ≡ sign (first +ℤ pos i) *ℤ pos (corner_ways (all_legs w a fixed) i)
unfolding assignment_coefficient
coefficient-at w fixed a low first i el ef =
    ap (λ z. sign z *ℤ pos (ways_at (all_legs w a fixed) (boxes_left w fixed a (low +ℤ pos i)))) (twisted low (edge_twist w a) first i ef)
    ∙ ap (λ z. sign (first +ℤ pos i) *ℤ pos (ways_at (all_legs w a fixed) z)) (left-at (edge_costs w a) (pos (overlaps_of (all_legs w a fixed))) low i el)

module _ {A : Type 0} {IsValue : A → Type 0} {r : Operations A} (laws : RingLaws IsValue r) where
  sign-times : (b : Bool) (n : ℕ) → whole_times r (cond b (pos 1) (negsuc 0) *ℤ pos n) ≡ cond b (times r n) (r.neg (times r n))
  sign-times true n = ap (whole_times r) (positive n) ∙ whole_times-pos r n
  sign-times false n = ap (whole_times r) (negative n) ∙ (whole_times-neg laws (pos n) ∙ ap r.neg (whole_times-pos r n))

  signed-at : (w : Web) (fixed : List Rows) (a : Assignment) (low first : ℤ) (k i : ℕ) (xs : List A) → i ≤ k → low ≡ start_of w fixed a → first ≡ low +ℤ edge_twist w a → xs ≡ listed (front_times r (all_legs w a fixed)) (suc k) → signed r xs first i ≡ signed_times r w fixed a low i
  signed-at w fixed a low first k i xs h el ef ex =
      let here : at r xs i ≡ times r (corner_ways (all_legs w a fixed) i) = ap (λ ys. at r ys i) ex ∙ (at-listed r (front_times r (all_legs w a fixed)) (suc k) i (omega arith) ∙ front_times-is r (all_legs w a fixed) i) in
      signed-is r xs first i
      ∙ (ap (λ x. with_sign r x (first +ℤ pos i)) here
      ∙ (sym (sign-times (nat_eq (parity (first +ℤ pos i)) 0) (corner_ways (all_legs w a fixed) i))
      ∙ (ap (whole_times r) (sym (coefficient-at w fixed a low first i el ef)) ∙ sym (signed_times-is r w fixed a low i))))

  pub signed-are : (w : Web) (fixed : List Rows) (a : Assignment) (low first : ℤ) (k : ℕ) (xs : List A) → low ≡ start_of w fixed a → first ≡ low +ℤ edge_twist w a → xs ≡ listed (front_times r (all_legs w a fixed)) (suc k) → listed (signed r xs first) (suc k) ≡ listed (signed_times r w fixed a low) (suc k)
  signed-are w fixed a low first k xs el ef ex =
      listed_all r (signed_times r w fixed a low) (listed (signed r xs first) (suc k)) (suc k) (length-listed (signed r xs first) (suc k))
      (λ i h. at-listed r (signed r xs first) (suc k) i h ∙ signed-at w fixed a low first k i xs (omega arith) el ef ex)
