-- What is true of full and of reduced series, as laws.
--
-- FullIsOnly r        == two full families of one web have the same coefficients through n, whatever the class
-- OnlyQuotientThrough == of two quotients of z by g, through n, each is the other through n
-- HasUnit g           == g is 1 at 0, and 0 below
-- IsQuotientFromZero n z g f == f is 0 below some exponent, g below exponent 0, and the product of f and g is z at every
--                        exponent through n
-- QuotientFromZero    == where g is 1 at 0, and 0 below, the quotients by g are these
-- BeginsWithOne       == the full series of class zero, with all open edges empty, is 1 at exponent 0 and 0 below
-- NothingBelow        == the full series of a class of degree at most d is 0 below `lowest`: the least, over the assignments of
--                        degree at most d, of the sum of min(0, edge cost) over the compact edges less the overlap costs
-- AgreeThrough r n f g == the families have the same classes in the same order, and the same coefficients through n
-- ReducedIsOnly r     == two reduced families of one web, with the same diagrams on the open edges, agree through their order
-- IsOne r n s         == s is one at exponent 0 and nought elsewhere, through n
-- AreAtMost b v       == each entry of v is at most b in absolute value
-- HasReducedClasses r w b n f == class zero is there, and its series is one; every other class has a degree of at least 1; and
--                        each entry of a class is at most b times its degree in absolute value
-- ReducedClasses r    == a reduced family of a graded web, with all open edges empty, has such classes where each entry of the
--                        class of each compact edge is at most b: where every compact edge has its rule and no coordinate
--                        is over 100, 402 is such a b
use Rattle.std.specs.Prelude.{◌≡◌, ◌≢◌, ◌⊎◌, Contains, ℕ, ◌≤◌, ℤ, pos, ◌*ℤ◌, ◌≤ℤ◌, ◌<ℤ◌, unsigned_abs, List, length}
use Rattle.std.specs.List.{AllByRecursion}
use Rattle.tv_spec_plane.specs.Web.{Web, compact, edge_class, degree_of}
use Rattle.tv_partition.specs.Rows.{IsDiagram}
use Rattle.tv_ring.specs.Operations.{Operations}
use Rattle.tv_spec_plane.specs.Graded.{IsGraded}
use Rattle.tv_spec_boxes.specs.Assignments.{Rows, no_legs, zeros}
use Rattle.tv_spec_boxes.specs.Configurations.{signed_count}
use Rattle.tv_spec_boxes.specs.Numbers.{lowest}
use Rattle.tv_laws_series.specs.Terms.{Terms}
use Rattle.tv_spec_series.specs.Families.{Family, classes, coefficient, coefficient_of}
use Rattle.tv_spec_series.specs.Full.{IsFull}
use Rattle.tv_spec_series.specs.Reduced.{product_at, IsQuotient, zero_coefficient}
use Rattle.tv_spec_series.specs.ReducedFamilies.{IsReducedFamily}

abbrev pub FullIsOnly : {A : Type 0} → Operations A → Type 0
FullIsOnly {A} r = (w : Web) (fixed : List Rows) (d : ℕ) (n : ℤ) (f g : Family A) → IsFull r w fixed d n f → IsFull r w fixed d n g
    → (v : List ℤ) (i : ℤ) → i ≤ℤ n → coefficient_of r f v i ≡ coefficient_of r g v i

abbrev pub OnlyQuotientThrough : Type 0
OnlyQuotientThrough = (n : ℤ) (z g f h : ℤ → ℤ) → IsQuotient n z g f → IsQuotient n z g h → (i : ℤ) → i ≤ℤ n → f i ≡ h i

pub record HasUnit (g : ℤ → ℤ) : Type 0 where
  pub unit : g (pos 0) ≡ pos 1
  pub none : (n : ℤ) → n <ℤ pos 0 → g n ≡ pos 0

pub record IsQuotientFromZero (n : ℤ) (z g f : ℤ → ℤ) : Type 0 where
  pub low : ℤ
  pub none : (m : ℤ) → m <ℤ low → f m ≡ pos 0
  pub begins : (m : ℤ) → m <ℤ pos 0 → g m ≡ pos 0
  pub product : (m : ℤ) → m ≤ℤ n → product_at low (pos 0) f g m ≡ z m

abbrev pub QuotientFromZero : Type 0
QuotientFromZero = (n : ℤ) (z g f : ℤ → ℤ) → HasUnit g
    → (IsQuotientFromZero n z g f → IsQuotient n z g f) × (IsQuotient n z g f → IsQuotientFromZero n z g f)

abbrev pub BeginsWithOne : Type 0
BeginsWithOne = (w : Web) → IsGraded w → HasUnit (zero_coefficient w (no_legs w))

abbrev pub NothingBelow : Type 0
NothingBelow = (w : Web) (fixed : List Rows) (d : ℕ) (v : List ℤ) (n : ℤ) → IsGraded w → AllByRecursion IsDiagram fixed
    → degree_of w.heights v ≤ℤ pos d → n <ℤ lowest w fixed d → signed_count w fixed v n ≡ pos 0

pub record AgreeThrough {A : Type 0} (r : Operations A) (n : ℤ) (f g : Family A) : Type 0 where
  pub classes : classes f.rows ≡ classes g.rows
  pub coefficients : (v : List ℤ) (i : ℤ) → i ≤ℤ n → coefficient_of r f v i ≡ coefficient_of r g v i

abbrev pub ReducedIsOnly : {A : Type 0} → Operations A → Type 0
ReducedIsOnly {A} r = (w : Web) (fixed : List Rows) (d : ℕ) (n : ℤ) (f g : Family A) → IsReducedFamily r w fixed d n f
    → IsReducedFamily r w fixed d n g → AgreeThrough r n f g

pub record IsOne {A : Type 0} (r : Operations A) (n : ℤ) (s : Terms A) : Type 0 where
  pub unit : pos 0 ≤ℤ n → coefficient r s (pos 0) ≡ r.unit
  pub others : (i : ℤ) → i ≤ℤ n → i ≢ pos 0 → coefficient r s i ≡ r.nought

abbrev pub AreAtMost : ℕ → List ℤ → Type 0
AreAtMost b v = AllByRecursion (λ x. unsigned_abs x ≤ b) v

pub record HasReducedClasses {A : Type 0} (r : Operations A) (w : Web) (b : ℕ) (n : ℤ) (f : Family A) : Type 0 where
  pub zero : Contains (classes f.rows) (zeros (length w.points))
  pub one : AllByRecursion (λ row. row.class ≡ zeros (length w.points) → IsOne r n row.series) f.rows
  pub others : AllByRecursion (λ v. (v ≡ zeros (length w.points)) ⊎ (pos 0 <ℤ degree_of w.heights v)) (classes f.rows)
  pub entries : AllByRecursion (λ v. AllByRecursion (λ x. pos (unsigned_abs x) ≤ℤ (pos b *ℤ degree_of w.heights v)) v) (classes f.rows)

abbrev pub ReducedClasses : {A : Type 0} → Operations A → Type 0
ReducedClasses {A} r = (w : Web) (b d : ℕ) (n : ℤ) (f : Family A) → IsGraded w
    → AllByRecursion (λ e. AreAtMost b (edge_class w e)) (compact w) → IsReducedFamily r w (no_legs w) d n f
    → HasReducedClasses r w b n f
