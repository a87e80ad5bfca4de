-- Where product and family agree, and how far the integers of a family were read.
--
-- AgreeAt hs is js k     == Katz's products over the two lists have one value where the integer k begins: at its class and
--                           1 - genus
-- BeginsAbove D f c      == the series of each class of degree 1 to D is 0 at exponents below - c * degree
-- AgreesThrough N f is v == at the class v Katz's product over the integers and the family agree at every exponent at most N
-- IsBegun D f read is    == integers of the classes that were read: in order, and at each of these classes product and family
--                           agree through exponent 1
-- IsSeen N f read is v n == of the classes that were read each agrees through N but v, and v differs at n, not before
use Rattle.std.specs.Prelude.{◌≡◌, ◌⊎◌, Contains, ℕ, ℤ, pos, ◌+ℤ◌, ◌*ℤ◌, ◌≤ℤ◌, ◌<ℤ◌, List}
use Rattle.std.specs.List.{AllByRecursion}
use Rattle.tv_ring.specs.Whole.{wholes}
use Rattle.tv_spec_plane.specs.Web.{degree_of}
use Rattle.tv_spec_series.specs.Families.{Family, coefficient_of}
use Rattle.tv_spec_katz.specs.Katz.{Integer, katz}
use Rattle.tv_spec_katz.specs.Integers.{Agrees, Differs}
use Rattle.tv_spec_katz.specs.Relations.{AreOrdered}
use Rattle.tv_laws_katz.specs.Further.{own_exponent}
use Rattle.tv_laws_integers.specs.Closed.{IsClassTo, IsListed}

abbrev pub AgreeAt : List ℤ → List Integer → List Integer → Integer → Type 0
AgreeAt hs is js k = katz hs is k.class (own_exponent k) ≡ katz hs js k.class (own_exponent k)

abbrev pub BeginsAbove : ℕ → Family ℤ → ℕ → Type 0
BeginsAbove D f c = (v : List ℤ) (n : ℤ) → IsClassTo D f.heights v
    → (n +ℤ (pos c *ℤ degree_of f.heights v)) <ℤ pos 0 → coefficient_of wholes f v n ≡ pos 0

abbrev pub AgreesThrough : ℤ → Family ℤ → List Integer → List ℤ → Type 0
AgreesThrough N f is v = (n : ℤ) → n ≤ℤ N → Agrees f is v n

pub record IsBegun (D : ℕ) (f : Family ℤ) (read : List (List ℤ)) (is : List Integer) : Type 0 where
  pub ordered : AreOrdered D f.heights is
  pub listed : AllByRecursion (IsListed read) is
  pub agrees : AllByRecursion (AgreesThrough (pos 1) f is) read

pub record IsSeen (N : ℤ) (f : Family ℤ) (read : List (List ℤ)) (is : List Integer) (v : List ℤ) (n : ℤ) : Type 0 where
  pub there : Contains read v
  pub within : n ≤ℤ N
  pub others : (u : List ℤ) → Contains read u → (u ≡ v) ⊎ AgreesThrough N f is u
  pub before : (m : ℤ) → m <ℤ n → Agrees f is v m
  pub differs : Differs f is v n
