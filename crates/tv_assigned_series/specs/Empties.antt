-- Corners without legs, the products over some of them, and the product over one corner more.
--
-- empties m            == m corners without legs
-- IsPower r m s        == s is the product over m corners without legs, known through some number of boxes
-- ArePowers r ss       == the first is so of one such corner, the next of two, and so on
-- IsStep r a b         == a is the product over some corners, known through fewer than 2^29 boxes, and b the series of a corner,
--                         known as far at least
-- IsNext r a b s       == over whatever corners a is the product, and of whatever corner b is the series, s is the product over
--                         these corners and that one, known as far as a is
-- IsNextBeyond r a b   == over whatever corners a is the product, and of whatever corner b is the series, these corners and that
--                         one have too many through as many boxes as a is known (IsBeyond)
use Rattle.std.specs.Prelude.{◌≡◌, ℕ, suc, ◌^◌, ◌<◌, List, [], ◌∷◌, ◌++◌, length, replicate, slice_index_or}
use Rattle.tv_ring.specs.Operations.{Operations}
use Rattle.tv_laws_series.specs.Terms.{Terms}
use Rattle.tv_cells.specs.declared.legs.Legs.{Legs}
use Rattle.tv_cells.specs.Extras.{empty_legs}
use Rattle.tv_assigned_series.specs.Terms.{front_terms, IsCornerFrom, IsBeyond}

abbrev pub empties : ℕ → List Legs
empties m = replicate m empty_legs

abbrev pub IsPower : {A : Type 0} → Operations A → ℕ → Terms A → Type 0
IsPower r m s = (j : ℕ) × (s ≡ front_terms r (empties m) j)

abbrev pub ArePowers : {A : Type 0} → Operations A → List (Terms A) → Type 0
ArePowers {A} r ss = (m : ℕ) (s : Terms A) → m < length ss → s ≡ slice_index_or ss m s → IsPower r (suc m) s

pub record IsStep {A : Type 0} (r : Operations A) (a b : Terms A) : Type 0 where
  pub front : List Legs
  pub corner : Legs
  pub boxes : ℕ
  pub few : boxes < 2 ^ 29
  pub product : a ≡ front_terms r front boxes
  pub series : IsCornerFrom r corner boxes b

abbrev pub IsNext : {A : Type 0} → Operations A → Terms A → Terms A → Terms A → Type 0
IsNext r a b s = (front : List Legs) (corner : Legs) (k : ℕ) → a ≡ front_terms r front k → IsCornerFrom r corner k b → s ≡ front_terms r (front ++ corner ∷ []) k

abbrev pub IsNextBeyond : {A : Type 0} → Operations A → Terms A → Terms A → Type 0
IsNextBeyond r a b = (front : List Legs) (corner : Legs) (k : ℕ) → a ≡ front_terms r front k → IsCornerFrom r corner k b → IsBeyond r (front ++ corner ∷ []) k
