-- What is asked of a line by what stands before it.
--
-- section_by z v ts is == the section of the class v of degree z, with these terms and integers
-- HeightsFit hs, DegreeFits D, OrderFits N == what the grammar asks of the heights, the greatest degree and the last exponent
-- AreFewHeights hs     == at most 64 heights within their limit
-- IsZeroClass hs z v   == degree 0, and an entry 0 for each height
-- RisesTo ts n         == the exponent of the last term is less than n, where there is one
-- GeneraRiseTo is g    == the genus of the last integer is less than g, where there is one
-- is_later z u y v     == whether the class v of degree y comes after u of degree z
-- Opens hs D z u y v   == a section of the class v of degree y may follow that of u of degree z
use Rattle.std.specs.Prelude.{◌≡◌, ℕ, ◌<◌, ◌≤◌, ℤ, pos, ◌≤ℤ◌, ◌<ℤ◌, int_lt, unsigned_abs, Bool, true, ◌&&◌, ◌||◌, List, [], ◌∷◌, length, ⊤}
use Rattle.std.specs.List.{AllByRecursion}
use Rattle.std.specs.Ordering.{int_eq}
use Rattle.tv_spec_plane.specs.Web.{degree_of}
use Rattle.tv_spec_series.specs.Families.{entries_before}
use Rattle.tv_spec_text.specs.Reports.{Term}
use Rattle.tv_spec_reports.specs.IntegerLines.{GenusValue, GvSection}

abbrev pub section_by : ℤ → List ℤ → List Term → List GenusValue → GvSection
section_by z v ts is = record { section = record { degree = z; entries = v; terms = ts }; integers = is }

pub record HeightsFit (hs : List ℤ) : Type 0 where
  pub some : 1 ≤ length hs
  pub few : length hs ≤ 64
  pub small : AllByRecursion (λ h. unsigned_abs h ≤ 1000000) hs

pub record DegreeFits (D : ℤ) : Type 0 where
  pub least : pos 0 ≤ℤ D
  pub greatest : D ≤ℤ pos 24

pub record OrderFits (N : ℤ) : Type 0 where
  pub least : pos 1 ≤ℤ N
  pub greatest : N ≤ℤ pos 64

pub record AreFewHeights (hs : List ℤ) : Type 0 where
  pub few : length hs ≤ 64
  pub small : AllByRecursion (λ h. unsigned_abs h ≤ 1000000) hs

pub record IsZeroClass (hs : List ℤ) (z : ℤ) (v : List ℤ) : Type 0 where
  pub degree : z ≡ pos 0
  pub count : length v ≡ length hs
  pub zero : AllByRecursion (λ x. x ≡ pos 0) v

abbrev pub RisesTo : List Term → ℤ → Type 0
RisesTo [] n = ⊤
RisesTo (t ∷ []) n = t.exponent <ℤ n
RisesTo (t ∷ u ∷ ts) n = RisesTo (u ∷ ts) n

abbrev pub GeneraRiseTo : List GenusValue → ℕ → Type 0
GeneraRiseTo [] g = ⊤
GeneraRiseTo (i ∷ []) g = i.genus < g
GeneraRiseTo (i ∷ j ∷ is) g = GeneraRiseTo (j ∷ is) g

abbrev pub is_later : ℤ → List ℤ → ℤ → List ℤ → Bool
is_later z u y v = int_lt z y || (int_eq z y && entries_before u v)

pub record Opens (hs : List ℤ) (D z : ℤ) (u : List ℤ) (y : ℤ) (v : List ℤ) : Type 0 where
  pub entries : length v ≡ length hs
  pub degree : y ≡ degree_of hs v
  pub positive : pos 1 ≤ℤ y
  pub within : y ≤ℤ D
  pub later : is_later z u y v ≡ true
