-- What the sum of two rows tells.
--
-- tells-fewer   of fewer numbers; tells-same, of equal ones; tells-row, a row of a table
-- tells-empty   the row without numbers tells none
-- tells-sum     the sum of two rows tells the sums
-- row-sum       and it is the row of them
use Rattle.std.proofs.Common.{◌≡◌, ℕ, ◌+◌, ◌-◌, ◌<◌, ◌≤◌, [], refl, sym, ◌∙◌, ap, arith, inl, inr}
use Rattle.std.specs.Prelude.{◌&&◌, nat_lt, nat_le, min}
use Rattle.std.proofs.lemmas.Bool.{cases_lt, lt-leb, le-leb}
use Rattle.tv_ring.specs.Operations.{Operations, RingLaws}
use Rattle.tv_ring.specs.Sums.{at, times}
use Rattle.tv_ring.proofs.Times.{times-none}
use Rattle.tv_laws_sums.specs.Sums.{charged}
use Rattle.tv_slices.specs.declared.row.Row.{Row}
use Rattle.tv_slices.specs.Rows.{shifted, is_reached}
use Rattle.tv_slices.specs.Tables.{HasRow}
use Rattle.tv_slices.proofs.Numbers.{shifted-none, shifted-some, sums-numbers, numbers-at, nothing-at, marks-at, marks-either, numbers-same, marks-same}
use Rattle.tv_slices.specs.Joined.{IsSum}
use Rattle.tv_sums.specs.Tells.{Tells}

pub charged-none : (f : ℕ → ℕ) (c : ℕ) → charged f 0 c ≡ f c
charged-none f c = let on = le-leb 0 c (omega arith) in let e : c - 0 ≡ c = omega arith in rw on (ap f e)

module _ {A : Type 0} (r : Operations A) where
  pub tells-fewer : (f g : ℕ → ℕ) (m n : ℕ) (row : Row A) → m ≤ n → ((c : ℕ) → c < m → f c ≡ g c) → Tells r f n row → Tells r g m row
  tells-fewer f g m n row l same tells = record {
    counts = λ c h. tells.counts c (further c h) ∙ ap (times r) (same c h);
    reached = λ c h. tells.reached c (further c h) ∙ ap (nat_lt 0) (same c h);
    least = λ c h low. sym (same c h) ∙ tells.least c (further c h) low;
  }
    where
      further : (c : ℕ) → c < m → c < n
      further c h = omega arith

  pub tells-row : (f : ℕ → ℕ) (n : ℕ) (row : Row A) → HasRow r f n row → Tells r f n row
  tells-row f n row has = record {
    counts = λ c h. numbers-at r f n row.counts.items c has.counts h;
    reached = λ c h. marks-at f n row.reached.items c has.reached h;
    least = has.least;
  }

  pub tells-empty : (n : ℕ) (row : Row A) → row.counts.items ≡ [] → row.reached.items ≡ [] → Tells r (λ c. 0) n row
  tells-empty n row none unmarked = record {
    counts = λ c h. ap (λ xs. at r xs c) none ∙ nothing-at r c;
    reached = λ c h. ap (λ bs. is_reached bs c) unmarked;
    least = λ c h low. refl;
  }

  shifted-tells : (f : ℕ → ℕ) (n : ℕ) (row : Row A) (x e : ℕ) → Tells r f n row → e < n + x → shifted r row.counts.items x e ≡ times r (charged f x e)
  shifted-tells f n row x e tells l = elim (cases_lt e x) [
    | inl less ↦ let off = lt-leb x e less in sym (shifted-none r row.counts.items x e less) ∙ rw off (sym (times-none r))
    | inr more ↦ let on = le-leb x e more in sym (shifted-some r row.counts.items x e more) ∙ rw on (tells.counts (e - x) (omega arith))
  ]

  marks-tell : (f : ℕ → ℕ) (n : ℕ) (row : Row A) (x e : ℕ) → Tells r f n row → e < n + x → (nat_le x e && is_reached row.reached.items (e - x)) ≡ nat_lt 0 (charged f x e)
  marks-tell f n row x e tells l = elim (cases_lt e x) [
    | inl less ↦ let off = lt-leb x e less in rw off refl
    | inr more ↦ let on = le-leb x e more in rw on (tells.reached (e - x) (omega arith))
  ]

  least-tells : (f : ℕ → ℕ) (n : ℕ) (row : Row A) (x e : ℕ) → Tells r f n row → e < n + x → e < row.least + x → charged f x e ≡ 0
  least-tells f n row x e tells l low = elim (cases_lt e x) [
    | inl less ↦ let off = lt-leb x e less in rw off refl
    | inr more ↦ let on = le-leb x e more in rw on (tells.least (e - x) (omega arith) (omega arith))
  ]

  pub least-beyond : (f : ℕ → ℕ) (n len : ℕ) (row : Row A) (x : ℕ) → Tells r f n row → len ≤ n + x → len ≤ row.least + x → (c : ℕ) → c < len → charged f x c ≡ 0
  least-beyond f n len row x tells l far c h = least-tells f n row x c tells (omega arith) (omega arith)

module _ {A : Type 0} {IsValue : A → Type 0} {r : Operations A} (laws : RingLaws IsValue r) where
  pub row-sum : (f g h : ℕ → ℕ) (m n len x : ℕ) (a b new : Row A) → Tells r f m a → Tells r g n b → len ≤ m → len ≤ n + x → IsSum r a b x len new → ((c : ℕ) → c < len → h c ≡ f c + charged g x c) → HasRow r h len new
  row-sum f g h m n len x a b new first second short long is same = record {
    counts = is.counts ∙ (sums-numbers laws a.counts.items b.counts.items x len f (charged g x) (λ e l. first.counts e (omega arith)) (λ e l. shifted-tells r g n b x e second (omega arith)) ∙ numbers-same r (λ c. f c + charged g x c) h len (λ c l. sym (same c l)));
    reached = is.reached ∙ (marks-either a.reached.items b.reached.items x len f (charged g x) (λ e l. first.reached e (omega arith)) (λ e l. marks-tell r g n b x e second (omega arith)) ∙ marks-same (λ c. f c + charged g x c) h len (λ c l. sym (same c l)));
    least = λ c l low. same c l ∙ both (f c) (charged g x c) (first.least c (omega arith) (under c new.least a.least low (lower new.least a.least (b.least + x) is.least).0)) (least-tells r g n b x c second (omega arith) (under c new.least (b.least + x) low (lower new.least a.least (b.least + x) is.least).1));
  }
    where
      both : (u v : ℕ) → u ≡ 0 → v ≡ 0 → u + v ≡ 0
      both u v eu ev = omega arith

      under : (c u v : ℕ) → c < u → u ≤ v → c < v
      under c u v l m = omega arith

      lower : (m u v : ℕ) → m ≡ min u v → (m ≤ u) × (m ≤ v)
      lower m u v e = (omega arith, omega arith)
