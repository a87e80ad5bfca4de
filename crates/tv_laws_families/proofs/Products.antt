-- Products and quotients of functions of the exponent: in a ring the multiples of one convolve as the whole numbers do, and
-- a quotient is the only one.
use Rattle.std.proofs.Common.{◌≡◌, ◌≢◌, ℕ, zero, suc, ◌-◌, ◌*◌, ◌<◌, ◌≤◌, refl, sym, ap, ◌∙◌, arith}
use Rattle.std.specs.Prelude.{ℤ, pos, ◌+ℤ◌, ◌-ℤ◌, ◌*ℤ◌, ◌≤ℤ◌, ◌<ℤ◌, unsigned_abs, int_lt, if◌then◌else◌}
use Rattle.std.specs.Int.{int_min}
use Rattle.std.proofs.lemmas.Int.{ints, by_lt_z, clamps, unsigned_abs-mul}
use Rattle.std.proofs.lemmas.Nat.{mul-le}
use Rattle.tv_lemmas.proofs.Integers.{sub-mul}
use Rattle.tv_ring.specs.Operations.{Operations, RingLaws}
use Rattle.tv_ring.specs.Whole.{wholes}
use Rattle.tv_ring.specs.WholeLaws.{whole_laws}
use Rattle.tv_ring.specs.Sums.{sum_below, term, convolution, whole_times}
use Rattle.tv_ring.proofs.Sums.{sum_below-none, sum_below-more, sum_below-same}
use Rattle.tv_ring.proofs.Products.{term_is, convolution_is, convolution-same}
use Rattle.tv_ring.proofs.Times.{times-none, whole_times-pos, whole_times-add, whole_times-mul}
use Rattle.tv_laws_series.specs.Terms.{above, padded}
use Rattle.tv_laws_series.specs.Quotients.{owed}
use Rattle.tv_laws_series.proofs.Exponents.{above_is, above_adds}
use Rattle.tv_laws_series.proofs.Padded.{padded_before, padded_after, padded-convolution}
use Rattle.tv_laws_series.proofs.Quotients.{owed_is, owed-same}
use Rattle.tv_spec_series.specs.Reduced.{product_at, BeginsAt, IsQuotient}
use Rattle.tv_spec_series.proofs.Products.{from, product-below, product-at}
use Rattle.tv_laws_families.specs.Laws.{OnlyQuotientThrough, IsQuotientFromZero, QuotientFromZero}

abbrev pub multiples : {A : Type 0} → Operations A → (ℕ → ℤ) → ℕ → A
multiples r c i = whole_times r (c i)

module _ {A : Type 0} {IsValue : A → Type 0} {r : Operations A} (laws : RingLaws IsValue r) where
  sum_below-multiples : (c : ℕ → ℤ) (n : ℕ) → sum_below r (multiples r c) n ≡ whole_times r (sum_below wholes c n)
  sum_below-multiples c zero = rw (sum_below-none r (multiples r c), sum_below-none wholes c) (sym (whole_times-pos r 0 ∙ times-none r))
  sum_below-multiples c (suc n) = rw (sum_below-more r (multiples r c) n, sum_below-more wholes c n, whole_times-add laws (sum_below wholes c n) (c n), sum_below-multiples c n) refl

  term-multiples : (c f : ℕ → ℤ) (k i : ℕ) → term r (multiples r c) (multiples r f) k i ≡ multiples r (term wholes c f k) i
  term-multiples c f k i = rw (term_is r (multiples r c) (multiples r f) k i, term_is wholes c f k i) (sym (whole_times-mul laws (c i) (f (k - i))))

  pub convolution-multiples : (c f : ℕ → ℤ) (k : ℕ) → convolution r (multiples r c) (multiples r f) k ≡ whole_times r (convolution wholes c f k)
  convolution-multiples c f k =
      convolution_is r (multiples r c) (multiples r f) k
      ∙ (sum_below-same r (term r (multiples r c) (multiples r f) k) (multiples r (term wholes c f k)) (suc k) (λ i h. term-multiples c f k i)
      ∙ (sum_below-multiples (term wholes c f k) (suc k) ∙ ap (whole_times r) (sym (convolution_is wholes c f k))))

-- counted from a lower exponent, a series is 0 at first
from-lower : (low m : ℤ) (f : ℤ → ℤ) (i : ℕ) → m ≤ℤ low → ((n : ℤ) → n <ℤ low → f n ≡ pos 0) → from f m i ≡ padded wholes (above m low) (from f low) i
from-lower low m f i l none = by_lt_z (m +ℤ pos i) low
    (λ below. let e : i < above m low = omega (arith, ints, above_is m low) in
    none (m +ℤ pos i) below ∙ sym (padded_before wholes (above m low) (from f low) i e))
    (λ reached. let e : above m low ≤ i = omega (arith, ints, above_is m low) in
    let same : m +ℤ pos i ≡ low +ℤ pos (i - above m low) = omega (arith, ints, above_is m low) in
    ap f same ∙ sym (padded_after wholes (above m low) (from f low) i e))

-- so its products are the same
lower_at : (low m first : ℤ) (f g : ℤ → ℤ) (k : ℕ) → m ≤ℤ low → ((i : ℤ) → i <ℤ low → f i ≡ pos 0) → product_at m first f g ((m +ℤ first) +ℤ pos k) ≡ product_at low first f g ((m +ℤ first) +ℤ pos k)
lower_at low m first f g k l none =
    let d = above m low in
    let padding = product-at m first f g k
    ∙ (convolution-same wholes (from f m) (padded wholes d (from f low)) (from g first) (from g first) k (λ i _. from-lower low m f i l none) (λ i _. refl)
    ∙ padded-convolution whole_laws d (from f low) (from g first) k (λ i. tt) (λ i. tt)) in
    by_lt_z (m +ℤ pos k) low
    (λ below. let e : k < d = omega (arith, ints, above_is m low) in
    padding ∙ (padded_before wholes d (convolution wholes (from f low) (from g first)) k e ∙ sym (product-below low first f g ((m +ℤ first) +ℤ pos k) (omega (arith, ints)))))
    (λ reached. let e : d ≤ k = omega (arith, ints, above_is m low) in
    let same : (low +ℤ first) +ℤ pos (k - d) ≡ (m +ℤ first) +ℤ pos k = omega (arith, ints, above_is m low) in
    padding ∙ (padded_after wholes d (convolution wholes (from f low) (from g first)) k e ∙ (sym (product-at low first f g (k - d)) ∙ ap (product_at low first f g) same)))

lower : (low m first : ℤ) (f g : ℤ → ℤ) (n : ℤ) → m ≤ℤ low → ((i : ℤ) → i <ℤ low → f i ≡ pos 0) → product_at m first f g n ≡ product_at low first f g n
lower low m first f g n l none = by_lt_z n (m +ℤ first)
    (λ below. product-below m first f g n below ∙ sym (product-below low first f g n (omega (arith, ints))))
    (λ reached. let at : (m +ℤ first) +ℤ pos (above (m +ℤ first) n) ≡ n = above_adds (m +ℤ first) n reached in
    ap (product_at m first f g) (sym at) ∙ (lower_at low m first f g (above (m +ℤ first) n) l none ∙ ap (product_at low first f g) at))

-- ---- a factor that is not 0 can be left out

zero_product : (x c : ℤ) → c ≢ pos 0 → x *ℤ c ≡ pos 0 → x ≡ pos 0
zero_product x c some e =
    let size : unsigned_abs x * unsigned_abs c ≡ 0 = sym (unsigned_abs-mul x c) ∙ ap unsigned_abs e in
    let one : 1 ≤ unsigned_abs c = omega (arith, ints, some) in
    let less : unsigned_abs x * 1 ≤ unsigned_abs x * unsigned_abs c = mul-le (unsigned_abs x) 1 (unsigned_abs x) (unsigned_abs c) (omega arith) one in
    omega (arith, ints)

same_factor : (x y c : ℤ) → c ≢ pos 0 → x *ℤ c ≡ y *ℤ c → x ≡ y
same_factor x y c some e =
    let none : (x -ℤ y) *ℤ c ≡ pos 0 = sub-mul x y c ∙ omega (arith, ints) in
    let same = zero_product (x -ℤ y) c some none in
    omega (arith, ints)

-- a product by its last term
pub convolution-last : (d g : ℕ → ℤ) (k : ℕ) → convolution wholes d g k ≡ owed wholes d g k +ℤ (d k *ℤ g 0)
convolution-last d g k =
    let e : k - k ≡ 0 = omega arith in
    rw (convolution_is wholes d g k, sum_below-more wholes (term wholes d g k) k, term_is wholes d g k k, e, owed_is wholes d g k) refl

-- so the products tell one factor, where the other begins with what is not 0
same_factors : (d e g : ℕ → ℤ) (n k : ℕ) → g 0 ≢ pos 0 → ((i : ℕ) → i < n → convolution wholes d g i ≡ convolution wholes e g i) → k < n → d k ≡ e k
same_factors d e g zero k some products h = absurd (omega arith)
same_factors d e g (suc n) k some products h =
    let before : owed wholes d g k ≡ owed wholes e g k = owed-same wholes d e g k (λ i l. same_factors d e g n i some (λ j m. products j (omega arith)) (omega arith)) in
    let whole : owed wholes d g k +ℤ (d k *ℤ g 0) ≡ owed wholes e g k +ℤ (e k *ℤ g 0) = sym (convolution-last d g k) ∙ (products k h ∙ convolution-last e g k) in
    same_factor (d k) (e k) (g 0) some (omega (arith, ints))

-- ---- a quotient is the only one

begins_once : (g : ℤ → ℤ) (a b : ℤ) → BeginsAt a g → BeginsAt b g → a ≡ b
begins_once g a b at_a at_b = by_lt_z a b
    (λ below. absurd (at_a.some (at_b.none a below)))
    (λ h. by_lt_z b a (λ below. absurd (at_b.some (at_a.none b below))) (λ k. omega (arith, ints)))

-- from an exponent on that is at most its low, what a quotient gives with the divisor is the dividend
from_low : (n : ℤ) (z g f : ℤ → ℤ) (q : IsQuotient n z g f) (m : ℤ) (k : ℕ) → m ≤ℤ q.low → (m +ℤ pos k) ≤ℤ n → convolution wholes (from f m) (from g q.first) k ≡ z ((m +ℤ q.first) +ℤ pos k)
from_low n z g f q m k l within =
    sym (product-at m q.first f g k) ∙ (lower q.low m q.first f g ((m +ℤ q.first) +ℤ pos k) l q.none ∙ q.product ((m +ℤ q.first) +ℤ pos k) (omega (arith, ints)))

pub only_quotient_is : OnlyQuotientThrough
only_quotient_is n z g f h qf qh i within =
    let m = int_min (int_min qf.low qh.low) i in
    let k = above m i in
    let at : m +ℤ pos k ≡ i = above_adds m i (omega (arith, ints, clamps)) in
    let start : qh.first ≡ qf.first = begins_once g qh.first qf.first qh.begins qf.begins in
    let some : from g qf.first 0 ≢ pos 0 = λ e. qf.begins.some (ap g (omega (arith, ints)) ∙ e) in
    let same : from f m k ≡ from h m k = same_factors (from f m) (from h m) (from g qf.first) (suc k) k some
    (λ j l. from_low n z g f qf m j (omega (arith, ints, clamps)) (omega (arith, ints))
    ∙ sym (rw start at (from_low n z g h qh m j (omega (arith, ints, clamps)) (omega (arith, ints))))) (omega arith) in
    ap f (sym at) ∙ (same ∙ ap h at)

-- ---- a divisor that begins at exponent 0

pub quotient_from_zero : QuotientFromZero
quotient_from_zero n z g f starts = (into, back)
  where
    begins : BeginsAt (pos 0) g
    begins = record { none = starts.none; some = λ e. let one = starts.unit in omega (arith, ints) }

    into : IsQuotientFromZero n z g f → IsQuotient n z g f
    into q = record { low = q.low; first = pos 0; none = q.none; begins = begins; product = λ m h. q.product m (omega (arith, ints)) }

    back : IsQuotient n z g f → IsQuotientFromZero n z g f
    back q =
        let start : q.first ≡ pos 0 = begins_once g q.first (pos 0) q.begins begins in
        let product = λ (m : ℤ) (h : m ≤ℤ n). q.product m (omega (arith, ints)) in
        record { low = q.low; none = q.none; begins = starts.none; product = λ m h. ap (λ (a : ℤ). product_at q.low a f g m) (sym start) ∙ product m h }
