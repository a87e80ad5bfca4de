-- Arrays of values, one item after another.
use Rattle.std.proofs.Common.{◌≡◌, ◌≢◌, ℕ, zero, suc, ◌+◌, ◌<◌, ◌≤◌, List, [], ◌∷◌, ◌++◌, length, take, get_or, Some, refl, sym, ap, ◌∙◌, arith}
use Rattle.std.proofs.lemmas.List.{take_more, take_all}
use Rattle.std.specs.List.{AllByRecursion}
use Rattle.serde_json.specs.Data.{Data, null, boolean, number, string, array, object, Items, no_items, item}
use Rattle.serde_json.specs.Find.{as_array}
use Rattle.serde_json.specs.View.{view, items_view}
use Rattle.serde_json.specs.declared.value.Value.{Value}
use Rattle.tv_spec_json.specs.Files.{items, values}

array-is : (d : Data) (ds : Items) → Some ds ≡ as_array d → d ≡ array ds
array-is null ds e = cc
array-is (boolean b) ds e = cc
array-is (number n) ds e = cc
array-is (string s) ds e = cc
array-is (array es) ds e = cc
array-is (object ms) ds e = cc

-- the items of an array that spells a list spell what stands there
pub items-of : {A : Type 0} (f : A → Data) (d : Data) (vs : List Value) (xs : List A) → Some (items_view vs) ≡ as_array d → d ≡ values f xs → items_view vs ≡ items f xs
items-of f d vs xs e is = let same : array (items_view vs) ≡ array (items f xs) = sym (array-is d (items_view vs) e) ∙ is in cc

pub length-items : {A : Type 0} (f : A → Data) (vs : List Value) (xs : List A) → items_view vs ≡ items f xs → length vs ≡ length xs
length-items f [] [] e = refl
length-items f [] (x ∷ xs) e = cc
length-items f (v ∷ vs) [] e = cc
length-items f (v ∷ vs) (x ∷ xs) e = let rest : items_view vs ≡ items f xs = cc in ap suc (length-items f vs xs rest)

item-at : {A : Type 0} (f : A → Data) (P : A → Type 0) (vs : List Value) (xs : List A) (i : ℕ) (d : Value) → items_view vs ≡ items f xs → AllByRecursion P xs → i < length vs → (x : A) × P x × (view (get_or vs i d) ≡ f x)
item-at f P [] xs i d e all h = absurd (omega arith)
item-at f P (v ∷ vs) [] i d e all h = cc
item-at f P (v ∷ vs) (x ∷ xs) zero d e all h = let first : view v ≡ f x = cc in (x, all.0, first)
item-at f P (v ∷ vs) (x ∷ xs) (suc i) d e all h = let rest : items_view vs ≡ items f xs = cc in item-at f P vs xs i d rest all.1 (omega arith)

-- an item that spells nothing of that kind
pub other_item : {A : Type 0} (f : A → Data) (P : A → Type 0) (d : Data) (vs : List Value) (i : ℕ) (v : Value) → Some (items_view vs) ≡ as_array d → i < length vs → ((x : A) → P x → view (get_or vs i v) ≢ f x) → (xs : List A) → AllByRecursion P xs → d ≢ values f xs
other_item f P d vs i v e h other xs all is =
    let r = item-at f P vs xs i v (items-of f d vs xs e is) all h in other r.0 r.1 r.2

items-append : {A : Type 0} (f : A → Data) (us : List Value) (ys : List A) (v : Value) (x : A) → items_view us ≡ items f ys → view v ≡ f x → items_view (us ++ v ∷ []) ≡ items f (ys ++ x ∷ [])
items-append f [] [] v x e same = ap (λ z. item z no_items) same
items-append f [] (y ∷ ys) v x e same = cc
items-append f (u ∷ us) [] v x e same = cc
items-append f (u ∷ us) (y ∷ ys) v x e same =
    let first : view u ≡ f y = cc in
    let rest : items_view us ≡ items f ys = cc in
    ap (λ z. item z (items_view (us ++ v ∷ []))) first ∙ ap (item (f y)) (items-append f us ys v x rest same)

-- one item more
pub items-more : {A : Type 0} (f : A → Data) (vs : List Value) (xs : List A) (i : ℕ) (v : Value) (x : A) → items_view (take i vs) ≡ items f xs → i < length vs → view (get_or vs i v) ≡ f x → items_view (take (i + 1) vs) ≡ items f (xs ++ x ∷ [])
items-more f vs xs i v x e h same = ap items_view (take_more vs i v h) ∙ items-append f (take i vs) xs (get_or vs i v) x e same

-- all items
pub whole-array : {A : Type 0} (f : A → Data) (d : Data) (vs : List Value) (xs : List A) (i : ℕ) → Some (items_view vs) ≡ as_array d → length vs ≤ i → items_view (take i vs) ≡ items f xs → d ≡ values f xs
whole-array f d vs xs i e h same = array-is d (items_view vs) e ∙ ap array (ap items_view (sym (take_all i vs h)) ∙ same)

-- an array of another length
pub other_length : {A : Type 0} (f : A → Data) (d : Data) (vs : List Value) (xs : List A) → Some (items_view vs) ≡ as_array d → length vs ≢ length xs → d ≢ values f xs
other_length f d vs xs e h is = h (length-items f vs xs (items-of f d vs xs e is))
