-- What is kept stays kept when an integer is put in, and what it is seen as.
use Rattle.std.proofs.Common.{◌≡◌, ◌≢◌, ◌⊎◌, inl, inr, ℕ, ℤ, pos, true, false, List, [], ◌∷◌, length, get_or, set, Result, Ok, Err, sym, ◌∙◌, ap, subst}
use Rattle.std.specs.Prelude.{OnOk, OnErr}
use Rattle.std.specs.List.{insert}
use Rattle.std.proofs.lemmas.List.{set-get_or}
use Rattle.tv_spec_katz.specs.Relations.{IsPositiveClass}
use Rattle.tv_integers.specs.declared.genus_value.GenusValue.{GenusValue}
use Rattle.tv_integers.specs.Kept.{set_in, integer_at}
use Rattle.tv_integers.specs.Rows.{ClassRow, listed, put_value, put_row, is_at, IsPlace, AreKeptRows}
use Rattle.tv_integers.proofs.Putting.{listed-put}
use Rattle.tv_integers.proofs.Keeping.{kept-put, row_lengths}
use Rattle.tv_integers.proofs.Places.{put-place, put-gap}

-- the row of the class is written over
module _ (hs v : List ℤ) (g : GenusValue) (rows : List ClassRow) (p : ℕ) (r r' : ClassRow) (kept : AreKeptRows hs rows) (class : IsPositiveClass hs v) (place : IsPlace hs v rows p) (here : is_at v rows p ≡ true) (read : r ≡ get_or rows p r) where
  row_put : r' ≡ record r { values = put_value g r.values } → set rows p r' ≡ put_row hs v g rows
  row_put e = ap (set rows p) e ∙ sym (put-place hs v g rows p r place here read)

  row_same : r' ≡ r → set rows p r' ≡ rows
  row_same e = ap (set rows p) (e ∙ read) ∙ set-get_or rows p r

  pub kept_there : {A E : Type 0} (result : Result A E) → g.value ≢ pos 0 → OnOk result (r' ≡ record r { values = put_value g r.values }) → OnErr result (r' ≡ r) → AreKeptRows hs (set rows p r')
  kept_there (Ok x) value ok err = subst (AreKeptRows hs) (sym (row_put ok)) (kept-put hs v g rows class value kept)
  kept_there (Err x) value ok err = subst (AreKeptRows hs) (sym (row_same err)) kept

  pub listed_there : r' ≡ record r { values = put_value g r.values } → listed (set rows p r') ≡ set_in hs (integer_at v g) (listed rows)
  listed_there e = ap listed (row_put e) ∙ listed-put hs v g rows kept.rises (row_lengths hs v g class rows kept.each)

  pub listed_same : r' ≡ r → listed (set rows p r') ≡ listed rows
  listed_same e = ap listed (row_same e)

-- a row is put in its place
module _ (hs v : List ℤ) (g : GenusValue) (rows rows' : List ClassRow) (p : ℕ) (kept : AreKeptRows hs rows) (class : IsPositiveClass hs v) (place : IsPlace hs v rows p) (gap : is_at v rows p ≡ false) (e : rows' ≡ insert rows p (record { class = v; values = g ∷ [] })) where
  pub kept_between : g.value ≢ pos 0 → AreKeptRows hs rows'
  kept_between value = subst (AreKeptRows hs) (put-gap hs v g rows p place gap ∙ sym e) (kept-put hs v g rows class value kept)

  pub listed_between : listed rows' ≡ set_in hs (integer_at v g) (listed rows)
  listed_between = ap listed (e ∙ sym (put-gap hs v g rows p place gap)) ∙ listed-put hs v g rows kept.rises (row_lengths hs v g class rows kept.each)

-- a fact of one answer, from another
pub on_ok : {A E P Q : Type 0} (result : Result A E) → (P → Q) → OnOk result P → OnOk result Q
on_ok (Ok x) f h = f h
on_ok (Err x) f h = h

pub on_err : {A E P Q : Type 0} (result : Result A E) → (P → Q) → OnErr result P → OnErr result Q
on_err (Ok x) f h = h
on_err (Err x) f h = f h
