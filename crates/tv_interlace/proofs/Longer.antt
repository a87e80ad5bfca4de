-- The columns that are listed, by the height of the first one: those that are too high or too low leave none.
use Rattle.std.proofs.Common.{◌≡◌, ℕ, suc, ◌+◌, ◌-◌, ◌<◌, ◌≤◌, min, max, ℤ, pos, ◌+ℤ◌, List, [], ◌∷◌, ◌++◌, length, arith, refl, sym, ◌∙◌, ap, append_assoc, append-nil, length-append, inl, inr}
use Rattle.std.specs.Prelude.{◌⊎◌}
use Rattle.std.specs.List.{flat_map}
use Rattle.tv_cells.specs.declared.legs.Legs.{Legs}
use Rattle.tv_spec_slices.specs.Slices.{Shape, reach, base_at}
use Rattle.tv_spec_slices.specs.Paths.{columns}
use Rattle.tv_interlace.specs.declared.bounds.TheConstants.{WITHOUT_END}
use Rattle.tv_interlace.specs.Bounds.{floor, ceiling}
use Rattle.tv_interlace.specs.Columns.{behind, longer, one_more, firsts}
use Rattle.tv_interlace.specs.Rooms.{low, high, open_from}
use Rattle.tv_interlace.proofs.Beside.{longer-parts, skip, all_empty, outside, here}
use Rattle.tv_interlace.proofs.OpenPlaces.{none}

module _ (legs : Legs) (t : ℤ) (a : Shape) (full : ℕ) (front : List ℕ) (d n top m : ℕ) where
  behind_one : (e h : ℕ) → d ≡ full + length front → h ≤ WITHOUT_END → (m - e < open_from (low legs t a) (suc d) (suc (reach a))) ⊎ (open_from (high legs t a) (suc d) (suc (reach a)) < m - e) →
      behind t a full (front ++ h ∷ []) (columns legs (t +ℤ pos 1) (suc d) n h (m - e)) ≡ []
  behind_one e h at_d w room =
      let long : length (front ++ h ∷ []) ≡ length front + 1 = length-append front (h ∷ []) in
      none legs t a full n (front ++ h ∷ []) (suc d) h (m - e) (omega arith) w room

  -- at the start, from the greatest height down
  pub longer-start : (h least : ℕ) (now : List Shape) → d ≡ full + length front → top ≤ WITHOUT_END → least ≡ open_from (low legs t a) (suc d) (suc (reach a)) →
      h ≡ min top (min (base_at legs (t +ℤ pos 1) d + (m - least)) (ceiling t a d)) →
      now ++ flat_map (one_more legs t (t +ℤ pos 1) a full front d n top m) (firsts ((h + 1) - base_at legs (t +ℤ pos 1) d)) ≡ now ++ behind t a full front (longer legs (t +ℤ pos 1) d n top m)
  longer-start h least now at_d w is at_h =
      ap (λ ss. now ++ ss) (sym (longer-parts legs t (t +ℤ pos 1) a full front d n top m ∙ shorter))
    where
      b : ℕ
      b = base_at legs (t +ℤ pos 1) d

      too_high : (e : ℕ) → (h + 1) - b ≤ e → e < (suc m - ((h + 1) - b)) + ((h + 1) - b) → b + e ≤ top → b + e ≤ ceiling t a d → 0 < b + e → m - e < least
      too_high e low high under below some = omega (arith, at_h)

      above : (e : ℕ) → (h + 1) - b ≤ e → e < (suc m - ((h + 1) - b)) + ((h + 1) - b) → one_more legs t (t +ℤ pos 1) a full front d n top m e ≡ []
      above e low high = outside legs t (t +ℤ pos 1) a full front d n top m e (b + e) at_d refl w (λ within.
          behind_one e (b + e) at_d (let l = within.1 in omega arith) (inl (rw (← is) (too_high e low high within.1 within.3 within.0))))

      shorter : flat_map (one_more legs t (t +ℤ pos 1) a full front d n top m) (firsts (suc m)) ≡ flat_map (one_more legs t (t +ℤ pos 1) a full front d n top m) (firsts ((h + 1) - b))
      shorter =
          let whole : suc m ≡ (suc m - ((h + 1) - b)) + ((h + 1) - b) = omega arith in
          ap (λ j. flat_map (one_more legs t (t +ℤ pos 1) a full front d n top m) (firsts j)) whole ∙ skip (one_more legs t (t +ℤ pos 1) a full front d n top m) ((h + 1) - b) (suc m - ((h + 1) - b)) above

  pub longer-next : (h : ℕ) (now before whole : List Shape) → base_at legs (t +ℤ pos 1) d ≤ h → 0 < h → h ≤ top →
      now ≡ before ++ behind t a full (front ++ h ∷ []) (columns legs (t +ℤ pos 1) (suc d) n h (m - (h - base_at legs (t +ℤ pos 1) d))) →
      before ++ flat_map (one_more legs t (t +ℤ pos 1) a full front d n top m) (firsts ((h + 1) - base_at legs (t +ℤ pos 1) d)) ≡ whole →
      now ++ flat_map (one_more legs t (t +ℤ pos 1) a full front d n top m) (firsts (((h - 1) + 1) - base_at legs (t +ℤ pos 1) d)) ≡ whole
  longer-next h now before whole low p l push far =
      let first : (h + 1) - base_at legs (t +ℤ pos 1) d ≡ suc (h - base_at legs (t +ℤ pos 1) d) = omega arith in
      let rest : ((h - 1) + 1) - base_at legs (t +ℤ pos 1) d ≡ h - base_at legs (t +ℤ pos 1) d = omega arith in
      let P = one_more legs t (t +ℤ pos 1) a full front d n top m in
      ap (λ ss. ss ++ flat_map P (firsts (((h - 1) + 1) - base_at legs (t +ℤ pos 1) d))) (push ∙ ap (λ ss. before ++ ss) (sym (here legs t (t +ℤ pos 1) a full front d n top m (h - base_at legs (t +ℤ pos 1) d) h (omega arith) p l)))
      ∙ (ap (λ j. (before ++ P (h - base_at legs (t +ℤ pos 1) d)) ++ flat_map P (firsts j)) rest
      ∙ (append_assoc before (P (h - base_at legs (t +ℤ pos 1) d)) (flat_map P (firsts (h - base_at legs (t +ℤ pos 1) d)))
      ∙ (ap (λ j. before ++ flat_map P (firsts j)) (sym first) ∙ far)))

  pub longer-end : (h most : ℕ) (now whole : List Shape) → d ≡ full + length front → top ≤ WITHOUT_END → most ≡ open_from (high legs t a) (suc d) (suc (reach a)) →
      h < max (max (max (base_at legs (t +ℤ pos 1) d) 1) (floor t a d)) (base_at legs (t +ℤ pos 1) d + (m - most)) →
      now ++ flat_map (one_more legs t (t +ℤ pos 1) a full front d n top m) (firsts ((h + 1) - base_at legs (t +ℤ pos 1) d)) ≡ whole → now ≡ whole
  longer-end h most now whole at_d w is low far =
      sym (append-nil now) ∙ (ap (λ ss. now ++ ss) (sym (all_empty (one_more legs t (t +ℤ pos 1) a full front d n top m) ((h + 1) - base_at legs (t +ℤ pos 1) d) under)) ∙ far)
    where
      b : ℕ
      b = base_at legs (t +ℤ pos 1) d

      too_low : (e : ℕ) → e < (h + 1) - b → 0 < b + e → floor t a d ≤ b + e → most < m - e
      too_low e l some above = omega (arith, low)

      under : (e : ℕ) → e < (h + 1) - b → one_more legs t (t +ℤ pos 1) a full front d n top m e ≡ []
      under e l = outside legs t (t +ℤ pos 1) a full front d n top m e (b + e) at_d refl w (λ within.
          behind_one e (b + e) at_d (let g = within.1 in omega arith) (inr (rw (← is) (too_low e l within.0 within.2))))
