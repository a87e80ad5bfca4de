-- Lists gathered one after the other.
use Rattle.std.specs.Prelude.{◌≡◌, ℕ, ◌+◌, ◌-◌, ◌<◌, ◌≤◌, List, ◌++◌}
use Rattle.std.specs.List.{flat_map, range_with_len}
use Rattle.std.proofs.Common.{sym, ap, ◌∙◌, append_assoc, append-nil}
use Rattle.tv_web.specs.Edges.{gathered}
use Rattle.tv_web.proofs.Finding.{range_with_len-step, range_with_len-end}

-- before the first, over one, and behind the last
pub gathers_next : {A : Type 0} (g : ℕ → List A) (k n : ℕ) (done more whole : List A) → k < n → more ≡ done ++ g k → done ++ gathered g k n ≡ whole → more ++ gathered g (k + 1) n ≡ whole
unfolding gathered
gathers_next g k n done more whole h e was =
    rw e (append_assoc done (g k) (flat_map g (range_with_len (k + 1) (n - (k + 1)))) ∙ (sym (ap (λ ns. done ++ flat_map g ns) (range_with_len-step k n h)) ∙ was))

pub gathers_last : {A : Type 0} (g : ℕ → List A) (k n : ℕ) (done whole : List A) → n ≤ k → done ++ gathered g k n ≡ whole → done ≡ whole
unfolding gathered
gathers_last g k n done whole h was = sym (append-nil done) ∙ (sym (ap (λ ns. done ++ flat_map g ns) (range_with_len-end k n h)) ∙ was)
