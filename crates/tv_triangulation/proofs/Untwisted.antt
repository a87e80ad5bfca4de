-- Turned triangles are exchanged ones.
use Rattle.std.proofs.Common.{◌≡◌, ℕ, zero, suc, ◌<◌, pos, List, [], ◌∷◌, length, Bool, true, false, cond, inl, inr, refl, ap, arith}
use Rattle.std.specs.Prelude.{int_lt}
use Rattle.tv_spec_plane.specs.declared.records.Triple.{Triple}
use Rattle.tv_spec_plane.specs.Plane.{Point}
use Rattle.tv_spec_plane.specs.Tiling.{triangle_at}
use Rattle.tv_laws_tiling.specs.Laws.{IsExchange}
use Rattle.tv_triangulation.specs.Turned.{turn_of, turned}

exchange_by : (t : Triple) (b : Bool) → IsExchange t (cond b (record { a = t.a; b = t.c; c = t.b }) t)
exchange_by t true = inr refl
exchange_by t false = inl refl

pub exchange_at : (ps : List Point) (ts : List Triple) (i : ℕ) → i < length ts → IsExchange (triangle_at ts i) (triangle_at (turned ps ts) i)
exchange_at ps [] i l = absurd (omega arith)
exchange_at ps (t ∷ ts) zero l = exchange_by t (int_lt (turn_of ps t) (pos 0))
exchange_at ps (t ∷ ts) (suc i) l = exchange_at ps ts i (omega arith)

pub length-turned : (ps : List Point) (ts : List Triple) → length ts ≡ length (turned ps ts)
length-turned ps [] = refl
length-turned ps (t ∷ ts) = ap suc (length-turned ps ts)
