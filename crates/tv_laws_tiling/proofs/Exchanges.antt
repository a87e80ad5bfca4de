-- Triangles with their last two points exchanged tile as before: the inside of a triangle is the same.
use Rattle.std.specs.Prelude.{◌≡◌, ℕ, ◌<◌, List, length}
use Rattle.std.proofs.Common.{ap, sym, subst, arith, inl, inr}
use Rattle.tv_spec_plane.specs.declared.records.Triple.{Triple}
use Rattle.tv_spec_plane.specs.Plane.{Point}
use Rattle.tv_spec_plane.specs.Tiling.{Rational, IsInTriangle, triangle_at, Tiles}
use Rattle.tv_laws_tiling.specs.Laws.{IsExchange, ExchangedTrianglesTile}

exchange : Triple → Triple
exchange t = record { a = t.a; b = t.c; c = t.b }

exchange-back : (t u : Triple) → IsExchange t u → IsExchange u t
unfolding exchange
exchange-back t u (inl e) = inl (sym e)
exchange-back t u (inr e) = inr (sym (ap exchange e))

exchange-inside : (ps : List Point) (t u : Triple) (p : Rational) → IsExchange t u → IsInTriangle ps t p → IsInTriangle ps u p
exchange-inside ps t u p (inl e) m = subst (λ (v : Triple). IsInTriangle ps v p) (sym e) m
exchange-inside ps t u p (inr e) (inl m) = subst (λ (v : Triple). IsInTriangle ps v p) (sym e) (inr m)
exchange-inside ps t u p (inr e) (inr m) = subst (λ (v : Triple). IsInTriangle ps v p) (sym e) (inl m)

exchange-tiles : (ps : List Point) (ts us : List Triple) → length ts ≡ length us → ((i : ℕ) → i < length ts → IsExchange (triangle_at ts i) (triangle_at us i)) → Tiles ps ts → Tiles ps us
exchange-tiles ps ts us same each tiles =
    let listed : (i : ℕ) → i < length us → i < length ts = λ i h. omega arith in
    let home : (i : ℕ) → i < length us → (p : Rational) → IsInTriangle ps (triangle_at us i) p → IsInTriangle ps (triangle_at ts i) p = λ i h p m. exchange-inside ps (triangle_at us i) (triangle_at ts i) p (exchange-back (triangle_at ts i) (triangle_at us i) (each i (listed i h))) m in
    record {
      covered = λ p generic within.
          let only = tiles.covered p generic within in (
            only.0,
            record {
              listed = omega (arith, only.1.listed);
              within = exchange-inside ps (triangle_at ts only.0) (triangle_at us only.0) p (each only.0 only.1.listed) only.1.within;
              only = λ j h m. only.1.only j (listed j h) (home j h p m);
            },
          );
      within = λ p generic i h m. tiles.within p generic i (listed i h) (home i h p m);
    }

pub exchanged_triangles_tile : ExchangedTrianglesTile
exchanged_triangles_tile ps ts us same each = (
  exchange-tiles ps ts us same each,
  exchange-tiles ps us ts (sym same) (λ i h. exchange-back (triangle_at ts i) (triangle_at us i) (each i (omega arith))),
)
