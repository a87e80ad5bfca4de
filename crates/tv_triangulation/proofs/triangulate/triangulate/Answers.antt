use Rattle.std.proofs.lemmas.Result.{MatchResult-weaker, err_from_is_err_and}
use Rattle.tv_triangulation.proofs.Tilings.{accepted-tiles, tiled-answer, early-answer, early-memory}
use Rattle.tv_triangulation.proofs.triangulate.triangulate.Goals as goal

pub returns : goal.returns
returns c =
    let ps = c.args.points.now in let ts = c.args.triangles.now in let small = c.known.ensures in
    record {
      checks = c.fitted.ensures;
      tiles = MatchResult-weaker c.fitted.result c.fitted.ensures (λ m accepted. accepted-tiles ps ts m small accepted) (λ e fault. tt);
      accepts = λ sound tiles. MatchResult-weaker c.fitted.result c.fitted.ensures (λ m accepted. tt) (tiled-answer ps ts small sound.0 sound.1 sound.2 tiles c.in_ok-hull.hull.items c.in_ok-hull.ensures.0);
    }

pub returns-in_err-hull : goal.returns-in_err-hull
returns-in_err-hull c =
    let ps = c.args.points.now in let ts = c.args.triangles.now in let e = c.in_err-hull.field-0.0 in
    let p = err_from_is_err_and c.from_residual.result c.from_residual.ensures.1 in
    rw (p.1, p.2) (record {
      checks = early-answer ps ts e c.in_err-hull.ensures;
      tiles = tt;
      accepts = λ sound tiles. early-memory ps ts sound.0 sound.1 e c.in_err-hull.ensures;
    })
