use Rattle.std.proofs.Common.{◌≡◌, ◌++◌, ◌∙◌, ap, subst}
use Rattle.std.specs.Prelude.{string_bytes}
use Rattle.std.specs.List.{flat_map}
use Rattle.tv_spec_plane.specs.Web.{Web}
use Rattle.tv_spec_text.specs.Lines.{line_text, text_of}
use Rattle.tv_spec_text.specs.Files.{point_line, triangle_line, heights_line, file_lines}
use Rattle.tv_grids.proofs.FileText.{file-text}
use Rattle.tv_grids.proofs.print.print_file.Goals as goal

pub returns : goal.returns
returns c =
    let web : Web = record { points = c.file.inside.points.items; triangles = c.file.inside.triangles.items; heights = c.file.inside.heights.items } in
    let points = c.in_ok-put_points.ensures ∙ ap (λ ps. string_bytes c.put_first.new.text ++ flat_map (λ p. line_text (point_line p)) ps) c.deref.ensures.value in
    let triangles = c.in_ok-put_triangles.ensures ∙ ap (λ ts. string_bytes c.put_points.new.text ++ flat_map (λ t. line_text (triangle_line t)) ts) c.deref-2.ensures.value in
    let heights = c.in_ok-put_heights.ensures ∙ ap (λ hs. string_bytes c.put_triangles.new.text ++ line_text (heights_line hs)) c.deref-3.ensures.value in
    let whole = ap (λ v. v.items) c.into_bytes.ensures.value ∙ file-text web _ _ _ _ _ _ c.new-text.ensures.bytes c.in_ok-put_first.ensures points triangles heights c.in_ok-put_end.ensures in
    subst (λ w. c.into_bytes.result.items ≡ text_of (file_lines w)) c.file.view_is whole
