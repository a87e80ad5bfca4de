use Rattle.std.proofs.Common.{◌≡◌, ◌∙◌, ap, w64, to_z, of_z, ℤ, ◌++◌}
use Rattle.std.proofs.lemmas.Int.{to_z-of_z}
use Rattle.std.specs.Prelude.{string_bytes}
use Rattle.std.specs.List.{flat_map}
use Rattle.tv_spec_text.specs.Lines.{line_text}
use Rattle.tv_spec_text.specs.Reports.{section_lines}
use Rattle.tv_spec_text.specs.Files.{end_line}
use Rattle.tv_text.specs.Sections.{kind_word, head_lines}
use Rattle.tv_text.proofs.Printing.{flat_map-parts}
use Rattle.tv_text.proofs.series.print_sections.Goals as goal

pub returns : goal.returns
returns c =
    let head = λ (d n : ℤ). head_lines (kind_word c.args.kind) c.args.heights.now d n in
    let first : string_bytes c.put_head.new.text ≡ string_bytes c.new-text.result ++ flat_map line_text (head c.args.degree c.args.upto) =
    c.in_ok-put_head.ensures ∙ ap (λ (d : ℤ). string_bytes c.new-text.result ++ flat_map line_text (head d (to_z w64 (of_z w64 c.args.upto)))) (to_z-of_z w64 c.args.degree c.ranges.degree)
    ∙ ap (λ (n : ℤ). string_bytes c.new-text.result ++ flat_map line_text (head c.args.degree n)) (to_z-of_z w64 c.args.upto c.ranges.upto) in
    ap (λ v. v.items) c.into_bytes.ensures.value
    ∙ flat_map-parts (head c.args.degree c.args.upto) (flat_map section_lines c.args.sections.now) end_line _ _ _
    (first ∙ ap (λ t. t ++ flat_map line_text (head c.args.degree c.args.upto)) c.new-text.ensures.bytes) c.in_ok-put_sections.ensures c.in_ok-put_end.ensures
