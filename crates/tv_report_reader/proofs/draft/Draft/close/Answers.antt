use Rattle.std.proofs.Common.{w64, refl, sym, ◌∙◌, ap}
use Rattle.std.proofs.lemmas.Int.{to_z-of_z}
use Rattle.tv_report_reader.specs.Drafts.{seen_of}
use Rattle.tv_report_reader.proofs.LinesRead.{same-seen}
use Rattle.tv_report_reader.proofs.draft.Draft.close.Goals as goal

pub returns : goal.returns
returns c =
    let pushed = rw (to_z-of_z w64 c.replace.result (record { sfits = c.replace.type_inv }), c.replace.ensures.value, c.replace-2.ensures.value, c.replace-3.ensures.value, c.replace-4.ensures.value) at c.in_ok-push.ensures.items in
    record {
      stage = refl;
      seen = sym (same-seen (seen_of c.args.self.now) c.push.new.self.items _ c.args.degree _ c.args.class _ _ pushed
          (c.replace.ensures.after ∙ to_z-of_z w64 c.args.degree c.ranges.degree) c.replace-2.ensures.after
          (ap (λ v. v.items) c.replace-3.ensures.after ∙ c.new.ensures.items) (ap (λ v. v.items) c.replace-4.ensures.after ∙ c.new-2.ensures.items));
    }
