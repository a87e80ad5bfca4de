use Rattle.std.proofs.Common.{◌++◌, ◌∙◌, ap}
use Rattle.tv_partition.specs.Rows.{diagrams_within}
use Rattle.tv_partition.specs.Within.{behind}
use Rattle.tv_partition.proofs.Written.{behind-nothing}
use Rattle.tv_partition.proofs.listing.diagrams_of.Goals as goal

pub returns : goal.returns
returns c =
    c.in_ok-push_within.ensures.all
    ∙ (ap (λ all. all ++ behind c.new-front.result.items (diagrams_within c.args.size c.args.size c.args.size)) c.new-all.ensures.items
    ∙ (ap (λ front. behind front (diagrams_within c.args.size c.args.size c.args.size)) c.new-front.ensures.items ∙ behind-nothing c.args.size))
