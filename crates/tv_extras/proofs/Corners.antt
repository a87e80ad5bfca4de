-- Corners that are ready to begin, and what comes where there are none.
use Rattle.std.proofs.Common.{◌≡◌, ℕ, List, [], ◌∷◌, ◌++◌, append-nil}
use Rattle.std.specs.Prelude.{nat_eq}
use Rattle.std.specs.List.{AllByRecursion}
use Rattle.tv_cells.specs.declared.legs.Legs.{Legs}
use Rattle.tv_spec_boxes.specs.Configurations.{fillings}
use Rattle.tv_extras.specs.declared.nodes.Node.{Node}
use Rattle.tv_extras.specs.Nodes.{legs_of, to_fill, AreNodes}
use Rattle.tv_extras.specs.Standing.{pending_fill, IsFresh}

pub fresh-nodes : (most : ℕ) (nodes : List Node) → AllByRecursion (IsFresh most) nodes → AreNodes most nodes
fresh-nodes most [] all = tt
fresh-nodes most (node ∷ nodes) all =
    (record { sets = all.0.sets; limit = all.0.limit; full = λ none. all.0.full; outside = λ none. all.0.outside }, fresh-nodes most nodes all.1)

pub no-corners : (boxes : ℕ) (nodes : List Node) (legs : List Legs) → nodes ≡ [] → legs_of nodes ≡ legs → pending_fill (nat_eq boxes 0) ++ to_fill nodes ≡ fillings legs boxes boxes
unfolding to_fill fillings
no-corners boxes nodes legs e el = rw (← el, e) (append-nil (pending_fill (nat_eq boxes 0)))
