use Rattle.std.proofs.Common.{◌≡◌, ◌+◌, ◌*◌, sym, ◌∙◌, ap, arith, drop, length, suc, subst}
use Rattle.std.specs.Prelude.{nat_le}
use Rattle.std.proofs.lemmas.List.{drop_all}
use Rattle.tv_lemmas.specs.Naturals.{as_natural}
use Rattle.tv_spec_plane.specs.Web.{compact, edge_degree}
use Rattle.tv_partition.specs.Rows.{diagrams}
use Rattle.tv_degrees.specs.Edges.{edge_at}
use Rattle.tv_class_assignments.specs.Remaining.{beside}
use Rattle.tv_class_assignments.specs.Tables.{IsStuck}
use Rattle.tv_class_assignments.specs.Walk.{with_left, with_diagrams, beside_on}
use Rattle.tv_class_assignments.proofs.Edges.{from-many, with_diagrams-past, with_diagrams-none}
use Rattle.tv_class_assignments.proofs.Less.{length-beside}
use Rattle.tv_class_assignments.proofs.Lefts.{class_length}
use Rattle.tv_class_assignments.proofs.Tabled.{stuck-none}
use Rattle.tv_class_assignments.proofs.moves.next_choice.Goals as goal
use Rattle.tv_assignment.proofs.Written.{size_read}

pub returns-then-not-fits : goal.returns-then-not-fits
returns-then-not-fits c =
    let w = c.args.web.now in let f = c.args.frame.now in
    from-many w (edge_at w c.args.e) (drop (suc c.args.e) (compact w)) f.left f.size f.place
    (sym (ap (λ g. nat_le (f.size * g) f.left.degree) c.degree_at-degree.ensures.value) ∙ (sym c.fits.ensures ∙ c.if-not-fits.true))

pub returns-then-frame-len : goal.returns-then-frame-len
returns-then-frame-len c =
    let w = c.args.web.now in let f = c.args.frame.now in
    let number : c.index-sizes-frame.result ≡ f.size = size_read c.args.sizes.now f.size c.index-sizes-frame.result (omega arith) c.index-sizes-frame.is c.requires.tables.sizes in
    let count : length (diagrams c.index-sizes-frame.result) ≡ length (diagrams f.size) = ap (λ n. length (diagrams n)) number in
    ap (with_diagrams w (edge_at w c.args.e) (drop (suc c.args.e) (compact w)) f.left f.size) (drop_all f.place (diagrams f.size) (omega arith))
    ∙ with_diagrams-past w (edge_at w c.args.e) (drop (suc c.args.e) (compact w)) f.left f.size

pub beside-requires-clause-asked : goal.beside-requires-clause-asked
beside-requires-clause-asked c =
    let one_each = class_length c.args.web.now (edge_at c.args.web.now c.args.e) c.class_of.result.now c.class_of.ensures in
    let few = c.requires.open.asked in
    omega arith

pub is_stuck-requires : goal.is_stuck-requires
is_stuck-requires c =
    let one_each = class_length c.args.web.now (edge_at c.args.web.now c.args.e) c.class_of.result.now c.class_of.ensures in
    let few = c.requires.open.asked in
    let read = ap length c.class.ensures in
    let left = ap (λ l. length l.class) c.in_ok-left.ensures in
    let as_many = length-beside c.args.frame.now.size c.degree_at-degree.result c.class_of.result.now c.args.frame.now.left (omega arith) in
    let tabled = c.requires.tables.one_each in
    omega arith

pub returns-then-is_stuck : goal.returns-then-is_stuck
returns-then-is_stuck c =
    let w = c.args.web.now in let f = c.args.frame.now in
    let left : c.in_ok-left.left ≡ beside_on w (edge_at w c.args.e) f.size f.left =
    c.in_ok-left.ensures ∙ (ap (λ g. beside f.size g c.class_of.result.now f.left) c.degree_at-degree.ensures.value ∙ ap (λ v. beside f.size (as_natural (edge_degree w (edge_at w c.args.e))) v f.left) c.class_of.ensures) in
    let stuck = subst (λ v. IsStuck c.args.last.now v (c.args.e + 1)) c.class.ensures c.if-is_stuck.ensures in
    with_diagrams-none w (edge_at w c.args.e) (drop (suc c.args.e) (compact w)) f.left f.size (drop f.place (diagrams f.size))
    (sym (ap (with_left w (drop (suc c.args.e) (compact w))) left) ∙ stuck-none w c.args.sizes.now c.args.last.now c.args.e c.in_ok-left.left c.requires.tables stuck)
