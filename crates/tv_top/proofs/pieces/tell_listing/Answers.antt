use Rattle.std.proofs.Common.{◌∙◌, sym}
use Rattle.tv_top.proofs.ToldPieces.{err_side, ok_side, same_chi, whole_told, head_part_told, report_told}
use Rattle.tv_top.proofs.pieces.tell_listing.Goals as goal

pub returns-then-is_err : goal.returns-then-is_err
returns-then-is_err g c =
    let gives = c.write_all.ensures in
    let printed = c.deref.ensures.value ∙ (rw (same_chi c.args.listing.chi c.requires.order) at c.in-Ok.ensures) in
    head_part_told c.args.listing.web c.args.listing.class c.args.listing.chi _ _ gives.count c.deref.result.now c.requires.suits printed gives.appended
    (err_side _ _ c.write_all.result (sym c.if-is_err.true ∙ c.is_err.ensures.value) gives.outcome)

pub returns : goal.returns
returns g c =
    let gives = c.write_all.ensures in
    let printed = c.deref.ensures.value ∙ (rw (same_chi c.args.listing.chi c.requires.order) at c.in-Ok.ensures) in
    let whole = ok_side _ _ c.write_all.result (sym c.if-is_err.false ∙ c.is_err.ensures.value) gives.outcome in
    let rest = rw (same_chi c.args.listing.chi c.requires.order) at c.tell_configurations.ensures in
    report_told c.args.listing.web c.args.listing.class c.args.listing.chi _ _ _ c.tell_configurations.result c.deref.result.now c.requires.suits printed
    (whole_told _ _ gives.count _ gives.appended whole) rest
