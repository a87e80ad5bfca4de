use Rattle.std.proofs.Common.{rules, ◌≡◌, refl, map, w64, SFits}
use Rattle.std.proofs.lemmas.Int.{to_z-of_z}
use Rattle.tv_graded.specs.Listing.{with_degree}
use Rattle.tv_gv.proofs.TestFamilies.{all-zero-or-positive, all-small}
use Rattle.tv_gv.proofs.tests.are_small.Goals as goal

pub loop-entry-init : goal.loop-entry-init
loop-entry-init c =
    let all : c.into_iter-entry-iterator.result ≡ map (with_degree c.args.family.now.heights) c.args.family.now.rows = search rules in
    record { can = tt; finite = tt; whole = λ small. rw all at small }

pub loop-entry-preserved : goal.loop-entry-preserved
loop-entry-preserved c =
    let entry = c.in-Some.entry in
    let fits : SFits w64 entry.degree = search rules in
    let one = rw (to_z-of_z w64 entry.degree fits, c.entries.ensures.value) at c.if-not-is_small.ensures.small refl in
    record { can = tt; finite = tt; whole = λ small. c.loop-entry.invariant.whole (rw (c.in-Some.ensures.steps) (one, small)) }

pub returns : goal.returns
returns c =
    let family = c.args.family.now in
    let all = c.loop-entry.invariant.whole (rw (c.in-None.ensures.steps.0) tt) in
    record {
      others = λ _. all-zero-or-positive family.heights family.top family.upto family.rows c.known.ensures.family.rows all;
      entries = λ _. all-small family.heights family.top family.upto family.rows c.known.ensures.family.rows all;
    }
