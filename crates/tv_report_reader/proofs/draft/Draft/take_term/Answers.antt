use Rattle.std.proofs.Common.{refl}
use Rattle.tv_text.proofs.Spellings.{same_number}
use Rattle.tv_report_reader.specs.Drafts.{seen_of}
use Rattle.tv_report_reader.specs.declared.stage.Stage.TheVariants.{Terms}
use Rattle.tv_report_reader.proofs.HeadSteps.{Stops-as}
use Rattle.tv_report_reader.proofs.BodySteps.{term-leads, term-unfit, term-stops, upto-number}
use Rattle.tv_report_reader.proofs.draft.Draft.take_term.Goals as goal

pub returns-then-not-takes_terms : goal.returns-then-not-takes_terms
returns-then-not-takes_terms c = term-stops _ _ c.args.term c.requires.stage (λ e. let b = c.if-not-takes_terms.ensures.1 e in cc)

pub returns-then-not-is_within : goal.returns-then-not-is_within
returns-then-not-is_within c =
    Stops-as _ Terms _ _ _ (c.if-not-takes_terms.ensures.0 refl) refl (term-unfit (seen_of c.args.self.now) c.args.term c.requires.fits
    (λ sound within rises. let told = rw (same_number c.args.self.now.upto (upto-number _ sound)) at c.if-not-is_within.ensures in let b = told.1 within in cc))

pub returns-then-not-rises_to : goal.returns-then-not-rises_to
returns-then-not-rises_to c =
    let told = rw c.deref.ensures.value at c.if-not-rises_to.ensures in
    Stops-as _ Terms _ _ _ (c.if-not-takes_terms.ensures.0 refl) refl (term-unfit (seen_of c.args.self.now) c.args.term c.requires.fits (λ sound within rises. let b = told.1 rises in cc))

pub returns : goal.returns
returns c =
    let told = rw c.deref.ensures.value at c.if-not-rises_to.ensures in
    let stage = c.if-not-takes_terms.ensures.0 refl in
    rw stage (term-leads (seen_of c.args.self.now) c.args.term _ c.requires.fits
    (λ sound. let within = rw (same_number c.args.self.now.upto (upto-number _ sound)) at c.if-not-is_within.ensures in within.0 refl)
    (told.0 refl) c.in_ok-push.ensures.items)
