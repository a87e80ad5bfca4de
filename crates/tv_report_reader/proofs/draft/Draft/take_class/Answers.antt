use Rattle.std.proofs.Common.{◌≡◌, refl, sym, ap, subst, length, arith}
use Rattle.tv_text.proofs.Spellings.{same_number}
use Rattle.tv_report_reader.specs.Drafts.{seen_of}
use Rattle.tv_report_reader.specs.Stages.{Seen, Leads}
use Rattle.tv_report_reader.specs.Rows.{class_words}
use Rattle.tv_report_reader.specs.declared.stage.Stage.TheVariants.{Terms}
use Rattle.tv_report_reader.proofs.Spelled.{numbers-entries}
use Rattle.tv_report_reader.proofs.BodySteps.{with-class, class-leads, class-unfit, opened-number, top-number, sound-inside}
use Rattle.tv_report_reader.proofs.draft.Draft.take_class.Goals as goal

pub returns-then-len-values : goal.returns-then-len-values
returns-then-len-values c = class-unfit _ (seen_of c.args.self.now) c.args.degree c.args.entries.items c.requires.stage c.requires.degree c.requires.entries (λ f opens.
    let e = ap length c.values.ensures.value in let o = opens.entries in let n = c.if-len-values.true in let l = c.len.ensures in absurd (grind arith))

pub new-class-requires : goal.new-class-requires
new-class-requires c = numbers-entries c.args.entries.items (let few = c.values.ensures.few in let n = c.if-len-values.false in let l = c.len.ensures in grind arith) c.requires.entries

pub returns-then-not-opens : goal.returns-then-not-opens
returns-then-not-opens c = class-unfit _ (seen_of c.args.self.now) c.args.degree c.args.entries.items c.requires.stage c.requires.degree c.requires.entries (λ f opens.
    let sound = sound-inside _ (seen_of c.args.self.now) c.requires.stage f in
    let told = rw (same_number c.args.degree c.requires.degree, same_number c.args.self.now.degree (top-number _ sound), same_number c.args.self.now.opened_degree (opened-number _ sound), c.values-2.ensures.value, c.new-class.ensures) at c.if-not-opens.ensures in
    let b = told.1 opens in cc)

pub returns : goal.returns
returns c =
    let seen = c.in_ok-close.ensures.seen in
    let to : seen_of c.close.new.self ≡ with-class (seen_of c.args.self.now) c.args.degree c.args.entries.items = rw (same_number c.args.degree c.requires.degree, c.new-class.ensures) at seen in
    subst (λ (t : Seen). Leads c.args.self.now.stage (seen_of c.args.self.now) (class_words c.args.degree c.args.entries.items) Terms t) (sym to) (class-leads _ (seen_of c.args.self.now) c.args.degree c.args.entries.items c.requires.stage c.requires.degree c.requires.entries (λ f.
    let sound = sound-inside _ (seen_of c.args.self.now) c.requires.stage f in
    let told = rw (same_number c.args.degree c.requires.degree, same_number c.args.self.now.degree (top-number _ sound), same_number c.args.self.now.opened_degree (opened-number _ sound), c.values-2.ensures.value, c.new-class.ensures) at c.if-not-opens.ensures in
    told.0 refl))
