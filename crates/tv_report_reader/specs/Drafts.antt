-- A report while it is read.
--
-- seen_of d            == what the lines so far say
-- LeadsTo d l e        == after what is read in d the line l leads to e
-- Refuses d l          == no report goes on with l after what is read in d
-- Closes d z v e       == e is d with its open section closed, and one of the class v of degree z open
-- Takes d l e taken    == the line was taken and leads to e, or no report goes on with it
use Rattle.std.specs.Prelude.{◌≡◌, ℤ, List, [], ◌∷◌, ◌++◌, Bool, MatchBool}
use Rattle.tv_spec_text.specs.Lines.{Line}
use Rattle.tv_report_reader.specs.declared.draft.Draft.{Draft}
use Rattle.tv_report_reader.specs.Checks.{section_by}
use Rattle.tv_report_reader.specs.Stages.{Seen, Leads, Stops}

abbrev pub seen_of : Draft → Seen
seen_of d = record {
  heights = d.heights;
  degree = d.degree;
  upto = d.upto;
  closed = d.closed.items;
  opened = section_by d.opened_degree d.opened_class d.terms.items d.integers.items;
}

abbrev pub LeadsTo : Draft → Line → Draft → Type 0
LeadsTo d l e = Leads d.stage (seen_of d) l e.stage (seen_of e)

abbrev pub Refuses : Draft → Line → Type 0
Refuses d l = Stops d.stage (seen_of d) l

abbrev pub Takes : Draft → Line → Draft → Bool → Type 0
Takes d l e taken = MatchBool taken (LeadsTo d l e) (Refuses d l)

pub record Closes (d : Draft) (z : ℤ) (v : List ℤ) (e : Draft) : Type 0 where
  pub stage : e.stage ≡ d.stage
  pub seen : seen_of e ≡ record (seen_of d) { closed = d.closed.items ++ (seen_of d).opened ∷ []; opened = section_by z v [] [] }
