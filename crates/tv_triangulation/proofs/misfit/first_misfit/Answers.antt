use Rattle.tv_triangulation.proofs.misfit.first_misfit.Goals as goal

pub returns-in-Some-first_bare : goal.returns-in-Some-first_bare
returns-in-Some-first_bare c =
    (c.in_default.ensures, rw c.requires.edges at c.in_default-first_unmatched.ensures, rw c.requires.edges at c.in-Some-first_bare.ensures)

pub returns : goal.returns
returns c = record {
  twice = c.in_default.ensures;
  unmatched = rw c.requires.edges at c.in_default-first_unmatched.ensures;
  bare = rw c.requires.edges at c.in_default-first_bare.ensures;
}
