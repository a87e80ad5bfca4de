use Rattle.tv_gv.proofs.class.next_line.Given as goal

abbrev pub ghost-read_class : goal.ghost-read_class
ghost-read_class g a = g.way
