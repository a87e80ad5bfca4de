-- The numbers of statuses.
--
-- code_of s == what the program exits with
use Rattle.std.specs.Prelude.{ℕ}
use Rattle.tv_answers.specs.declared.status.Status.{Status}
use Rattle.tv_answers.specs.declared.status.Status.TheVariants.{Done, Words, File, Wide, Differs, Memory, ReadFault, WriteFault}

abbrev pub code_of : Status → ℕ
code_of Done = 0
code_of Words = 2
code_of File = 3
code_of Wide = 4
code_of Differs = 5
code_of Memory = 6
code_of ReadFault = 7
code_of WriteFault = 8
