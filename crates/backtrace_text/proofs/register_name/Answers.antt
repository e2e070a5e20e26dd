use Rattle.registers.specs.Registers.{register_names}
use Rattle.backtrace_text.specs.Notes.{name_of}
use Rattle.backtrace_text.proofs.Names.{name_upto}
use Rattle.backtrace_text.proofs.register_name.Goals as goal

pub returns-clause-upper_bound : goal.returns-clause-upper_bound
unfolding name_of register_names
returns-clause-upper_bound c = rw c.name_among.ensures (name_upto c.args.register)
