use Rattle.std.proofs.Common.{arith}
use Rattle.digits.proofs.Measured.{fits}
use Rattle.sheet_walk.proofs.put_fitting.Goals as goal

pub returns-clause-text : goal.returns-clause-text
returns-clause-text c = (fits c.put_outcome-length.ensures _ (omega arith) c.put_outcome.ensures).1
