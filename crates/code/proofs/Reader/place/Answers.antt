use Rattle.code.proofs.Laws.{found_within}
use Rattle.code.proofs.Reader.place.Goals as goal

pub returns-clause-inside : goal.returns-clause-inside
returns-clause-inside c = rw (← c.self.view_is) (found_within _ _ _ _ _ c.find.ensures c.self.invariant.good)
