use Rattle.code.proofs.Windows.{window_shows}
use Rattle.code.proofs.Code.reader_at.Goals as goal

pub invariant_of-result : goal.invariant_of-result
invariant_of-result c = record { good = c.self.invariant.good; shows = window_shows _ c.self.invariant.good _ _ c.window_at.ensures }
