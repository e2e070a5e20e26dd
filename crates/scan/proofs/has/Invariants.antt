-- Whether the text stands there lies with its bytes from k on.
use Rattle.std.proofs.Common.{eqb, get_or, length, ◌+◌}
use Rattle.words.proofs.Laws.{AllLeft}
use Rattle.scan.proofs.has.Given as goal

abbrev pub invariant-loop-k : goal.invariant-loop-k
invariant-loop-k l = AllLeft (λ j. eqb (get_or l.line (l.at + j) 0) (get_or l.text j 0)) (length l.text) l.k
