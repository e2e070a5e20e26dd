use Rattle.std.proofs.Common.{leb, ◌+◌}
use Rattle.words.specs.Words.{field}
use Rattle.words.proofs.Laws.{AllLeft}
use Rattle.words.proofs.each_apart.Given as goal

abbrev pub invariant-loop-k : goal.invariant-loop-k
invariant-loop-k l = AllLeft (λ m. leb (l.gap + field l.s l.w m l.i) (field l.s l.w m l.j)) l.n l.k
