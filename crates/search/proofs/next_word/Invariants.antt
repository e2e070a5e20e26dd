-- What comes from here on is what comes from the start.
use Rattle.std.proofs.Common.{◌≡◌, ◌^◌, ◌<◌}
use Rattle.memory.specs.Memory.{read_at}
use Rattle.search.specs.Answers.{has_code, next_word}
use Rattle.search.proofs.next_word.Given as goal

abbrev pub invariant-loop-left : goal.invariant-loop-left
invariant-loop-left l =
    (l.at < 2 ^ 32)
    × (next_word (read_at l.memory) (has_code l.sections) l.left l.at ≡ next_word (read_at l.memory) (has_code l.sections) l.most l.from)

abbrev pub decreases-loop-left : goal.decreases-loop-left
decreases-loop-left l = l.left
