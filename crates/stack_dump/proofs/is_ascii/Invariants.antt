-- The largest byte passed is below 128 where all of them are.
use Rattle.std.proofs.Common.{get_or, ltb, ◌≡◌}
use Rattle.words.specs.Words.{all}
use Rattle.stack_dump.proofs.is_ascii.Given as goal

abbrev pub invariant-loop-b : goal.invariant-loop-b
invariant-loop-b l = ltb l.highest 128 ≡ all l.b-index (λ k. ltb (get_or l.line k 0) 128)
