-- The first k words are stored.
use Rattle.std.proofs.Common.{◌*◌, ◌+◌, ◌≡◌}
use Rattle.words.specs.Words.{stored_from}
use Rattle.esp_backtrace.specs.Parse.{little_at}
use Rattle.esp_backtrace.proofs.store_words.Given as goal

abbrev pub invariant-loop-k : goal.invariant-loop-k
invariant-loop-k l = stored_from l.k (λ j. little_at l.line (l.at + 8 * j)) l.initial.words 0 ≡ l.words
