-- The first k pairs are numbers.
use Rattle.std.proofs.Common.{true, ◌≡◌}
use Rattle.esp_backtrace.specs.Parse.{are_bytes}
use Rattle.esp_backtrace.proofs.are_bytes.Given as goal

abbrev pub invariant-loop-k : goal.invariant-loop-k
invariant-loop-k l = are_bytes l.line l.at l.k ≡ true
