-- The first from i on is the first from `from` on.
use Rattle.std.proofs.Common.{◌≡◌}
use Rattle.esp_backtrace.specs.Parse.{blank_from}
use Rattle.esp_backtrace.proofs.blank_from.Given as goal

abbrev pub invariant-loop-i : goal.invariant-loop-i
invariant-loop-i l = blank_from l.line l.i l.to ≡ blank_from l.line l.from l.to
