-- The first from here on is the first of all.
use Rattle.std.proofs.Common.{length, ◌-◌, ◌/◌, ◌≡◌}
use Rattle.words.specs.Words.{first_from}
use Rattle.code.specs.Code.{holds_bytes}
use Rattle.code.proofs.first_section.Given as goal

abbrev pub invariant-loop-k : goal.invariant-loop-k
invariant-loop-k l = first_from (holds_bytes l.sections l.n l.addr) (length l.sections / 3) 0 ≡ first_from (holds_bytes l.sections l.n l.addr) (l.count - l.k) l.k
