-- The entries of the first k frames are put.
use Rattle.std.proofs.Common.{◌*◌, ◌+◌, ◌≤◌}
use Rattle.backtrace_text.specs.Answers.{entries_in}
use Rattle.digits.specs.Digits.{Stored}
use Rattle.backtrace_text.proofs.put_frames.Given as goal

abbrev pub invariant-loop-k : goal.invariant-loop-k
invariant-loop-k l = Stored l.initial.text l.at (entries_in l.frames l.k) l.end l.text × (l.end ≤ l.at + 47 * l.k)
