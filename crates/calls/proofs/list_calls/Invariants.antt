-- The listing from here on, with what was met before, is the whole.
use Rattle.std.proofs.Common.{◌≡◌}
use Rattle.std.specs.Prelude.{None}
use Rattle.code.specs.Code.{Code}
use Rattle.calls.specs.Call.{call_before}
use Rattle.calls.specs.Listing.{calls, span_from, size_at, listing_of}
use Rattle.calls.proofs.Turns.{onward}
use Rattle.calls.proofs.list_calls.Given as goal

abbrev pub invariant-loop-pc : goal.invariant-loop-pc
invariant-loop-pc l =
    let k : Code = l.reader.code in
    onward (call_before k) (size_at k) l.first l.target l.span l.end l.left l.pc
    ≡ listing_of l.target (span_from (call_before k) (size_at k) None l.allowance l.end l.start) (calls (call_before k) (size_at k) l.allowance l.end l.start)

abbrev pub decreases-loop-pc : goal.decreases-loop-pc
decreases-loop-pc l = l.left
