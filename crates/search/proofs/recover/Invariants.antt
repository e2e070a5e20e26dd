-- The scan from here on, with the allowance left, is the whole scan.
use Rattle.std.proofs.Common.{◌≡◌, suc, length}
use Rattle.rows.specs.View.{view_at}
use Rattle.calls.specs.Call.{call_before}
use Rattle.calls.specs.Listing.{size_at}
use Rattle.memory.specs.Memory.{read_at}
use Rattle.search.specs.Recover.{scan}
use Rattle.search.proofs.recover.Given as goal

abbrev pub invariant-loop-word : goal.invariant-loop-word
invariant-loop-word l =
    scan (view_at l.book) (call_before l.code) (size_at l.code) (read_at l.memory) l.fuel l.cfa l.function_start l.addr l.allowance
    ≡ scan (view_at l.book) (call_before l.code) (size_at l.code) (read_at l.memory) (suc (length l.memory.words)) l.cfa l.function_start l.cfa l.initial.allowance

abbrev pub decreases-loop-word : goal.decreases-loop-word
decreases-loop-word l =
    l.fuel
