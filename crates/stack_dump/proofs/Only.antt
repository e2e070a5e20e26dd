-- Both collectors refuse for want of memory alone. Assumes nothing.
use Prim.Native.Nat.{ℕ, ◌/◌}
use mathlib.Core.Path.{◌≡◌}
use mathlib.Core.List.{List}
use lib.ListN.{length}
use Rattle.std.specs.Prelude.{Option, None, Some, Result, Ok, Err}
use Rattle.words.proofs.Cases.{by_bool}
use Rattle.refusal.specs.declared.Refusal.{Refusal}
use Rattle.refusal.specs.declared.Refusal.TheVariants.{MemoryFull}
use Rattle.memory.specs.Push.{nothing_yet, has_room, pushed}
use Rattle.scan.specs.Stack.{stack_line}
use Rattle.scan.specs.declared.StackLine.{StackLine}
use Rattle.esp_backtrace.specs.declared.Parsed.{Parsed}
use Rattle.esp_backtrace.specs.Feed as esp_backtrace
use Rattle.esp_idf.specs.declared.EspIdf.{EspIdf}
use Rattle.esp_idf.specs.declared.State.{State}
use Rattle.esp_idf.specs.declared.State.TheVariants as state
use Rattle.esp_idf.specs.Feed.{is_held, completed, stack_fed, fed_in, fed}

-- an answer that is not one thing is the other
fails : {A : Type 0} (a : A) (r : Refusal) → Err r ≡ Ok a → r ≡ MemoryFull
fails a r z = cc

memory_only : {A : Type 0} (r : Refusal) → ◌≡◌ {A = Result A Refusal} (Err r) (Err MemoryFull) → r ≡ MemoryFull
memory_only r z = cc

pub backtrace_only : (p : Option Parsed) (top : Option ℕ) (room : ℕ) (segments : List ℕ) (r : Refusal) → Err r ≡ esp_backtrace.fed p top room segments → r ≡ MemoryFull
unfolding esp_backtrace.fed pushed
backtrace_only None top room segments r z = fails _ r z
backtrace_only (Some p) top room segments r z =
    by_bool (has_room nothing_yet (esp_backtrace.sp_of top p.bytes).value (p.bytes / 4) room segments) (λ y. fails _ r (rw y at z)) (λ y. memory_only r (rw y at z))

stack_only : (x : Option StackLine) (s : List ℕ) (room : ℕ) (segments : List ℕ) (c : EspIdf) (r : Refusal) → Err r ≡ stack_fed x s room segments c → r ≡ MemoryFull
unfolding pushed completed
stack_only None s room segments c r z = by_bool (is_held room (length segments) c.stack) (λ y. fails _ r (rw y at z)) (λ y. memory_only r (rw y at z))
stack_only (Some l) s room segments c r z =
    by_bool (has_room c.stack l.address l.count room segments) (λ y. fails _ r (rw y at z)) (λ y. memory_only r (rw y at z))

state_only : (x : State) (s : List ℕ) (room : ℕ) (segments : List ℕ) (c : EspIdf) (r : Refusal) → Err r ≡ fed_in x s room segments c → r ≡ MemoryFull
state_only state.Idle s room segments c r z = fails _ r z
state_only state.Registers s room segments c r z = fails _ r z
state_only state.Stack s room segments c r z = stack_only (stack_line s) s room segments c r z

pub idf_only : (s : List ℕ) (room : ℕ) (segments : List ℕ) (c : EspIdf) (r : Refusal) → Err r ≡ fed s room segments c → r ≡ MemoryFull
unfolding fed
idf_only s room segments c r z = state_only c.state s room segments c r z
