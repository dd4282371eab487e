-- The number of each call is the one in the source.
use mathlib.Core.Path.{refl}
use Prim.Native.Nat.{◌+◌}
use denote.Enum.Declared.{tag_of}
use Rattle.model.specs.contracts.calls.Call.{the_type}
use Rattle.model.specs.declared.calls.Call.{Call}
use Rattle.model.specs.declared.calls.Call.TheVariants.{CreateThread, Start, Stop, Exit, Yield, Sleep, SetPriority, SetQuantum, CreateSemaphore, Pend, Post, CreateMutex, Claim, Release, CreateFlags, Wait, Set, Clear, StartTimer, StopTimer, Scheduling, Advance}
use Rattle.model.specs.Calls.{calls, numbered}
use Rattle.model.specs.Numbers.{IsNumberOf}
use Rattle.model.proofs.calls.U32FromCall.from.Goals as goal

by_call : (call : Call) → IsNumberOf call (tag_of the_type call + 1)
unfolding numbered calls
by_call CreateThread = refl
by_call Start = refl
by_call Stop = refl
by_call Exit = refl
by_call Yield = refl
by_call Sleep = refl
by_call SetPriority = refl
by_call SetQuantum = refl
by_call CreateSemaphore = refl
by_call Pend = refl
by_call Post = refl
by_call CreateMutex = refl
by_call Claim = refl
by_call Release = refl
by_call CreateFlags = refl
by_call Wait = refl
by_call Set = refl
by_call Clear = refl
by_call StartTimer = refl
by_call StopTimer = refl
by_call Scheduling = refl
by_call Advance = refl

pub returns : goal.returns
returns c = by_call c.args.call
