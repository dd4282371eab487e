-- The calls that src/ names, by their numbers: which call of 01 each number stands for, and which numbers stand for none.
use Rattle.std.specs.Prelude.{◌≡◌, ℕ, Result, MatchResult}
use Rattle.std.proofs.Math.Option.{none, some}
use Rattle.model.specs.declared.calls.Call.{Call as Named}
use Rattle.model.specs.declared.calls.Call.TheVariants.{CreateThread, Start, Stop, Exit, Yield, Sleep, SetPriority, SetQuantum, CreateSemaphore, Pend, Post, CreateMutex, Claim, Release, CreateFlags, Wait, Set, Clear, StartTimer, StopTimer, Scheduling, Advance}
use Rattle.model.specs.declared.calls.NoSuchCall.{NoSuchCall}
use Rattle.model.specs.Calls.{Call, create_thread, start, stop, exit, yield, sleep, set_priority, set_quantum, create_semaphore, pend, post, create_mutex, claim, release, create_flags, wait, set, clear, start_timer, stop_timer, scheduling, advance, numbered}

-- the call of 01 that a call of src/ is
abbrev pub named : Named → Call
named CreateThread = create_thread
named Start = start
named Stop = stop
named Exit = exit
named Yield = yield
named Sleep = sleep
named SetPriority = set_priority
named SetQuantum = set_quantum
named CreateSemaphore = create_semaphore
named Pend = pend
named Post = post
named CreateMutex = create_mutex
named Claim = claim
named Release = release
named CreateFlags = create_flags
named Wait = wait
named Set = set
named Clear = clear
named StartTimer = start_timer
named StopTimer = stop_timer
named Scheduling = scheduling
named Advance = advance

-- the call with this number, or an error where no call has it
abbrev pub NamesCall : ℕ → Result Named NoSuchCall → Type 0
NamesCall n r = MatchResult r (λ c. numbered n ≡ some (named c)) (λ _. numbered n ≡ none)

abbrev pub IsNumberOf : Named → ℕ → Type 0
IsNumberOf c n = numbered n ≡ some (named c)
