-- Requests under the names of their calls (01, Calls), with the fields that a call uses; those it doesn't are 0. `ask` takes any six
-- numbers, for calls that are to be refused.
use Rattle.std.specs.Prelude.{ℕ, ◌+◌, ◌*◌}
use Rattle.model.specs.declared.requests.Request.{Request}
use Rattle.model.specs.Calls.{advance_call}

-- any six numbers
abbrev pub ask : ℕ → ℕ → ℕ → ℕ → ℕ → ℕ → Request
ask call id a b c d = record { call = call; id = id; a = a; b = b; c = c; d = d }

abbrev pub create_thread : ℕ → ℕ → ℕ → Request
create_thread id priority quantum = ask 1 id priority quantum 0 0

abbrev pub start : ℕ → Request
start id = ask 2 id 0 0 0 0

abbrev pub stop : ℕ → Request
stop id = ask 3 id 0 0 0 0

abbrev pub exit : Request
exit = ask 4 0 0 0 0 0

abbrev pub yield : Request
yield = ask 5 0 0 0 0 0

abbrev pub sleep : ℕ → Request
sleep span = ask 6 0 span 0 0 0

abbrev pub set_priority : ℕ → ℕ → Request
set_priority id priority = ask 7 id priority 0 0 0

abbrev pub set_quantum : ℕ → ℕ → Request
set_quantum id quantum = ask 8 id quantum 0 0 0

abbrev pub create_semaphore : ℕ → ℕ → ℕ → Request
create_semaphore id count maximum = ask 9 id count maximum 0 0

abbrev pub pend : ℕ → ℕ → Request
pend id limit = ask 10 id limit 0 0 0

abbrev pub post : ℕ → Request
post id = ask 11 id 0 0 0 0

abbrev pub create_mutex : ℕ → Request
create_mutex id = ask 12 id 0 0 0 0

abbrev pub claim : ℕ → ℕ → Request
claim id limit = ask 13 id limit 0 0 0

abbrev pub release : ℕ → Request
release id = ask 14 id 0 0 0 0

abbrev pub create_flags : ℕ → ℕ → Request
create_flags id word = ask 15 id word 0 0 0

abbrev pub wait : ℕ → ℕ → ℕ → ℕ → Request
wait id mask mode limit = ask 16 id mask mode limit 0

abbrev pub set : ℕ → ℕ → Request
set id mask = ask 17 id mask 0 0 0

abbrev pub clear : ℕ → ℕ → Request
clear id mask = ask 18 id mask 0 0 0

-- a timer: its period, 1 if it repeats, and the kind, object and mask of its action
abbrev pub start_timer : ℕ → ℕ → ℕ → ℕ → ℕ → ℕ → Request
start_timer id period repeat kind object mask = ask 19 id period repeat (kind + 256 * object) mask

abbrev pub stop_timer : ℕ → Request
stop_timer id = ask 20 id 0 0 0 0

abbrev pub scheduling : ℕ → Request
scheduling on = ask 21 0 on 0 0 0

abbrev pub advance : ℕ → Request
advance span = ask advance_call 0 span 0 0 0
