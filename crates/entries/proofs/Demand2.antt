-- Demand 2, of tables as they are stored: sound gives sound, an accepted call has its effect and nothing else is accepted, the chosen
-- thread heads the highest ready list, and every thread stands where it must.
use mathlib.Core.Path.{◌≡◌, sym, ◌∙◌, ap}
use mathlib.Core.Bool.{true, not}
use Prim.Native.Nat.{ℕ, ◌+◌, ◌≤◌}
use Rattle.sequences.specs.Lists.{count_all, every_below}
use Rattle.model.specs.declared.answers.Report.{Report}
use Rattle.model.specs.declared.requests.Request.{Request}
use Rattle.model.specs.State.{scheduling_on, fresh}
use Rattle.model.specs.Parts.{thread}
use Rattle.model.specs.Ranges.{◌implies◌}
use Rattle.model.specs.Answers.{accepted}
use Rattle.model.specs.Calls.{numbered}
use Rattle.model.specs.Kernel.{perform, call}
use Rattle.model.specs.Before.{fresh_table, fresh_rows}
use Rattle.model.specs.Promises.{heads_highest, applies}
use Rattle.model.specs.Stored.{Stored, seen, is_sound, told, kept}
use Rattle.table.proofs.LaidSound.{laid-sound}
use Rattle.theorems.proofs.Demand2 as model
use Rattle.theorems.proofs.Histories.{fresh-sound}
use Rattle.entries.proofs.Calling.{told-sound, sound-seen, seen-kept, kept-laid}

pub fresh_stored : is_sound (record { table = fresh_table; rows = fresh_rows }) ≡ true
unfolding fresh_table fresh_rows
fresh_stored = laid-sound fresh fresh-sound

pub sound-kept : (k : Stored) (q : Request) → is_sound k ≡ true → is_sound (kept k q) ≡ true
sound-kept k q whole =
    ap (λ (l : Stored). is_sound l) (kept-laid k q whole) ∙ laid-sound (call (seen k) q).after (model.sound-call (seen k) q (sound-seen k whole))

-- the effect of an accepted call; a refusal has none
pub kept-effect : (k : Stored) (q : Request) → is_sound k ≡ true
    → seen (kept k q) ≡ perform (accepted (told k q).answer) (numbered q.call) q (seen k)
kept-effect k q whole =
    seen-kept k q whole
    ∙ model.call-effect (seen k) q
    ∙ ap (λ (r : Report). perform (accepted r.answer) (numbered q.call) q (seen k)) (sym (told-sound k q whole))

-- accepted exactly where no row of a refusal applies
pub accepted_exactly : (k : Stored) (q : Request) → is_sound k ≡ true
    → accepted (told k q).answer ≡ every_below 10 (λ j. not (applies j (seen k) q))
accepted_exactly k q whole = ap (λ (r : Report). accepted r.answer) (told-sound k q whole) ∙ model.accepted_exactly (seen k) q

-- with scheduling on
pub chosen-heads : (k : Stored) → is_sound k ≡ true → scheduling_on (seen k) implies heads_highest (seen k) ≡ true
chosen-heads k whole = model.chosen-heads (seen k) (sound-seen k whole)

-- a created thread stands on one list, once, and any other id on none
pub on-one-list : (k : Stored) → is_sound k ≡ true → (i : ℕ)
    → (count_all i (seen k).ready + count_all i (seen k).waits ≡ (thread i (seen k)).created) × ((thread i (seen k)).created ≤ 1)
on-one-list k whole i = model.on-one-list (seen k) (sound-seen k whole) i
