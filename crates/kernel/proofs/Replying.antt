-- From the answer and the table after it, with what is reported, to the model's whole outcome, laid out.
use mathlib.Core.Path.{◌≡◌}
use mathlib.Core.Bool.{true}
use Prim.Native.Nat.{ℕ}
use Rattle.sequences.proofs.Tests.{right}
use Rattle.model.specs.declared.answers.Answer.{Answer}
use Rattle.model.specs.declared.answers.Reply.{Reply}
use Rattle.model.specs.declared.requests.Request.{Request}
use Rattle.model.specs.declared.tables.Table.{Table}
use Rattle.model.specs.State.{State}
use Rattle.model.specs.Sound.{sound}
use Rattle.model.specs.Calls.{numbered}
use Rattle.model.specs.Time.{next, wakeups_in}
use Rattle.model.specs.Kernel.{judge, next_state, span, call}
use Rattle.model.specs.Before as layout
use Rattle.model.specs.Before.{view, orderly, sound_table, laid}
use Rattle.table.specs.Orderly.{Does}
use Rattle.table.proofs.Stored.{laid_table, laid-rows}
use Rattle.theorems.proofs.Outcomes as outcomes

module _ (t : Table) (rows : layout.Rows) (q : Request) (whole : sound_table t rows ≡ true) {a : Answer} (given : a ≡ judge (numbered q.call) q (view t rows)) where
  abbrev s : State
  s = view t rows

  is_sound : sound s ≡ true
  unfolding sound_table
  is_sound = right (orderly t rows) (sound s) whole

  module _ {r : Table} {after : layout.Rows} (d : Does t rows (next_state a q) r after) where
    pub no_ticks : (q.call ≡ 22 → ⊥) → 0 ≡ wakeups_in (span a q) s
    no_ticks other = outcomes.no_ticks s q is_sound given other

    pub replied : {x : Reply} {wakeups n : ℕ} → wakeups ≡ wakeups_in (span a q) s → n ≡ next (view r after)
        → x ≡ record { report = record { answer = a; chosen = r.chosen; clock = r.clock; wakeups = wakeups; next = n }; table = r }
        → record { reply = x; rows = after } ≡ laid (call s q)
    unfolding view
    replied woken e x =
        rw (x, outcomes.whole-outcome s q is_sound given d.view, outcomes.told s q is_sound given, laid_table d.order, laid-rows d.order, woken, e)
