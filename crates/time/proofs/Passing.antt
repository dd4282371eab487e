-- An advance under way: so many ticks are left, so many wake-ups are counted, and the distance to the next is known. The ticks go by the
-- theory of jumps, on the table with its clock at 0; so no turn of the loop touches the clock.
use Rattle.std.proofs.Common.{◌≡◌, ℕ, ◌+◌, ◌-◌, ◌<◌, ◌≤◌, true, sym, refl, ap, ◌∙◌}
use Rattle.sequences.specs.Jumps.{Free, Going}
use Rattle.sequences.proofs.Tests.{right}
use Rattle.sequences.proofs.Jumping.{going_start, going_turn, going_room, going_last}
use Rattle.model.specs.declared.tables.Table.{Table}
use Rattle.model.specs.State.{State}
use Rattle.model.specs.Parts.{with_clock}
use Rattle.model.specs.Sound.{sound}
use Rattle.model.specs.Tick.{wrap, quantum_counts, wakes}
use Rattle.model.specs.Time.{after_ticks, wakeups_in, next}
use Rattle.model.specs.Before as layout
use Rattle.model.specs.Before.{view, orderly, sound_table}
use Rattle.placed.proofs.Standing.{unmoved_placed}
use Rattle.table.specs.Orderly.{Orderly, Whole, Meets, Does}
use Rattle.table.proofs.Stored.{sound-whole}
use Rattle.table.proofs.Views.{does, and_then}
use Rattle.theorems.specs.Skip.{skip, still, still_tick}
use Rattle.theorems.specs.Leap.{leap}
use Rattle.theorems.specs.Lawful.{Steady}
use Rattle.theorems.proofs.Choosing.{sound_steady}
use Rattle.theorems.proofs.Clock.{next-clock}
use Rattle.theorems.proofs.Jumps.{Still, stilled, kernel, after_gone}
use Rattle.theorems.proofs.Leaping.{leap-still}
use Rattle.time.specs.Armed.{Armed}
use Rattle.time.proofs.Arming.{sound-armed}

pub record Passing (s : State) (n : ℕ) (u : Table) (rows : layout.Rows) (left woken gap : ℕ) : Type 0 where
  pub order : Orderly u rows
  pub going : Going Still still_tick wakes (still s) n (still (view u rows)) left woken
  pub near : gap ≡ next (view u rows)

pub passing_start : (t : Table) (rows : layout.Rows) → sound_table t rows ≡ true → (n : ℕ) {gap : ℕ} → gap ≡ next (view t rows)
    → Passing (view t rows) n t rows n 0 gap
unfolding sound_table
passing_start t rows whole n near =
    record {
      order = (sound-whole whole).order;
      going = going_start kernel (still (view t rows)) n (stilled (view t rows) (right (orderly t rows) (sound (view t rows)) whole));
      near = near;
    }

module _ {s : State} {n : ℕ} {u : Table} {rows : layout.Rows} {left woken gap : ℕ} (p : Passing s n u rows left woken gap) where
  abbrev at_rest : State
  at_rest = still (view u rows)

  rest-sound : sound at_rest ≡ true
  rest-sound = p.going.fine.0

  rest_steady : Steady at_rest
  rest_steady = sound_steady at_rest rest-sound

  pub passing_whole : Whole u rows
  passing_whole = record { order = p.order; placed = unmoved_placed refl refl refl rest_steady.lawful.placed }

  pub passing_armed : Armed u
  unfolding view
  passing_armed = sound-armed at_rest rest-sound

  near_rest : gap ≡ next at_rest
  near_rest = p.near ∙ sym (next-clock 0 (view u rows))

  pub passing_room : 0 < gap → gap ≤ left → woken + 1 ≤ n
  passing_room some reached = going_room kernel at_rest left woken gap p.going near_rest some reached

  -- through the next wake-up
  pub passing_turn : 0 < gap → gap ≤ left → {r : Table} {after : layout.Rows} {further : ℕ} → Does u rows (leap gap) r after → further ≡ next (view r after)
      → Passing s n r after (left - gap) (woken + 1) further
  passing_turn some reached {r} {after} d near =
      record {
        order = d.order;
        going = going_turn kernel at_rest left woken gap (still (view r after)) p.going near_rest some reached same;
        near = near;
      }
    where
      same : still (view r after) ≡ still_tick (skip (gap - 1) at_rest)
      same = ap still d.view ∙ leap-still (view u rows) gap some rest_steady.lawful.objects.many_timers rest_steady.lawful.placed.threads

  -- and to the end, where no wake-up is left
  module _ (whole : sound s ≡ true) (free : Free left gap) {v w : Table} (quiet : Does u rows (skip left) v rows) {clock : ℕ} (moved : Meets v (with_clock clock) w) (sum : clock ≡ wrap (s.clock + n)) where
    gone : (with_clock clock (skip left at_rest) ≡ after_ticks n s) × (woken ≡ wakeups_in n s)
    gone =
        rw sum
        (after_gone s whole n (skip left at_rest) woken
        (going_last kernel at_rest left woken (skip left at_rest) p.going (rw (← near_rest) free) refl))

    pub passed : Does u rows (λ x. after_ticks n s) w rows × (woken ≡ wakeups_in n s)
    unfolding skip quantum_counts
    passed =
        let all = and_then quiet (does rows quiet.order moved) in
        (record { order = all.order; view = all.view ∙ gone.0 }, gone.1)
