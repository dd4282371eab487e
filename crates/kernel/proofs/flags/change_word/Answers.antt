use mathlib.Core.Path.{◌≡◌, refl, ◌∙◌}
use Prim.Native.Nat.{ℕ, ◌<◌}
use native.Mathlib.Omega.{arith}
use lib.ListN.{get_or}
use Rattle.model.specs.declared.tables.Table.{Table}
use Rattle.model.specs.State.{absent_flags, flags_list}
use Rattle.model.specs.Parts.{alter_flags, with_word}
use Rattle.model.specs.Effects.{wake_each, met, change_word}
use Rattle.model.specs.Before as layout
use Rattle.model.specs.Before.{view, ids_of, list_at}
use Rattle.placed.proofs.Standing.{unmoved_placed}
use Rattle.table.specs.Orderly.{Meets, Does}
use Rattle.table.specs.Orderly.{Whole}
use Rattle.table.proofs.Views.{does, list-view}
use Rattle.table.proofs.Rooms.{whole_then}
use Rattle.table.proofs.Rewriting.{rewritten_flags}
use Rattle.kernel.proofs.MeetingLaws.{listed-thread, waking_next, waking_done}
use Rattle.kernel.proofs.flags.change_word.Goals as goal
use Rattle.kernel.proofs.flags.change_word.Goals.{Start}

module _ {t u : Table} {rows : layout.Rows} (w : Whole t rows) (o word : ℕ) (m : Meets t (alter_flags o (λ _. with_word word (get_or t.flags o absent_flags))) u) where
  changed : Does t rows (alter_flags o (with_word word)) u rows
  changed = does rows w.order (rewritten_flags t u o (with_word word (get_or t.flags o absent_flags)) (with_word word) refl m)

  -- a word moves nobody
  changed-whole : Whole u rows
  changed-whole = whole_then (λ s. unmoved_placed refl refl refl) changed w

  -- and changes no condition
  changed-met : wake_each word (met word (ids_of (list_at t.waits (flags_list o))) (view u rows)) (view u rows) ≡ change_word o word (view t rows)
  unfolding change_word
  changed-met = rw (list-view t rows (flags_list o), changed.view)

-- where the flags' list stands
within : (s : Start) → flags_list s.args.o < 18
within s = omega (arith, s.requires.o_bound)

pub loop-i-init : goal.loop-i-init
loop-i-init c =
    record { whole = changed-whole c.requires.whole c.args.o c.args.word c.with_flags-u.ensures; rest = refl }

pub wake_met-u-requires : goal.wake_met-u-requires
wake_met-u-requires c =
    let l = c.loop-i in
    record { whole = l.invariant.whole; thread = listed-thread c.requires.whole (flags_list c.args.o) (within (goal.at.wake_met-u-requires c).Start) l.i-index c.loop-i-test.true }

pub loop-i-preserved : goal.loop-i-preserved
loop-i-preserved c =
    waking_next c.requires.whole (flags_list c.args.o) (within (goal.at.loop-i-preserved c).Start) c.loop-i.invariant c.loop-i-test.true c.wake_met-u.ensures

pub returns : goal.returns
returns c =
    let l = c.loop-i in
    let done = waking_done c.requires.whole (flags_list c.args.o) (within (goal.at.returns c).Start) l.invariant c.loop-i-test.false in
    record {
      order = l.invariant.whole.order;
      view = done ∙ changed-met c.requires.whole c.args.o c.args.word c.with_flags-u.ensures;
    }
