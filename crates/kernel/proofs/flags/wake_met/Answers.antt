-- The test on the record that was read is the model's; a word delivered moves nobody, so the thread can be woken as it stood.
use mathlib.Core.Path.{◌≡◌, refl, sym, ◌∙◌}
use mathlib.Core.Bool.{Bool}
use Prim.Native.Nat.{ℕ}
use Rattle.model.specs.declared.tables.Thread.{Thread}
use Rattle.model.specs.declared.tables.Table.{Table}
use Rattle.model.specs.Parts.{thread, with_delivered}
use Rattle.model.specs.Words.{holds}
use Rattle.model.specs.Before as layout
use Rattle.model.specs.Before.{view, thread_at}
use Rattle.placed.proofs.Standing.{alter-placed}
use Rattle.table.proofs.Rooms.{given-after}
use Rattle.table.proofs.Views.{does, and_then, same_word}
use Rattle.theorems.specs.Meeting.{wake_met}
use Rattle.kernel.proofs.flags.wake_met.Goals as goal

tested : (t : Table) (rows : layout.Rows) (i word : ℕ) (x : Thread) (b c : Bool) → x ≡ thread_at t.threads i → b ≡ holds x.mode x.mask word → b ≡ c
    → holds (thread i (view t rows)).mode (thread i (view t rows)).mask word ≡ c
unfolding view
tested t rows i word x b c read test is = rw (← read) (sym test ∙ is)

pub wake-requires : goal.wake-requires
wake-requires c =
    let m = does c.args.rows.now c.requires.whole.order c.with_delivered-u.ensures in
    given-after m c.requires.thread (alter-placed c.args.i (with_delivered c.args.word) (view c.args.t c.args.rows.now) (λ x. refl) c.requires.whole.placed)

pub returns-then-holds : goal.returns-then-holds
unfolding wake_met
returns-then-holds c =
    let a = c.args in
    let rows = a.rows.now in
    let x = c.thread-x in
    let e = tested a.t rows a.i a.word x.result _ _ x.ensures c.holds.ensures c.if-holds.true in
    same_word (wake_met a.word a.i) (and_then (does rows c.requires.whole.order c.with_delivered-u.ensures) c.wake.ensures) (rw e)

pub returns-else-holds : goal.returns-else-holds
unfolding wake_met
returns-else-holds c =
    let a = c.args in
    let rows = a.rows.now in
    let x = c.thread-x in
    let e = tested a.t rows a.i a.word x.result _ _ x.ensures c.holds.ensures c.if-holds.false in
    record { order = c.requires.whole.order; view = rw e }
