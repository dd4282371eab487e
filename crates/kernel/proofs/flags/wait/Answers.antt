-- The call is allowed, so its numbers fit and a thread runs; the test on the word that was read is the model's.
use mathlib.Core.Path.{◌≡◌, refl, sym, ◌∙◌, ap}
use mathlib.Core.Bool.{true, false}
use mathlib.Core.List.{List}
use Prim.Native.Nat.{ℕ, ◌<◌, ◌≤◌}
use native.Mathlib.Omega.{arith}
use borrow.Author.Tests.{not-false}
use lib.ListN.{get_or}
use Rattle.sequences.proofs.Places.{alter_twice}
use Rattle.model.specs.declared.requests.Request.{Request}
use Rattle.model.specs.declared.tables.Thread.{Thread}
use Rattle.model.specs.declared.tables.Table.{Table}
use Rattle.model.specs.State.{absent_flags, flags_list}
use Rattle.model.specs.Parts.{alter_thread, with_threads, with_result, with_delivered}
use Rattle.model.specs.Words.{start_to_wait, holds}
use Rattle.model.specs.Calls.{answers}
use Rattle.model.specs.Effects.{wait_effect}
use Rattle.model.specs.Before as layout
use Rattle.model.specs.Before.{view}
use Rattle.table.specs.Orderly.{Meets, Does}
use Rattle.table.specs.Orderly.{Whole}
use Rattle.table.proofs.Views.{does, then, same_word}
use Rattle.rules.proofs.InRange.{wait-fits}
use Rattle.kernel.proofs.Facts.{whole, running_below, flags-named, not-due}
use Rattle.kernel.proofs.flags.wait.Goals as goal
use Rattle.kernel.proofs.flags.wait.Goals.{Start}

below : (s : Start) → s.args.q.id < 4
unfolding answers
below s = flags-named s.requires refl

widths : (s : Start) → (s.args.q.a ≤ 65535) × (s.args.q.b ≤ 3)
unfolding answers
widths s = let q = s.args.q in wait-fits q.a q.b q.c q.d (not-false _ (not-due s.requires 1 refl))

runs : (s : Start) → s.args.t.chosen < 16
unfolding answers
runs s = running_below s.requires (not-due s.requires 2 refl)

module _ (q : Request) (t : Table) (rows : layout.Rows) where
  abbrev word : ℕ
  word = (get_or t.flags q.id absent_flags).word

  delivered : {u r : Table} → Whole t rows → holds q.b q.a word ≡ true → Meets t (alter_thread t.chosen (with_result 1)) u
      → Meets u (alter_thread t.chosen (with_delivered word)) r → Does t rows (wait_effect q) r rows
  unfolding view wait_effect
  delivered w e a b =
      same_word (wait_effect q) (does rows w.order (then a b))
      (rw e (ap (λ (l : List Thread). with_threads l (view t rows)) (alter_twice (with_delivered word) (with_result 1) t.chosen t.threads)))

  waits : {r : Table} {after : layout.Rows} → holds q.b q.a word ≡ false
      → Does t rows (start_to_wait (flags_list q.id) t.chosen q.c q.a q.b) r after → Does t rows (wait_effect q) r after
  unfolding view wait_effect
  waits e d = same_word (wait_effect q) d (rw e)

pub overflow_cast-mask : goal.overflow_cast-mask
overflow_cast-mask c = omega (arith, widths (goal.at.overflow_cast-mask c).Start)

pub overflow_cast-mode : goal.overflow_cast-mode
overflow_cast-mode c = omega (arith, widths (goal.at.overflow_cast-mode c).Start)

pub bounds-t-o : goal.bounds-t-o
bounds-t-o c = below (goal.at.bounds-t-o c).Start

pub with_result-u-requires : goal.with_result-u-requires
with_result-u-requires c = record { orderly_table = (whole c.requires).order.table; i_bound = runs (goal.at.with_result-u-requires c).Start }

pub with_delivered-requires : goal.with_delivered-requires
with_delivered-requires c = record { orderly_table = c.with_result-u.ensures.order; i_bound = runs (goal.at.with_delivered-requires c).Start }

pub start_to_wait-requires : goal.start_to_wait-requires
start_to_wait-requires c = record { given = record { whole = whole c.requires; thread = runs (goal.at.start_to_wait-requires c).Start }; j_bound = omega (arith, below (goal.at.start_to_wait-requires c).Start) }

pub returns-then-holds : goal.returns-then-holds
returns-then-holds c =
    delivered c.args.q c.args.t c.args.rows.now (whole c.requires) (sym c.holds.ensures ∙ c.if-holds.true)
    c.with_result-u.ensures c.with_delivered.ensures

pub returns-else-holds : goal.returns-else-holds
returns-else-holds c =
    waits c.args.q c.args.t c.args.rows.now (sym c.holds.ensures ∙ c.if-holds.false) c.start_to_wait.ensures
