-- The test is the model's. Who waits has entered a list as it must, so the owner, a thread, can be raised; and a depth that the call could
-- still raise isn't 255, which was refused as full.
use mathlib.Core.Path.{◌≡◌, refl, sym, ◌∙◌}
use mathlib.Core.Bool.{true, false, not, ◌&&◌, true≢false}
use Prim.Native.Nat.{ℕ, ◌+◌, ◌<◌, ◌≤◌}
use native.Mathlib.Decide.{ℕ_discrete}
use native.Mathlib.Omega.{arith}
use borrow.Author.Tests.{ltb-true, leb-true, not-false}
use lib.Dec.{eqb, leb, ltb}
use Rattle.sequences.proofs.Tests.{left, right}
use Rattle.model.specs.declared.tables.Mutex.{Mutex}
use Rattle.model.specs.State.{State}
use Rattle.model.specs.Parts.{mutex, with_owner}
use Rattle.model.specs.Ranges.{is_bit}
use Rattle.model.specs.Words.{start_to_wait}
use Rattle.model.specs.Sound.{mutex_in_range}
use Rattle.model.specs.Calls.{answers, claim_waits}
use Rattle.model.specs.Effects.{claim_effect}
use Rattle.model.specs.Before.{view}
use Rattle.placed.specs.Placed.{Placed}
use Rattle.placed.proofs.Entering.{start_to_wait-placed}
use Rattle.table.proofs.Rooms.{given-after}
use Rattle.table.proofs.Views.{then, does, and_then, same_word}
use Rattle.table.proofs.Rewriting.{rewritten_mutex}
use Rattle.kernel.proofs.Facts.{whole, steady, running_below, mutex-named, not-due}
use Rattle.kernel.proofs.mutexes.claim.Goals as goal
use Rattle.kernel.proofs.mutexes.claim.Goals.{Else-is_others, Start, Then-is_others}

-- a mutex that its claimer owns, if anyone does, and that isn't full
not_full : (depth owner i : ℕ) → depth ≤ 255 → ltb 0 depth && not (eqb owner i) ≡ false → (ltb 0 depth && eqb owner i) && eqb depth 255 ≡ false → depth + 1 < 256
not_full depth owner i most free room =
    elim (ℕ_discrete depth 255) [
      | yes e ↦ let own : eqb owner i ≡ true = not-false (eqb owner i) (rw e at free) in absurd (true≢false (rw (e, own) at room))
      | no n ↦ omega arith
    ]

module _ (s : Start) where
  abbrev seen : State
  seen = view s.args.t s.args.rows.now

  abbrev held : Mutex
  held = mutex s.args.q.id seen

  below : s.args.q.id < 4
  unfolding answers
  below = mutex-named s.requires refl

  running : s.args.t.chosen < 16
  unfolding answers
  running = running_below s.requires (not-due s.requires 2 refl)

  abbrev waits : State → State
  waits = start_to_wait (10 + s.args.q.id) s.args.t.chosen s.args.q.a 0 0

  waits-placed : Placed (waits seen)
  waits-placed =
      let h = below in
      start_to_wait-placed (10 + s.args.q.id) s.args.t.chosen s.args.q.a 0 0 seen (omega arith) running (whole s.requires).placed

  in_range : mutex_in_range held ≡ true
  in_range = ((steady s.requires).lawful.objects.mutexes s.args.q.id).in_range

  owner-below : held.owner < 16
  unfolding mutex_in_range
  owner-below =
      ltb-true held.owner 16
      (right (is_bit held.created) (ltb held.owner 16) (left (is_bit held.created && ltb held.owner 16) (leb held.depth 255) in_range))

  room : claim_waits s.args.q seen ≡ false → held.depth + 1 < 256
  unfolding answers mutex_in_range
  room free =
      not_full held.depth held.owner seen.chosen
      (leb-true held.depth 255 (right (is_bit held.created && ltb held.owner 16) (leb held.depth 255) in_range)) free
      (not-due s.requires 4 refl)

-- the test is the model's
waiting : (c : Then-is_others) → claim_waits c.args.q (seen c.before.before.before.before) ≡ true
unfolding view
waiting c = sym c.is_others.ensures ∙ c.if-is_others.true

owning : (c : Else-is_others) → claim_waits c.args.q (seen c.before.before.before.before) ≡ false
unfolding view
owning c = sym c.is_others.ensures ∙ c.if-is_others.false

pub start_to_wait-u-requires : goal.start_to_wait-u-requires
start_to_wait-u-requires c =
    let h = below (goal.at.start_to_wait-u-requires c).Start in record { given = record { whole = whole c.requires; thread = running (goal.at.start_to_wait-u-requires c).Start }; j_bound = omega arith }

pub raise-requires : goal.raise-requires
unfolding view
raise-requires c = record { given = given-after {f = waits (goal.at.raise-requires c).Start} c.start_to_wait-u.ensures (owner-below (goal.at.raise-requires c).Start) (waits-placed (goal.at.raise-requires c).Start); from_bound = running (goal.at.raise-requires c).Start }

pub overflow_add-x : goal.overflow_add-x
unfolding view
overflow_add-x c = record { fits = room (goal.at.overflow_add-x c).Start (owning (goal.at.overflow_add-x c).Else-is_others) }

pub with_mutex-u-requires : goal.with_mutex-u-requires
with_mutex-u-requires c = record { orderly_table = (whole c.requires).order.table; o_bound = below (goal.at.with_mutex-u-requires c).Start }

pub with_result-requires : goal.with_result-requires
with_result-requires c = record { orderly_table = c.with_mutex-u.ensures.order; i_bound = running (goal.at.with_result-requires c).Start }

pub returns-then-is_others : goal.returns-then-is_others
unfolding claim_effect view
returns-then-is_others c =
    same_word (claim_effect c.args.q) (and_then {f = waits (goal.at.returns-then-is_others c).Start} c.start_to_wait-u.ensures c.raise.ensures) (rw (waiting (goal.at.returns-then-is_others c).Then-is_others))

pub returns-else-is_others : goal.returns-else-is_others
unfolding claim_effect view
returns-else-is_others c =
    let own : Mutex → Mutex = λ x. with_owner c.args.t.chosen (x.depth + 1) x in
    let m = rewritten_mutex c.args.t c.with_mutex-u.result c.args.q.id _ own refl c.with_mutex-u.ensures in
    same_word (claim_effect c.args.q) (does c.args.rows.now (whole c.requires).order (then m c.with_result.ensures)) (rw (owning (goal.at.returns-else-is_others c).Else-is_others))

pub bounds-t-o : goal.bounds-t-o
bounds-t-o c = below (goal.at.bounds-t-o c).Start
