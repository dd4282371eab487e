-- A quantum that ends is a thread's, and renewing it moves nobody; then the thread becomes ready, by its ready list turned over where it
-- stands there. A quantum that doesn't end is spent.
use Rattle.std.proofs.Common.{◌≡◌, ℕ, ◌-◌, ◌<◌, sym, refl, ap, ◌∙◌, arith}
use Rattle.model.specs.State.{State}
use Rattle.model.specs.Parts.{with_left, refilled}
use Rattle.model.specs.Before.{view, thread_at}
use Rattle.table.specs.Orderly.{Given}
use Rattle.table.proofs.Views.{and_then, same_word}
use Rattle.table.proofs.Written.{written, read_again, writes, written_given}
use Rattle.table.proofs.Ready.{priority_below}
use Rattle.theorems.specs.Leap.{quantum_leap}
use Rattle.theorems.proofs.Skips.{running}
use Rattle.theorems.proofs.Spending.{quantum_below, spend-none, spend-some, leap_ends, leap_spends}
use Rattle.time.proofs.Turning.{turned_ready}
use Rattle.time.proofs.quantum.quantum_leap.Goals as goal
use Rattle.time.proofs.quantum.quantum_leap.Goals.{After-quantum_left-left, Start, Then-left-gap, Then-left-gt0}

-- ---- what is left, and whose it is

abbrev seen : Start → State
seen s = view s.args.t s.args.rows.now

left : (c : After-quantum_left-left) → c.quantum_left-left.result ≡ running (seen c.before)
unfolding view
left c = c.quantum_left-left.ensures c.args.rows.now c.requires.whole.order

some : (c : Then-left-gt0) → 0 < running (seen c.before.before)
some c = omega (arith, c.if-left-gt0.true, left c.before)

below : (c : Then-left-gt0) → c.args.t.chosen < 16
unfolding view
below c = quantum_below (seen c.before.before) c.requires.whole.placed (some c)

-- the chosen thread's record is there to be written
chosen-given : (c : Then-left-gt0) → Given c.args.t c.args.rows.now c.args.t.chosen
chosen-given c = record { whole = c.requires.whole; thread = below c }

-- ---- where it ends

module _ (c : Then-left-gap) where
  abbrev s : Start
  s = c.before.before.before.before

  abbrev before : Given s.args.t s.args.rows.now s.args.t.chosen
  before = chosen-given c.before.before

  given : Given (written s.args.t.chosen refilled s.args.t) s.args.rows.now s.args.t.chosen
  given = written_given before refilled (λ x. refl)

  in_range : (thread_at s.args.t.threads s.args.t.chosen).current < 8
  in_range = priority_below (read_again before refilled) given

  ends : running (seen s) ≡ s.args.gap
  ends = sym (left c.before.before.before) ∙ c.if-left-gap.true

pub returns-then-k-lengths : goal.returns-then-k-lengths
unfolding view
returns-then-k-lengths c =
    same_word (quantum_leap (s (goal.at.returns-then-k-lengths c).Then-left-gap).args.gap)
    (and_then (writes (before (goal.at.returns-then-k-lengths c).Then-left-gap) refilled)
    (turned_ready (read_again (before (goal.at.returns-then-k-lengths c).Then-left-gap) refilled) (given (goal.at.returns-then-k-lengths c).Then-left-gap) c.find-k.ensures c.if-k-lengths.true c.turn_over.ensures))
    (leap_ends (seen (s (goal.at.returns-then-k-lengths c).Then-left-gap)) (s (goal.at.returns-then-k-lengths c).Then-left-gap).requires.gap_nonzero (ends (goal.at.returns-then-k-lengths c).Then-left-gap))

pub returns-else-k-lengths : goal.returns-else-k-lengths
unfolding view
returns-else-k-lengths c =
    same_word (quantum_leap (s (goal.at.returns-else-k-lengths c).Then-left-gap).args.gap) (and_then (writes (before (goal.at.returns-else-k-lengths c).Then-left-gap) refilled) c.become_ready-u.ensures)
    (leap_ends (seen (s (goal.at.returns-else-k-lengths c).Then-left-gap)) (s (goal.at.returns-else-k-lengths c).Then-left-gap).requires.gap_nonzero (ends (goal.at.returns-else-k-lengths c).Then-left-gap))

pub returns-else-left-gap : goal.returns-else-left-gap
unfolding view
returns-else-left-gap c =
    let rest = c.saturating_sub.ensures ∙ ap (λ (n : ℕ). n - c.args.gap) (left (goal.at.returns-else-left-gap c).After-quantum_left-left) in
    same_word (quantum_leap c.args.gap) (writes (chosen-given (goal.at.returns-else-left-gap c).Then-left-gt0) (with_left c.saturating_sub.result))
    (spend-some (seen (goal.at.returns-else-left-gap c).Start) c.args.gap (some (goal.at.returns-else-left-gap c).Then-left-gt0) rest
    ∙ leap_spends (seen (goal.at.returns-else-left-gap c).Start) c.requires.gap_nonzero (λ e. c.if-left-gap.false (left (goal.at.returns-else-left-gap c).After-quantum_left-left ∙ e)))

pub returns-else-left-gt0 : goal.returns-else-left-gt0
unfolding view
returns-else-left-gt0 c =
    let none : running (seen (goal.at.returns-else-left-gt0 c).Start) ≡ 0 = omega (arith, c.if-left-gt0.false, left (goal.at.returns-else-left-gt0 c).After-quantum_left-left) in
    record {
      order = c.requires.whole.order;
      view = spend-none (seen (goal.at.returns-else-left-gt0 c).Start) c.args.gap none ∙ leap_spends (seen (goal.at.returns-else-left-gt0 c).Start) c.requires.gap_nonzero (λ e. omega (arith, c.requires.gap_nonzero));
    }

pub find-k-requires-clause-p_bound : goal.find-k-requires-clause-p_bound
find-k-requires-clause-p_bound c = in_range (goal.at.find-k-requires-clause-p_bound c).Then-left-gap

pub bounds-lengths-p : goal.bounds-lengths-p
bounds-lengths-p c = in_range (goal.at.bounds-lengths-p c).Then-left-gap

pub become_ready-u-requires : goal.become_ready-u-requires
become_ready-u-requires c = given (goal.at.become_ready-u-requires c).Then-left-gap
