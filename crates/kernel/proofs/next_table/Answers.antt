-- An accepted call is performed; a refused one leaves everything.
use mathlib.Core.Path.{◌≡◌, sym, ◌∙◌, ap}
use mathlib.Core.Bool.{Bool, true}
use native.Mathlib.Omega.{arith}
use Rattle.model.specs.Answers.{accepted}
use Rattle.model.specs.Calls.{numbered}
use Rattle.model.specs.Kernel.{judge, perform, next_state}
use Rattle.model.specs.Before.{view}
use Rattle.table.proofs.Stored.{sound-whole}
use Rattle.table.proofs.Views.{same_word}
use Rattle.theorems.proofs.Numbered.{call-number}
use Rattle.kernel.proofs.next_table.Goals as goal
use Rattle.kernel.proofs.next_table.Goals.{Start}

allowed : (s : Start) → accepted s.args.a ≡ true → accepted (judge (numbered s.args.q.call) s.args.q (view s.args.t s.args.rows.now)) ≡ true
allowed s ok = ap accepted (sym s.requires.a_value.0) ∙ ok

pub perform-requires : goal.perform-requires
perform-requires c =
    let q = c.args.q in
    let ok = allowed (goal.at.perform-requires c).Start (sym c.is_accepted.ensures ∙ c.if-is_accepted.true) in
    let n = call-number q (view c.args.t c.args.rows.now) q.call ok in
    let other = c.requires.a_value.1 in record { accepted = record { sound = c.requires.rows_value; passed = ok }; call_bound = omega (arith, n, other) }

pub returns-then-is_accepted : goal.returns-then-is_accepted
unfolding next_state
returns-then-is_accepted c =
    let q = c.args.q in
    same_word (next_state c.args.a q) c.perform.ensures
    (ap (λ (b : Bool). perform b (numbered q.call) q (view c.args.t c.args.rows.now)) (sym c.if-is_accepted.true ∙ c.is_accepted.ensures))

pub returns-else-is_accepted : goal.returns-else-is_accepted
unfolding next_state perform
returns-else-is_accepted c =
    let q = c.args.q in
    record {
      order = (sound-whole c.requires.rows_value).order;
      view = ap (λ (b : Bool). perform b (numbered q.call) q (view c.args.t c.args.rows.now)) (sym c.if-is_accepted.false ∙ c.is_accepted.ensures);
    }
