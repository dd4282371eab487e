-- The answer is the model's, and so are the table after its ticks and the wake-ups among them; the rest is read off that table.
use Rattle.std.proofs.Common.{◌≡◌, ℕ, ap, ◌∙◌}
use Rattle.model.specs.declared.answers.Answer.{Answer}
use Rattle.model.specs.State.{State}
use Rattle.model.specs.Time.{after_ticks, wakeups_in}
use Rattle.model.specs.Kernel.{next_state, span}
use Rattle.model.specs.Before.{Rows, view}
use Rattle.table.specs.Orderly.{Does}
use Rattle.table.proofs.Views.{same_word}
use Rattle.theorems.proofs.Spanned.{spanned}
use Rattle.kernel.proofs.Replying.{replied}
use Rattle.time.proofs.timed.Goals as goal
use Rattle.model.specs.declared.tables.Table.{Table}
use Rattle.model.specs.declared.requests.Request.{Request}

-- the table after the ticks, and the wake-ups among them
module _ (q : Request) (t : Table) (rows : Rows) (a : Answer) (n : ℕ) (e : n ≡ span a q) where
  abbrev s : State
  s = view t rows

  next-table : q.call ≡ 22 → {u : Table} {after : Rows} → Does t rows (after_ticks n) u after → Does t rows (next_state a q) u after
  next-table h d = same_word (next_state a q) d (ap (λ (m : ℕ). after_ticks m s) e ∙ spanned a q s h)

  woken : {w : ℕ} → w ≡ wakeups_in n s → w ≡ wakeups_in (span a q) s
  woken h = h ∙ ap (λ (m : ℕ). wakeups_in m s) e

pub returns : goal.returns
returns c =
    let s = c.args in
    let a = c.answer-answer.result in
    let n = c.span-n.result in
    let e = c.span-n.ensures in
    let after = next-table s.q s.t s.rows.now a n e c.requires.call_value c.pass-p.ensures.does in
    replied s.t s.rows.now s.q c.requires.rows_value c.answer-answer.ensures after
    (woken s.q s.t s.rows.now a n e c.pass-p.ensures.wakeups_value)
    (c.next_wake_up-next.ensures c.pass-p.new.rows after.order) c.reply.ensures
