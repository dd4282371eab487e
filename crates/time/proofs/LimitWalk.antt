-- The turn of a thread's limit, in the model and in code.
use Rattle.std.proofs.Common.{◌≡◌, ℕ, ◌-◌, ◌<◌, Bool, true, false, cond, eqb, List, take, set, sym, refl, ap, arith, get_or-set_same, eq-eqb, ne_eqb}
use Rattle.sequences.proofs.Places.{take-alter}
use Rattle.model.specs.declared.tables.Thread.{Thread}
use Rattle.model.specs.declared.tables.Table.{Table}
use Rattle.model.specs.State.{State, absent_thread}
use Rattle.model.specs.Parts.{thread, alter_thread, with_wait, with_limit}
use Rattle.model.specs.Words.{sleeps, leave, enter_ready, become_ready, wake}
use Rattle.model.specs.Before as layout
use Rattle.model.specs.Before.{view, thread_at}
use Rattle.table.specs.Orderly.{Whole, Does}
use Rattle.table.proofs.Views.{table-threads, stored_thread, does, same_word}
use Rattle.table.proofs.Rewriting.{rewritten_thread}
use Rattle.theorems.specs.Skip.{limit_less}
use Rattle.theorems.specs.Leap.{run_out, limit_leap}
use Rattle.time.proofs.Walking.{Turn}

abbrev pub threads : State → List Thread
threads s = s.threads

abbrev pub limit : Thread → ℕ
limit t = t.limit

-- ---- in the model

pub threads-behind : (gap i : ℕ) (s : State) → take i (threads (limit_leap gap i s)) ≡ take i (threads s)
unfolding limit_leap wake become_ready enter_ready leave
threads-behind gap i s = by_test (eqb (thread i s).limit gap)
  where
    by_test : (b : Bool) → take i (cond b (run_out i s) (alter_thread i (limit_less gap) s)).threads ≡ take i s.threads
    by_test true = take-alter (with_wait 0 (cond (sleeps i s) 1 2) 0 0) i s.threads
    by_test false = take-alter (limit_less gap) i s.threads

-- ---- in code, by its two ways

module _ (gap i : ℕ) (t : Table) (rows : layout.Rows) where
  abbrev there : Thread
  there = thread_at t.threads i

  pub limit_ends : there.limit ≡ gap → {r : Table} {after : layout.Rows} → Does t rows (run_out i) r after
      → Turn (limit_leap gap i) threads absent_thread i t rows r after (thread_at r.threads i)
  unfolding limit_leap view
  limit_ends out d = record { does = same_word (limit_leap gap i) d (rw (eq-eqb there.limit gap out)); own = refl }

  pub limit_runs : (there.limit ≡ gap → ⊥) → Whole t rows → i < 16 → {m : ℕ} → m ≡ there.limit - gap → let x = with_limit m there in
      Turn (limit_leap gap i) threads absent_thread i t rows (table-threads (set t.threads i x) t) rows x
  unfolding limit_leap view
  limit_runs more w h {m} e =
      let x = with_limit m there in
      let changed = rewritten_thread t (table-threads (set t.threads i x) t) i x (limit_less gap) (ap (λ (n : ℕ). with_limit n there) e)
      (stored_thread t w.order.table i x) in
      record {
        does = same_word (limit_leap gap i) (does rows w.order changed) (rw (ne_eqb there.limit gap more));
        own = sym (get_or-set_same t.threads i x absent_thread (omega (arith, w.order.table.threads)));
      }
