-- The turn of a thread's limit, in the model and in place.
use Rattle.std.proofs.Common.{◌≡◌, ℕ, ◌-◌, ◌<◌, ◌≤◌, Bool, true, cond, List, sym, refl, ap, subst, arith, eq-eqb, ne_eqb}
use mathlib.Core.Bool.{false≢true}
use Rattle.sequences.proofs.Places.{alter-none, alter_alike, alter-keeps}
use Rattle.model.specs.declared.tables.Thread.{Thread}
use Rattle.model.specs.State.{State, absent_thread}
use Rattle.model.specs.Parts.{thread, with_threads, alter_thread, with_wait, with_limit}
use Rattle.model.specs.Words.{sleeps, leave, enter_ready, become_ready, wake}
use Rattle.model.specs.Layout.{view}
use Rattle.rules.specs.Counting.{never}
use Rattle.theorems.specs.Skip.{limit_less}
use Rattle.theorems.specs.Leap.{run_out, limit_leap}
use Rattle.fields.specs.Fields.{Alters}
use Rattle.words.specs.Images.{Whole, Does}
use Rattle.words.proofs.Does.{same_word, rewritten_does}
use Rattle.timed.specs.Limited.{Limited}
use Rattle.timed.specs.Unmoved.{Unmoved}
use Rattle.timed.proofs.Onward.{onward-limited, limit-onward}
use Rattle.timed.proofs.Walking.{Turn}

abbrev pub threads : State → List Thread
threads s = s.threads

abbrev pub limit : Thread → ℕ
limit t = t.limit

-- ---- in the model

-- who has no limit is left alone
pub limit-idle : (ticks : ℕ) → 0 < ticks → (i : ℕ) (s : State) → (thread i s).limit ≡ 0 → limit_leap ticks i s ≡ s
unfolding limit_leap
limit-idle ticks some i s none =
    let t = thread i s in
    let still : t.limit - ticks ≡ t.limit = omega arith in
    rw (ne_eqb t.limit ticks (λ e. omega arith))
    (ap (λ (l : List Thread). with_threads l s)
    (alter-none (limit_less ticks) absent_thread i s.threads (ap (λ (n : ℕ). with_limit n t) still)))

limit_unmoved : (i x : ℕ) (s : State) → Unmoved s (alter_thread i (with_limit x) s)
limit_unmoved i x s =
    record {
      ready = refl;
      off = refl;
      chosen = refl;
      current = λ k. alter-keeps (λ (t : Thread). t.current) (with_limit x) (λ t. refl) i s.threads k absent_thread;
      quantum = λ k. alter-keeps (λ (t : Thread). t.quantum) (with_limit x) (λ t. refl) i s.threads k absent_thread;
      left = λ k. alter-keeps (λ (t : Thread). t.left) (with_limit x) (λ t. refl) i s.threads k absent_thread;
    }

-- ---- in place, by its two ways

module _ (ticks i : ℕ) (b : List ℕ) (moved : Bool) where
  abbrev there : Thread
  there = thread i (view b)

  pub limit_ends : there.limit ≡ ticks → {r : List ℕ} → Does b (run_out i) r
      → Turn (limit_leap ticks i) threads limit absent_thread i b moved r true 0
  unfolding limit_leap wake become_ready enter_ready leave
  limit_ends out d =
      record {
        does = same_word d (limit_leap ticks i) (rw (eq-eqb there.limit ticks out));
        change = with_wait 0 (cond (sleeps i (view b)) 1 2) 0 0;
        own = ap threads d.view;
        noted = refl;
        fits = omega arith;
        still = λ e. absurd (false≢true (sym e));
      }

  pub limit_runs : (there.limit ≡ ticks → ⊥) → Whole b → {x : ℕ} → x ≡ there.limit - ticks → x ≤ never
      → {r : List ℕ} → Alters b (alter_thread i (with_limit x)) r → Turn (limit_leap ticks i) threads limit absent_thread i b moved r moved x
  unfolding limit_leap
  limit_runs more w {x} e fits a =
      record {
        does =
            same_word (rewritten_does i (with_limit x) w a (λ t. refl)) (limit_leap ticks i)
            (rw (ne_eqb there.limit ticks more)
            (ap (λ (l : List Thread). with_threads l (view b))
            (alter_alike (with_limit x) (limit_less ticks) absent_thread (view b).threads i (ap (λ (n : ℕ). with_limit n there) e))));
        change = with_limit x;
        own = ap threads a.view;
        noted = refl;
        fits = fits;
        still = λ f. (f, subst (Unmoved (view b)) (sym a.view) (limit_unmoved i x (view b)));
      }

pub limited-next : {b r : List ℕ} (ticks i : ℕ) → Does b (limit_leap ticks i) r → Limited (view b) → Limited (view r)
limited-next {b} ticks i d l = subst Limited (sym d.view) (onward-limited (limit-onward ticks i (view b)) l)
