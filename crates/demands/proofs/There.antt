-- Each fault of Unfit.antt is one that a kernel can have: none is shut out for want of kernels.
use mathlib.Core.Path.{◌≡◌, refl, sym, ap, subst}
use mathlib.Core.Bool.{true}
use Prim.Native.Nat.{ℕ, suc, ◌<◌}
use native.Mathlib.Omega.{arith}
use borrow.Author.Tests.{lt-ltb, le-leb}
use lib.Dec.{ltb}
use Rattle.sequences.specs.Steps.{ticks}
use Rattle.model.specs.declared.answers.Answer.{Answer}
use Rattle.model.specs.Answers.{accepted}
use Rattle.model.specs.Time.{next}
use Rattle.model.specs.Kernel.{Outcome, call}
use Rattle.model.specs.Promises.{advancing}
use Rattle.theorems.proofs.Demand3.{advance-done, next-first, next-only}
use Rattle.demands.specs.Unfit.{RefusesAll, refusing, AnswersSo, answering, ChangesNothing, idle, PreemptsToTail, preempting, HandlesFirstOnly, handling_once, CountsSo, counting, KeepsNext, saving}

pub refusing_so : RefusesAll refusing
refusing_so s q = refl

pub answering_so : (a : Answer) → AnswersSo a (answering a)
answering_so a s q = refl

pub idle_so : ChangesNothing idle
idle_so s q = refl

pub preempting_so : PreemptsToTail preempting
preempting_so s q whole = refl

pub handling_once_so : HandlesFirstOnly handling_once
handling_once_so s whole n k fits due within = rw (taken, there, lt-ltb 0 (suc k) (omega arith), le-leb (suc k) n within)
  where
    taken : accepted (call s (advancing n)).report.answer ≡ true
    taken = ap (λ (o : Outcome). accepted o.report.answer) (advance-done s whole n fits)

    there : next s ≡ suc k
    there = next-only s (next s) (suc k) (next-first s whole) due

pub counting_so : (f : ℕ → ℕ) → CountsSo f (counting f)
counting_so f s whole n fits = refl

pub saving_so : KeepsNext saving
unfolding ticks
saving_so s q whole is less = rw (is, shorter) (refl, sym asked)
  where
    asked : (call s (advancing 0)).report.next ≡ next s
    asked = ap (λ (o : Outcome). o.report.next) (advance-done s whole 0 refl)

    shorter : ltb q.a (next s) ≡ true
    shorter = lt-ltb q.a (next s) (subst (λ (k : ℕ). q.a < k) asked less)
