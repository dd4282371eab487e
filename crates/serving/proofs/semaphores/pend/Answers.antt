-- With no count the thread that runs waits in the semaphore's list; else one is taken, and it has its result.
use mathlib.Core.Path.{◌≡◌, refl, ap}
use mathlib.Core.List.{List}
use Prim.Native.Nat.{ℕ, ◌-◌, ◌<◌}
use native.Mathlib.Omega.{arith}
use borrow.Author.Tests.{eq-eqb, ne_eqb}
use Rattle.sequences.proofs.Places.{alter_alike}
use Rattle.model.specs.declared.requests.Request.{Request}
use Rattle.model.specs.declared.tables.Semaphore.{Semaphore}
use Rattle.model.specs.State.{State, absent_semaphore, semaphore_list}
use Rattle.model.specs.Parts.{semaphore, with_semaphores, alter_thread, alter_semaphore, with_count, with_result}
use Rattle.model.specs.Words.{start_to_wait}
use Rattle.model.specs.Calls.{answers, pend}
use Rattle.model.specs.Effects.{pend_effect}
use Rattle.model.specs.Layout.{view}
use Rattle.theorems.specs.Allowed.{Allowed}
use Rattle.theorems.proofs.Allowing.{semaphore-named, not-due}
use Rattle.words.specs.Images.{Whole, Ready}
use Rattle.words.proofs.Does.{rewritten_does, and_then, same_word}
use Rattle.words.proofs.Accepted.{running, unmoved_does}
use Rattle.serving.proofs.semaphores.pend.Goals as goal

module _ {q : Request} {b : List ℕ} (w : Whole b) (a : Allowed pend q (view b)) where
  below : q.id < 8
  unfolding answers
  below = semaphore-named a refl

  runs : {i : ℕ} → i ≡ (view b).chosen → Ready b i
  unfolding answers
  runs e = running e w a (not-due a 2 refl)

-- with what was read of the state
module _ (q : Request) (s : State) (i n : ℕ) (is : i ≡ s.chosen) (has : n ≡ (semaphore q.id s).count) where
  waits : n ≡ 0 → start_to_wait (semaphore_list q.id) i q.a 0 0 s ≡ pend_effect q s
  unfolding pend_effect
  waits e = rw (is, ← has, eq-eqb n 0 e)

  takes : (n ≡ 0 → ⊥) → alter_thread i (with_result 1) (alter_semaphore q.id (with_count (n - 1)) s) ≡ pend_effect q s
  unfolding pend_effect
  takes e =
      rw (is, ← has, ne_eqb n 0 e)
      (ap (λ (l : List Semaphore). alter_thread s.chosen (with_result 1) (with_semaphores l s))
      (alter_alike (with_count (n - 1)) (λ x. with_count (x.count - 1) x) absent_semaphore s.semaphores q.id
      (ap (λ (k : ℕ). with_count (k - 1) (semaphore q.id s)) has)))

pub count-count-requires : goal.count-count-requires
count-count-requires c = below c.requires.whole c.requires.allowed

pub start_to_wait-requires : goal.start_to_wait-requires
start_to_wait-requires c = record { ready = runs c.requires.whole c.requires.allowed c.chosen-c.ensures; j_bound = omega (arith, below c.requires.whole c.requires.allowed) }

pub set_count-requires : goal.set_count-requires
set_count-requires c =
    below c.requires.whole c.requires.allowed

pub set_result-requires : goal.set_result-requires
set_result-requires c =
    (runs c.requires.whole c.requires.allowed c.chosen-c.ensures).given.thread

pub returns-then-count-eq0 : goal.returns-then-count-eq0
returns-then-count-eq0 c =
    let q = c.args.q in
    same_word c.start_to_wait.ensures (pend_effect q)
    (waits q (view c.args.image.now) _ _ c.chosen-c.ensures c.count-count.ensures c.if-count-eq0.true)

pub returns-else-count-eq0 : goal.returns-else-count-eq0
returns-else-count-eq0 c =
    let q = c.args.q in
    let d = unmoved_does c.requires.whole c.set_count.ensures refl refl refl in
    let e = rewritten_does c.chosen-c.result (with_result 1) d.whole c.set_result.ensures (λ t₁. refl) in
    same_word (and_then d e) (pend_effect q)
    (takes q (view c.args.image.now) _ _ c.chosen-c.ensures c.count-count.ensures c.if-count-eq0.false)
