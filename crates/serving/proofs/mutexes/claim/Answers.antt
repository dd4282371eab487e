-- The test is the model's. Who waits has entered a list as it must, so the owner, a thread, can be raised; and a depth that the call could
-- still raise isn't 255, which was refused as full.
use mathlib.Core.Path.{◌≡◌, refl, sym, ap, ◌∙◌}
use mathlib.Core.Bool.{Bool, true, false, not, ◌&&◌, true≢false}
use mathlib.Core.List.{List}
use Prim.Native.Nat.{ℕ, ◌+◌, ◌<◌, ◌≤◌}
use native.Mathlib.Decide.{ℕ_discrete}
use native.Mathlib.Omega.{arith}
use borrow.Author.Tests.{ltb-true, leb-true, not-false}
use lib.Dec.{eqb, leb, ltb}
use Rattle.sequences.proofs.Tests.{left, right}
use Rattle.sequences.proofs.Places.{alter_alike}
use Rattle.model.specs.declared.requests.Request.{Request}
use Rattle.model.specs.declared.tables.Mutex.{Mutex}
use Rattle.model.specs.State.{State, absent_mutex, mutex_list}
use Rattle.model.specs.Parts.{mutex, with_mutexes, alter_thread, alter_mutex, with_result, with_owner}
use Rattle.model.specs.Ranges.{is_bit}
use Rattle.model.specs.Words.{start_to_wait}
use Rattle.model.specs.Sound.{mutex_in_range}
use Rattle.model.specs.Calls.{answers, claim, claim_waits}
use Rattle.model.specs.Effects.{raise, claim_effect}
use Rattle.model.specs.Layout.{view}
use Rattle.theorems.specs.Allowed.{Allowed}
use Rattle.theorems.proofs.Allowing.{steady, mutex-named, not-due}
use Rattle.words.specs.Images.{Whole, Ready}
use Rattle.words.proofs.Does.{rewritten_does, and_then, same_word}
use Rattle.words.proofs.Accepted.{running, unmoved_does}
use Rattle.serving.proofs.mutexes.claim.Goals as goal

-- a mutex that its claimer owns, if anyone does, and that isn't full
not_full : (depth owner i : ℕ) → depth ≤ 255 → ltb 0 depth && not (eqb owner i) ≡ false → (ltb 0 depth && eqb owner i) && eqb depth 255 ≡ false
    → depth + 1 < 256
not_full depth owner i most free room =
    elim (ℕ_discrete depth 255) [
      | yes e ↦ let own : eqb owner i ≡ true = not-false (eqb owner i) (rw e at free) in absurd (true≢false (rw (e, own) at room))
      | no n ↦ omega arith
    ]

module _ {q : Request} {b : List ℕ} (w : Whole b) (a : Allowed claim q (view b)) where
  abbrev held : Mutex
  held = mutex q.id (view b)

  below : q.id < 4
  unfolding answers
  below = mutex-named a refl

  runs : {i : ℕ} → i ≡ (view b).chosen → Ready b i
  unfolding answers
  runs e = running e w a (not-due a 2 refl)

  in_range : mutex_in_range held ≡ true
  in_range = ((steady a).lawful.objects.mutexes q.id).in_range

  owner-below : {x : Mutex} → x ≡ held → x.owner < 16
  unfolding mutex_in_range
  owner-below e =
      let created = is_bit held.created in
      let there = ltb held.owner 16 in
      rw e (ltb-true held.owner 16 (right created there (left (created && there) (leb held.depth 255) in_range)))

  room : {x : Mutex} → x ≡ held → claim_waits q (view b) ≡ false → x.depth + 1 < 256
  unfolding answers mutex_in_range
  room e free =
      rw e
      (not_full held.depth held.owner (view b).chosen
      (leb-true held.depth 255 (right (is_bit held.created && ltb held.owner 16) (leb held.depth 255) in_range)) free
      (not-due a 4 refl))

-- with what was read of the state
module _ (q : Request) (s : State) (x : Mutex) (i : ℕ) (is : i ≡ s.chosen) (has : x ≡ mutex q.id s) where
  tested : {r t : Bool} → r ≡ (ltb 0 x.depth && not (eqb x.owner i)) → r ≡ t → claim_waits q s ≡ t
  tested e h = rw (← has, ← is) (sym e ∙ h)

  waits : claim_waits q s ≡ true → raise x.owner i (start_to_wait (mutex_list q.id) i q.a 0 0 s) ≡ claim_effect q s
  unfolding claim_effect
  waits e = rw (has, is, e)

  owned : claim_waits q s ≡ false → alter_thread i (with_result 1) (alter_mutex q.id (with_owner i (x.depth + 1)) s) ≡ claim_effect q s
  unfolding claim_effect
  owned e =
      let i = s.chosen in
      rw (has, is, e)
      (ap (λ (l : List Mutex). alter_thread i (with_result 1) (with_mutexes l s))
      (alter_alike (with_owner i ((mutex q.id s).depth + 1)) (λ y. with_owner i (y.depth + 1) y) absent_mutex s.mutexes q.id refl))

pub mutex-x-requires : goal.mutex-x-requires
mutex-x-requires c = below c.requires.whole c.requires.allowed

pub start_to_wait-requires : goal.start_to_wait-requires
start_to_wait-requires c = record { ready = runs c.requires.whole c.requires.allowed c.chosen-c.ensures; j_bound = omega (arith, below c.requires.whole c.requires.allowed) }

pub raise-requires : goal.raise-requires
raise-requires c =
    let w = c.requires.whole in
    let a = c.requires.allowed in record { given = record { whole = c.start_to_wait.ensures.whole; thread = owner-below w a c.mutex-x.ensures }; from_bound = (runs w a c.chosen-c.ensures).given.thread }

pub overflow_add-x : goal.overflow_add-x
overflow_add-x c =
    let v = view c.args.image.now in
    let e = tested c.args.q v _ _ c.chosen-c.ensures c.mutex-x.ensures c.is_others.ensures c.if-is_others.false in
    record { fits = room c.requires.whole c.requires.allowed c.mutex-x.ensures e }

pub set_owner-requires : goal.set_owner-requires
set_owner-requires c =
    below c.requires.whole c.requires.allowed

pub set_result-requires : goal.set_result-requires
set_result-requires c =
    (runs c.requires.whole c.requires.allowed c.chosen-c.ensures).given.thread

pub returns-then-is_others : goal.returns-then-is_others
returns-then-is_others c =
    let q = c.args.q in
    let v = view c.args.image.now in
    let e = tested q v _ _ c.chosen-c.ensures c.mutex-x.ensures c.is_others.ensures c.if-is_others.true in
    same_word (and_then c.start_to_wait.ensures c.raise.ensures) (claim_effect q)
    (waits q v _ _ c.chosen-c.ensures c.mutex-x.ensures e)

pub returns-else-is_others : goal.returns-else-is_others
returns-else-is_others c =
    let q = c.args.q in
    let v = view c.args.image.now in
    let e = tested q v _ _ c.chosen-c.ensures c.mutex-x.ensures c.is_others.ensures c.if-is_others.false in
    let d = unmoved_does c.requires.whole c.set_owner.ensures refl refl refl in
    let r = rewritten_does c.chosen-c.result (with_result 1) d.whole c.set_result.ensures (λ t₁. refl) in
    same_word (and_then d r) (claim_effect q)
    (owned q v _ _ c.chosen-c.ensures c.mutex-x.ensures e)
