-- The numbers of an accepted call fit the record, by the kind of the action; it is stored with the count as it was.
use mathlib.Core.Path.{◌≡◌, refl, ap}
use mathlib.Core.Bool.{true, ◌&&◌, false≢true}
use mathlib.Core.List.{List}
use Prim.Native.Nat.{ℕ, zero, suc, ◌<◌, ◌≤◌}
use native.Mathlib.Omega.{arith}
use borrow.Author.Tests.{eqb-true, leb-true, ltb-true, not-false}
use lib.Dec.{eqb, ltb}
use Rattle.sequences.proofs.Places.{alter_alike}
use Rattle.sequences.proofs.Tests.{left, right}
use Rattle.model.specs.declared.requests.Request.{Request}
use Rattle.model.specs.declared.tables.Timer.{Timer}
use Rattle.model.specs.State.{State, unused_timer}
use Rattle.model.specs.Parts.{semaphore, flag_object, timer, with_timers, alter_timer}
use Rattle.model.specs.Ranges.{is_bit, is_positive_32, names_object, action_in_range}
use Rattle.model.specs.Calls.{answers, kind_of, object_of, start_timer}
use Rattle.model.specs.Effects.{start_timer_effect}
use Rattle.model.specs.Layout.{view}
use Rattle.rules.proofs.InRange.{positive_fits}
use Rattle.theorems.specs.Allowed.{Allowed}
use Rattle.theorems.proofs.Allowing.{not-due}
use Rattle.theorems.proofs.Running.{named}
use Rattle.words.proofs.Accepted.{unmoved_does}
use Rattle.words.proofs.Does.{same_word}
use Rattle.effects.proofs.timers.start_timer.Goals as goal

-- an action's object and mask by its kind
action-fits : (kind object mask : ℕ) (s : State) → names_object kind object s ≡ true
    → action_in_range kind object mask ≡ true → (object < 8) × (mask ≤ 65535)
action-fits zero object mask s names range = (
  omega (arith, eqb-true object 0 (left (eqb object 0) (eqb mask 0) range)),
  omega (arith, eqb-true mask 0 (right (eqb object 0) (eqb mask 0) range)),
)
action-fits (suc zero) object mask s names range = ((named object 8 (semaphore object s).created names).0, omega (arith, eqb-true mask 0 range))
action-fits (suc (suc zero)) object mask s names range =
    (omega (arith, (named object 4 (flag_object object s).created names).0), positive_fits mask range)
action-fits (suc (suc (suc kind))) object mask s names range = absurd (false≢true range)

module _ {q : Request} {s : State} (a : Allowed start_timer q s) where
  there : ltb q.id 8 && names_object (kind_of q) (object_of q) s ≡ true
  unfolding answers
  there = not-false _ (not-due a 0 refl)

  numbers : is_positive_32 q.a && is_bit q.b && action_in_range (kind_of q) (object_of q) q.d ≡ true
  unfolding answers
  numbers = not-false _ (not-due a 1 refl)

  below : q.id < 8
  below = ltb-true q.id 8 (left (ltb q.id 8) (names_object (kind_of q) (object_of q) s) there)

  repeats : q.b ≤ 1
  repeats =
      leb-true q.b 1
      (right (is_positive_32 q.a) (is_bit q.b)
      (left (is_positive_32 q.a && is_bit q.b) (action_in_range (kind_of q) (object_of q) q.d) numbers))

  action : (object_of q < 8) × (q.d ≤ 65535)
  action =
      action-fits (kind_of q) (object_of q) q.d s (right (ltb q.id 8) (names_object (kind_of q) (object_of q) s) there)
      (right (is_positive_32 q.a && is_bit q.b) (action_in_range (kind_of q) (object_of q) q.d) numbers)

-- the record as it is stored, with the count that was read
abbrev started : Request → ℕ → Timer
started q count = record { period = q.a; left = q.a; repeat = q.b; kind = kind_of q; object = object_of q; mask = q.d; count = count }

anew : (q : Request) (s : State) {count : ℕ} → count ≡ (timer q.id s).count
    → alter_timer q.id (λ _. started q count) s ≡ start_timer_effect q s
unfolding start_timer_effect
anew q s {count} e =
    ap (λ (l : List Timer). with_timers l s)
    (alter_alike (λ _. started q count) (λ t. started q t.count) unused_timer s.timers q.id (ap (started q) e))

pub overflow_cast-x : goal.overflow_cast-x
overflow_cast-x c = let h = repeats c.requires.allowed in omega arith

pub overflow_cast-x-3 : goal.overflow_cast-x-3
overflow_cast-x-3 c = let h = (action c.requires.allowed).0 in omega arith

pub overflow_cast-x-4 : goal.overflow_cast-x-4
overflow_cast-x-4 c = let h = (action c.requires.allowed).1 in omega arith

pub count-requires : goal.count-requires
count-requires c =
    below c.requires.allowed

pub store-requires : goal.store-requires
store-requires c =
    below c.requires.allowed

pub returns : goal.returns
returns c =
    let q = c.args.q in
    same_word (unmoved_does c.requires.whole c.store.ensures refl refl refl) (start_timer_effect q)
    (anew q (view c.args.image.now) c.count.ensures)
