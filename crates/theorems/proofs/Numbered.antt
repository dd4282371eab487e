-- A call by its number: what it may assume, what it does, and that the choice comes after it.
use mathlib.Core.Path.{◌≡◌, refl, sym, ◌∙◌, ap}
use mathlib.Core.Bool.{Bool, true, false, ◌||◌, false≢true}
use mathlib.Core.Option.{Option, some}
use Prim.Native.Nat.{ℕ, ◌<◌, ◌≤◌}
use native.Mathlib.Omega.{arith}
use lib.Dec.{ltb}
use Rattle.model.specs.declared.requests.Request.{Request}
use Rattle.model.specs.State.{State}
use Rattle.model.specs.Words.{settle, choose}
use Rattle.model.specs.Answers.{accepted}
use Rattle.model.specs.Calls.{Call, calls, numbered}
use Rattle.model.specs.Kernel.{judge, accept, perform}
use Rattle.rules.proofs.ByNumber.{no_call, call-in_range}
use Rattle.theorems.specs.Allowed.{Allowed, Accepted}
use Rattle.theorems.specs.Effect.{effect_of, effect_by, effect}
use Rattle.theorems.proofs.ByNumber.{◌and◌, by_number}

-- by the number n of call c
module _ (q : Request) (n : ℕ) (c : Call) (number : q.call ≡ n) (names : numbered n ≡ some c) where
  pub named : numbered q.call ≡ some c
  named = ap numbered number ∙ names

  pub allowed : {s : State} → Accepted q s → Allowed c q s
  unfolding judge
  allowed {s} a = record { sound = a.sound; passed = ap (λ (o : Option Call). accepted (judge o q s)) (sym named) ∙ a.passed }

  pub same_effect : (s : State) → effect_of c q s ≡ effect q s
  unfolding effect_by
  same_effect s = ap (λ (o : Option Call). effect_by o q s) (sym named)

-- what is accepted has a call's number
pub call-number : (q : Request) (s : State) (n : ℕ) → accepted (judge (numbered n) q s) ≡ true → (1 ≤ n) × (n < 23)
unfolding judge
call-number q s n ok = by_test (ltb n 1 || ltb 22 n) refl
  where
    by_test : (b : Bool) → ltb n 1 || ltb 22 n ≡ b → (1 ≤ n) × (n < 23)
    by_test true e = absurd (false≢true (ap (λ (o : Option Call). accepted (judge o q s)) (sym (no_call n e)) ∙ ok))
    by_test false e = call-in_range n e

pub performed : (q : Request) (s : State) (n : ℕ) → n < 22 → accepted (judge (numbered n) q s) ≡ true
    → perform true (numbered n) q s ≡ choose (effect_by (numbered n) q s)
unfolding calls judge perform accept effect_by effect_of settle
performed q s =
    by_number (λ n c. n < 22 → accepted (judge c q s) ≡ true → perform true c q s ≡ choose (effect_by c q s))
    (chosen and chosen and chosen and chosen and chosen and chosen and chosen and chosen
    and chosen and chosen and chosen
    and chosen and chosen and chosen
    and chosen and chosen and chosen and chosen
    and chosen and chosen
    and chosen and (λ h ok. absurd (omega arith)) and tt)
    (λ n outside h ok. absurd (false≢true ok))
  where
    chosen : {n : ℕ} {ok : Type 0} {r : State} → n < 22 → ok → r ≡ r
    chosen h ok = refl
