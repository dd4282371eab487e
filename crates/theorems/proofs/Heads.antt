-- With scheduling on the chosen thread of a sound table heads the highest ready list that isn't empty.
use mathlib.Core.Path.{◌≡◌, refl, sym, ◌∙◌, ap}
use mathlib.Core.Bool.{Bool, true, false}
use mathlib.Core.Logic.{◌⊎◌, inl, inr}
use mathlib.Core.List.{List}
use Prim.Native.Nat.{ℕ, ◌<◌}
use native.Mathlib.Omega.{arith}
use borrow.Author.Tests.{eqb-true, eq-eqb, ne_eqb, ltb-true, lt-ltb}
use lib.Dec.{eqb, ltb}
use lib.ListN.{length, get_or}
use Rattle.sequences.specs.Lists.{head_or}
use Rattle.sequences.proofs.Tests.{both, some_below-from, untrue, every_below-at, every_below-from}
use Rattle.sequences.proofs.Counts.{count_all-at, count-there}
use Rattle.sequences.proofs.Highest.{Last, Empty, highest, head_first}
use Rattle.model.specs.State.{State, scheduling_on, nobody}
use Rattle.model.specs.Parts.{ready_list}
use Rattle.model.specs.Ranges.{◌implies◌}
use Rattle.model.specs.Sound.{sound}
use Rattle.model.specs.Promises.{none_ready, heads, heads_highest}
use Rattle.theorems.specs.Lawful.{Lawful}
use Rattle.theorems.proofs.Choosing.{sound_steady, chosen-choice}

module _ (s : State) (whole : sound s ≡ true) (on : scheduling_on s ≡ true) where
  w : Lawful nobody s
  w = (sound_steady s whole).lawful

  headed : Empty s.ready ⊎ ((p : ℕ) × Last s.ready p) → heads_highest s ≡ true
  unfolding heads_highest
  headed (inl e) =
      let none : none_ready s ≡ true = every_below-from (λ p. eqb (length (ready_list p s)) 0) 8 (λ p h. eq-eqb (length (ready_list p s)) 0 (e.all p)) in
      rw none (eq-eqb s.chosen nobody (chosen-choice s whole on ∙ ap (λ (l : List ℕ). head_or l nobody) e.is))
  headed (inr (p, h)) = rw (ready-some, ne_eqb s.chosen nobody someone) (some_below-from (λ p. heads p s) 8 p below heads_p)
    where
      below : p < 8
      below = omega (arith, h.within, w.placed.ready)

      ready-some : none_ready s ≡ false
      ready-some =
          untrue (none_ready s)
          (λ e. absurd (omega (arith, h.some, eqb-true (length (ready_list p s)) 0 (every_below-at (λ p. eqb (length (ready_list p s)) 0) 8 p below e))))

      is_head : s.chosen ≡ head_or (ready_list p s) nobody
      is_head = chosen-choice s whole on ∙ ap (λ (l : List ℕ). head_or l nobody) h.is

      someone : s.chosen ≡ nobody → ⊥
      someone e =
          let x : ℕ = get_or (ready_list p s) 0 0 in
          let is : s.chosen ≡ x = is_head ∙ head_first (ready_list p s) nobody h.some in
          let on_List = count-there (ready_list p s) 0 h.some in
          omega (arith, count_all-at x s.ready p, w.placed.known x (omega arith))

      heads_p : heads p s ≡ true
      heads_p =
          both (both (lt-ltb 0 (length (ready_list p s)) h.some) (eq-eqb (head_or (ready_list p s) nobody) s.chosen (sym is_head)))
          (every_below-from (λ r. ltb p r implies eqb (length (ready_list r s)) 0) 8 (λ r k. higher r (ltb p r) refl))
        where
          higher : (r : ℕ) (b : Bool) → ltb p r ≡ b → b implies eqb (length (ready_list r s)) 0 ≡ true
          higher r true e = eq-eqb (length (ready_list r s)) 0 (h.above r (ltb-true p r e))
          higher r false e = refl

  pub chosen-heads_highest : heads_highest s ≡ true
  chosen-heads_highest = headed (highest s.ready)
