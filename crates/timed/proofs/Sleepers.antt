-- Who has a limit stands on a list that is no ready list: whether that is the sleep list is told by the list's first, or by a search.
use Rattle.std.proofs.Common.{◌≡◌, ℕ, ◌+◌, ◌-◌, ◌<◌, Bool, true, false, cond, eqb, List, sym, ap, ◌∙◌, subst, arith, eq-eqb, ne_eqb}
use native.Mathlib.Decide.{dec_lt}
use Rattle.sequences.specs.Lists.{count, count_all, first_at, among}
use Rattle.sequences.specs.Links.{head_link}
use Rattle.sequences.proofs.Counts.{no_list}
use Rattle.sequences.proofs.Parts.{counted-among, list-told}
use Rattle.model.specs.State.{priority_count, sleep_list}
use Rattle.model.specs.Parts.{list}
use Rattle.model.specs.Words.{sleeps, wake}
use Rattle.model.specs.Layout.{view, linked_lists, lists_of}
use Rattle.layout.proofs.Viewed.{list_linked, counts_linked}
use Rattle.theorems.specs.Leap.{run_out}
use Rattle.words.specs.Images.{Given, On, Does}
use Rattle.words.proofs.Does.{same_word}
use Rattle.words.proofs.Known.{first_on, told-on}

-- woken with the result that goes by it
woken : {b r : List ℕ} (i : ℕ) (asleep : Bool) → asleep ≡ sleeps i (view b) → Does b (wake i (cond asleep 1 2)) r → Does b (run_out i) r
woken {b} i asleep e d = same_word d (run_out i) (ap (λ (t : Bool). wake i (cond t 1 2) (view b)) e)

-- ---- the first of the sleep list

module _ {b : List ℕ} {i link : ℕ} (g : Given b i) (e : link ≡ head_link (list sleep_list (view b))) (own : link ≡ i + 1) where
  pub first_sleeper : On b (priority_count + sleep_list) i
  first_sleeper =
      let it : link - 1 ≡ i = omega arith in
      subst (On b (priority_count + sleep_list)) it (first_on b sleep_list link g.whole (omega arith) e (omega arith))

  pub first_out : {r : List ℕ} → Does b (wake i 1) r → Does b (run_out i) r
  first_out d =
      let on : 0 < count i (list sleep_list (view b)) = rw (list_linked b sleep_list) first_sleeper.on in
      woken i true (sym (counted-among i (list sleep_list (view b)) on)) d

-- ---- the list that a search has told

module _ {b : List ℕ} {i k : ℕ} (g : Given b i) (e : k ≡ first_at (among i) (lists_of b)) where
  pub waiter-on : 0 < count_all i (view b).waits → On b k i
  waiter-on waits =
      told-on g e
      (elim (dec_lt k linked_lists) [
        | yes h ↦ h
        | no h ↦
            absurd (omega (arith, waits, counts_linked b i, no_list i (lists_of b) (omega (arith, e, h, g.whole.links.many))))
      ])

  asleep-told : eqb k (priority_count + sleep_list) ≡ sleeps i (view b)
  asleep-told =
      rw e (list-told i (lists_of b) (priority_count + sleep_list) (g.whole.links.apart.once i) (omega (arith, g.whole.links.many)))
      ∙ ap (among i) (sym (list_linked b sleep_list))

  pub sleeper_out : {r : List ℕ} → k ≡ priority_count + sleep_list → Does b (wake i 1) r → Does b (run_out i) r
  sleeper_out own d = woken i true (sym (eq-eqb k 8 own) ∙ asleep-told) d

  pub waiter_out : {r : List ℕ} → (k ≡ priority_count + sleep_list → ⊥) → Does b (wake i 2) r → Does b (run_out i) r
  waiter_out other d = woken i false (sym (ne_eqb k 8 other) ∙ asleep-told) d
