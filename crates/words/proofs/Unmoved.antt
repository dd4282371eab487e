-- Whatever fits the contract of choosing moves nobody: who is preempted keeps its place, and a program that puts it at the tail doesn't fit. So
-- threads stand as they stood, and words can be said of the image as before.
use mathlib.Core.Path.{◌≡◌, refl, sym, ap, ◌∙◌}
use mathlib.Core.Bool.{Bool, true, false, cond, not, ◌&&◌}
use mathlib.Core.List.{List, [], ◌∷◌}
use Prim.Native.Nat.{ℕ}
use lib.Dec.{eqb}
use Rattle.model.specs.State.{State, scheduling_on}
use Rattle.model.specs.Parts.{with_chosen, alter_thread, refilled}
use Rattle.model.specs.Words.{choice, choose, become_ready}
use Rattle.model.specs.Layout.{view}
use Rattle.placed.specs.Placed.{Placed}
use Rattle.placed.proofs.Standing.{unmoved_placed, alter-placed}
use Rattle.fields.specs.Fields.{Alters}
use Rattle.words.specs.Images.{Whole, Does}
use Rattle.words.proofs.Does.{altered_does}

-- all lists, the ready lists first
abbrev pub lists : State → List (List (List ℕ))
lists s = s.ready ∷ s.waits ∷ []

by_test : (s : State) (t : Bool) → lists (cond t (with_chosen (choice s) (alter_thread (choice s) refilled s)) s) ≡ lists s
by_test s true = refl
by_test s false = refl

unmoved : (s : State) → lists (choose s) ≡ lists s
unfolding choose
unmoved s = by_test s (scheduling_on s && not (eqb (choice s) s.chosen))

pub nobody-moved : {b r : List ℕ} → Alters b choose r → lists (view r) ≡ lists (view b)
nobody-moved {b} a = ap lists a.view ∙ unmoved (view b)

pub preempting_unfit : (b r : List ℕ) → (lists (become_ready (view b).chosen (choose (view b))) ≡ lists (view b) → ⊥)
    → view r ≡ become_ready (view b).chosen (choose (view b)) → Alters b choose r → ⊥
preempting_unfit b r moves e a = moves (ap lists (sym e) ∙ nobody-moved {b = b} a)

choose-placed : (s : State) → Placed s → Placed (choose s)
unfolding choose
choose-placed s w = either_way (scheduling_on s && not (eqb (choice s) s.chosen))
  where
    either_way : (t : Bool) → Placed (cond t (with_chosen (choice s) (alter_thread (choice s) refilled s)) s)
    either_way true = unmoved_placed refl refl refl (alter-placed (choice s) refilled s (λ t. refl) w)
    either_way false = w

pub chosen_does : {b r : List ℕ} → Whole b → Alters b choose r → Does b choose r
chosen_does {b} w a = altered_does w a (choose-placed (view b) w.placed)
