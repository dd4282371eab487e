-- An image on which a call is accepted: the thread that runs is ready, and an effect by its number is the call's own. A change of what isn't a
-- thread or a link moves nobody.
use mathlib.Core.Path.{◌≡◌}
use mathlib.Core.Bool.{false}
use mathlib.Core.List.{List}
use mathlib.Core.Option.{some}
use Prim.Native.Nat.{ℕ}
use Rattle.sequences.proofs.Parts.{counted_any}
use Rattle.model.specs.declared.requests.Request.{Request}
use Rattle.model.specs.State.{State}
use Rattle.model.specs.Calls.{Call, numbered, nobody_runs}
use Rattle.model.specs.Layout.{view}
use Rattle.placed.proofs.Standing.{unmoved_placed}
use Rattle.theorems.specs.Allowed.{Allowed}
use Rattle.theorems.specs.Effect.{effect_of, effect}
use Rattle.theorems.proofs.Allowing.{steady, running_below}
use Rattle.theorems.proofs.Numbered.{same_effect}
use Rattle.theorems.proofs.Running.{running-ready}
use Rattle.fields.specs.Fields.{Alters}
use Rattle.words.specs.Images.{Whole, Does, Ready}
use Rattle.words.proofs.Does.{altered_does, same_word}

pub running : {c : Call} {q : Request} {b : List ℕ} {i : ℕ} → i ≡ (view b).chosen → Whole b → Allowed c q (view b) → nobody_runs (view b) ≡ false → Ready b i
running {b = b} e w a runs =
    rw e
    (record {
      given = record { whole = w; thread = running_below a runs };
      ready = counted_any (view b).chosen (view b).ready (running-ready (view b) (steady a) runs);
    })

pub does_effect : (q : Request) (n : ℕ) (c : Call) → q.call ≡ n → numbered n ≡ some c → {b r : List ℕ} → Does b (effect_of c q) r → Does b (effect q) r
does_effect q n c number names {b} d = same_word d (effect q) (same_effect q n c number names (view b))

pub unmoved_does : {b r : List ℕ} {f : State → State} → Whole b → Alters b f r
    → (f (view b)).threads ≡ (view b).threads → (f (view b)).ready ≡ (view b).ready → (f (view b)).waits ≡ (view b).waits → Does b f r
unmoved_does {b} w a threads ready waits = altered_does w a (unmoved_placed threads ready waits w.placed)
