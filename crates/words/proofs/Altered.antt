-- An image that stays as it is, by a word that changes nothing there.
use mathlib.Core.Path.{◌≡◌, refl, sym}
use mathlib.Core.List.{List}
use Prim.Native.Nat.{ℕ}
use Rattle.model.specs.State.{State}
use Rattle.model.specs.Layout.{view}
use Rattle.fields.specs.Fields.{Sized, Alters}

pub unaltered : {s : List ℕ} → Sized s → (f : State → State) → f (view s) ≡ view s → Alters s f s
unaltered size f e = record { size = size; view = sym e; links = refl }
