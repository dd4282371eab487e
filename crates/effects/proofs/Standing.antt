-- A record stored for one that stands on no list.
use mathlib.Core.List.{List}
use Prim.Native.Nat.{ℕ, ◌<◌}
use native.Mathlib.Omega.{arith}
use Rattle.model.specs.declared.tables.Thread.{Thread}
use Rattle.model.specs.Parts.{alter_thread}
use Rattle.model.specs.Layout.{view}
use Rattle.placed.proofs.Standing.{unready_placed}
use Rattle.fields.specs.Fields.{Alters}
use Rattle.words.specs.Images.{Does, Off}
use Rattle.words.proofs.Does.{altered_does}

pub stored_does : {b r : List ℕ} {i : ℕ} (x : Thread) → Off b i → x.current < 8 → Alters b (alter_thread i (λ _. x)) r
    → Does b (alter_thread i (λ _. x)) r
stored_does {b} {i = i} x o below a =
    let w = o.given.whole in
    altered_does w a (unready_placed i (λ _. x) (view b) below (omega (arith, o.off)) w.placed)
