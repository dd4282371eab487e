use mathlib.Core.Path.{◌≡◌, sym, ◌∙◌}
use native.Mathlib.Omega.{arith}
use lib.ListN.{get_or-eq_default}
use Rattle.std.proofs.Common.{rules}
use Rattle.model.specs.State.{absent_mutex}
use Rattle.model.specs.Layout.{view}
use Rattle.layout.proofs.Viewed.{many_mutexes}
use Rattle.words.proofs.Named.{of_any}
use Rattle.words.proofs.objects.mutex.Goals as goal

pub returns : goal.returns
returns c =
    let a = c.args in
    let b = a.image.now in
    let s = view b in
    let named = c.of_named.ensures in
    let zero : c.default.result ≡ absent_mutex = search rules in
    of_any 4 a.o (λ h. search rules) (λ h. named.unnamed h ∙ zero ∙ sym (get_or-eq_default s.mutexes absent_mutex {n = a.o} (omega (arith, many_mutexes b, h))))
