use mathlib.Core.Path.{sym, ap, ◌∙◌}
use native.Mathlib.Omega.{arith}
use lib.ListN.{get_or-eq_default}
use Rattle.std.proofs.Common.{rules}
use Rattle.model.specs.declared.tables.Semaphore.{Semaphore}
use Rattle.model.specs.State.{absent_semaphore}
use Rattle.model.specs.Layout.{view}
use Rattle.layout.proofs.Viewed.{many_semaphores}
use Rattle.words.proofs.Named.{of_any}
use Rattle.words.proofs.objects.count.Goals as goal

pub returns : goal.returns
returns c =
    let a = c.args in
    let b = a.image.now in
    let s = view b in
    let named = c.of_named.ensures in
    of_any 8 a.o (λ h. search rules)
    (λ h. named.unnamed h ∙ sym (ap (λ (x : Semaphore). x.count) (get_or-eq_default s.semaphores absent_semaphore {n = a.o} (omega (arith, many_semaphores b, h)))))
