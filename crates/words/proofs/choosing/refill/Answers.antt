-- What is left becomes what the quantum is; of nobody there is nothing to write.
use mathlib.Core.Path.{ap}
use mathlib.Core.List.{List}
use native.Mathlib.Omega.{arith}
use Rattle.sequences.proofs.Places.{alter_out, alter_alike}
use Rattle.model.specs.declared.tables.Thread.{Thread}
use Rattle.model.specs.State.{absent_thread}
use Rattle.model.specs.Parts.{with_threads, with_left, alter_thread, refilled, thread}
use Rattle.model.specs.Layout.{view}
use Rattle.fields.proofs.Parts.{same_word}
use Rattle.layout.proofs.Viewed.{many-threads}
use Rattle.words.proofs.Altered.{unaltered}
use Rattle.words.proofs.choosing.refill.Goals as goal

pub returns-then-i-lt-THREAD_COUNT : goal.returns-then-i-lt-THREAD_COUNT
returns-then-i-lt-THREAD_COUNT c =
    let b = c.args.image.now in
    let q = c.quantum-all in
    same_word c.set_left.ensures (alter_thread c.args.c refilled)
    (ap (λ (l : List Thread). with_threads l (view b))
    (alter_alike (with_left q.result) refilled absent_thread (view b).threads c.args.c
    (ap (λ x. with_left x (thread c.args.c (view b))) q.ensures)))

pub returns-else-i-lt-THREAD_COUNT : goal.returns-else-i-lt-THREAD_COUNT
returns-else-i-lt-THREAD_COUNT c =
    let b = c.args.image.now in
    unaltered c.told-image (alter_thread c.args.c refilled)
    (ap (λ (l : List Thread). with_threads l (view b)) (alter_out refilled c.args.c (view b).threads (omega (arith, many-threads b, c.if-i-lt-THREAD_COUNT.false))))
