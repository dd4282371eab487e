use Rattle.model.specs.declared.tables.Thread.{Thread}
use Rattle.model.specs.Parts.{with_limit, with_result, with_wait}
use Rattle.fields.proofs.Parts.{part_twice, threads-part}
use Rattle.fields.proofs.threads.set_wait.Goals as goal

pub returns : goal.returns
returns c =
    let a = c.args in
    let limited : Thread → Thread = with_limit a.limit in
    let answered : Thread → Thread = with_result a.res in
    let masked : Thread → Thread = λ t. with_wait t.limit t.result a.mask t.mode t in
    let two = part_twice threads-part a.i limited answered c.set_limit.ensures c.set_result.ensures in
    let three = part_twice threads-part a.i (λ t. answered (limited t)) masked two c.set_mask.ensures in
    let ended : Thread → Thread = λ t. with_wait t.limit t.result t.mask a.mode t in
    part_twice threads-part a.i (λ t. masked (answered (limited t))) ended three c.set_mode.ensures
