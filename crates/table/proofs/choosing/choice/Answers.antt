use mathlib.Core.Path.{◌≡◌, sym, ◌∙◌, ap}
use mathlib.Core.List.{List, []}
use Prim.Native.Nat.{ℕ, suc, ◌-◌, ◌<◌}
use native.Mathlib.Omega.{arith}
use lib.ListN.{get_or, take}
use lib.Seq.{get_or-take, take_all}
use Rattle.sequences.specs.Lists.{last_nonempty, take_each, head_or}
use Rattle.sequences.proofs.Highest.{last_below, last-here, head_first}
use Rattle.rows.proofs.Rows.{lists-many, list_at, length_at}
use Rattle.model.specs.State.{nobody}
use Rattle.table.proofs.choosing.choice.Goals as goal

pub loop-p-init : goal.loop-p-init
loop-p-init c =
    let ls = take_each c.args.lengths c.args.rows in
    sym (ap last_nonempty (take_all 8 ls (omega (arith, lists-many c.requires))))

pub returns-then-lengths-p-gt0 : goal.returns-then-lengths-p-gt0
returns-then-lengths-p-gt0 c =
    let l = c.loop-p in
    let p = l.p - 1 in
    let ls = take_each c.args.lengths c.args.rows in
    let here : p < 8 = omega arith in
    let many = lists-many c.requires in
    let long = length_at c.requires p here in
    let full : 0 < get_or c.args.lengths p 0 = c.if-lengths-p-gt0.true in
    let up : suc p ≡ l.p = omega arith in
    let last : last_nonempty ls ≡ get_or ls p [] = l.invariant ∙ ap (λ (n : ℕ). last_nonempty (take n ls)) (sym up) ∙ last-here ls p (omega arith) (omega arith) in
    sym
    (ap (λ (k : List ℕ). head_or k nobody) last
    ∙ head_first (get_or ls p []) nobody (omega arith)
    ∙ rw (list_at c.requires p here) (get_or-take (get_or c.args.lengths p 0) (get_or c.args.rows p []) 0 0 full))

pub loop-p-preserved : goal.loop-p-preserved
loop-p-preserved c =
    let l = c.loop-p in
    let p = l.p - 1 in
    let ls = take_each c.args.lengths c.args.rows in
    let here : p < 8 = omega arith in
    let many = lists-many c.requires in
    let long = length_at c.requires p here in
    let up : suc p ≡ l.p = omega arith in
    l.invariant ∙ ap (λ (n : ℕ). last_nonempty (take n ls)) (sym up) ∙ last_below ls p (omega arith) (omega (arith, c.if-lengths-p-gt0.false))
