use mathlib.Core.Path.{◌≡◌, ◌∙◌}
use mathlib.Core.Bool.{true}
use mathlib.Core.List.{List, []}
use Prim.Native.Nat.{ℕ, ◌<◌, ◌≤◌}
use borrow.Author.Rules.{rules}
use native.Mathlib.Omega.{arith}
use lib.ListN.{length, get_or, take, length-take}
use Rattle.sequences.specs.Lists.{take_each, every_below}
use Rattle.sequences.proofs.Tests.{every_below-at}
use Rattle.sequences.proofs.Places.{take_each-at, length-take_each}
use Rattle.soundness.specs.Lists.{list_fits}
use Rattle.soundness.proofs.Fitting.{fitting}
use Rattle.soundness.proofs.Counting.{up_to_more}
use Rattle.soundness.proofs.Walking.{walking_none, walking_more, walking_all}
use Rattle.soundness.proofs.walks.walk_ready.Invariants.{asks_at}
use Rattle.soundness.proofs.walks.walk_ready.Goals as goal

-- there are eight lists
many : (lengths : List ℕ) (rows : List (List ℕ)) → length lengths ≡ 8 → length rows ≡ 8 → length (take_each lengths rows) ≡ 8
many lengths rows wide tall = length-take_each lengths rows (omega arith) ∙ wide

-- the turn's list fits
fits-there : (lengths : List ℕ) (rows : List (List ℕ)) (p : ℕ) → every_below 8 (λ p. list_fits (get_or lengths p 0) (get_or rows p [])) ≡ true → p < 8
    → list_fits (get_or lengths p 0) (get_or rows p []) ≡ true
fits-there lengths rows p e h = every_below-at (λ p. list_fits (get_or lengths p 0) (get_or rows p [])) 8 p h e

pub loop-p-init : goal.loop-p-init
loop-p-init c = walking_none _ _ c.requires.counts_up_to

pub walk_ids-one-requires : goal.walk_ids-one-requires
walk_ids-one-requires c = record { ids_value = fits-there c.args.lengths c.args.rows c.loop-p.p c.requires.p_value c.loop-p-test.true; counts_up_to = up_to_more (omega arith) c.loop-p.invariant.within }

pub loop-p-preserved : goal.loop-p-preserved
loop-p-preserved c =
    let a = c.args in
    let p = c.loop-p.p in
    let n = get_or a.lengths p 0 in
    let row = get_or a.rows p [] in
    let w = fitting n row (fits-there c.args.lengths c.args.rows c.loop-p.p c.requires.p_value c.loop-p-test.true) in
    let wide : length a.lengths ≡ 8 = search rules in
    let tall : length a.rows ≡ 8 = search rules in
    let at = take_each-at a.lengths a.rows p (omega arith) (omega arith) in
    let room : length (take n row) ≤ 16 = rw length-take (omega arith) in
    let asks = asks_at a.threads.now a.rows a.lengths in
    let lists = take_each a.lengths a.rows in
    let below : p < length lists = omega (arith, many c.args.lengths c.args.rows (search rules) (search rules)) in
    walking_more asks lists c.loop-p.invariant below (rw at room) (rw at c.walk_ids-one.ensures)

pub returns : goal.returns
returns c =
    let end : c.loop-p.p ≡ 8 = omega arith in
    walking_all _ _ (rw end at c.loop-p.invariant) (many c.args.lengths c.args.rows (search rules) (search rules))
