-- The first list that holds the thread is the only one; where there is none, nothing changes.
use mathlib.Core.Path.{◌≡◌, sym, ◌∙◌, ap}
use mathlib.Core.List.{List, [], map}
use Prim.Native.Nat.{ℕ, ◌<◌}
use native.Mathlib.Omega.{arith}
use lib.ListN.{length, get_or, length-map, get_or-map}
use Rattle.sequences.specs.Lists.{among, count, count_all, first_at, without}
use Rattle.sequences.proofs.Counts.{count_all-at, first-list, no_list}
use Rattle.sequences.proofs.Removal.{map-without-one, map-without-none}
use Rattle.model.specs.State.{State}
use Rattle.model.specs.Parts.{with_waits}
use Rattle.model.specs.Before.{view, ids_of, no_ids}
use Rattle.table.proofs.Views.{meets_word, untouched}
use Rattle.table.proofs.leaving.leave_other.Goals as goal

pub leave_list-requires : goal.leave_list-requires
leave_list-requires c =
    let j = c.list_of-j.result in record { orderly_table = c.requires.orderly_table; j_bound = (c.if-j-lt-LIST_COUNT.true, rw (← get_or-map ids_of c.args.t.waits j no_ids) (omega (arith, c.requires.waits_bound, count_all-at c.args.i (map ids_of c.args.t.waits) j))) }

pub returns-then-j-lt-LIST_COUNT : goal.returns-then-j-lt-LIST_COUNT
unfolding view
returns-then-j-lt-LIST_COUNT c =
    let i = c.args.i in
    let ls = map ids_of c.args.t.waits in
    let j = c.list_of-j.result in
    let e = c.list_of-j.ensures in
    let many : length ls ≡ 18 = length-map c.args.t.waits ids_of ∙ c.requires.orderly_table.waits in
    let before : first_at (among i) ls < length ls = rw (← e) (omega (arith, c.if-j-lt-LIST_COUNT.true)) in
    let here : 0 < count i (get_or ls j []) = rw e (first-list i ls before) in
    meets_word (λ (x : State). with_waits (map (without i) x.waits) x) c.leave_list.ensures
    (λ rows. ap (λ (l : List (List ℕ)). with_waits l (view c.args.t rows)) (sym (map-without-one i j ls c.requires.waits_bound here)))

pub returns-else-j-lt-LIST_COUNT : goal.returns-else-j-lt-LIST_COUNT
unfolding view
returns-else-j-lt-LIST_COUNT c =
    let i = c.args.i in
    let ls = map ids_of c.args.t.waits in
    let many : length ls ≡ 18 = length-map c.args.t.waits ids_of ∙ c.requires.orderly_table.waits in
    let none : count_all i ls ≡ 0 = no_list i ls (rw (← c.list_of-j.ensures) (omega (arith, c.if-j-lt-LIST_COUNT.false))) in
    untouched (λ (x : State). with_waits (map (without i) x.waits) x) c.requires.orderly_table
    (λ rows. ap (λ (l : List (List ℕ)). with_waits l (view c.args.t rows)) (sym (map-without-none i ls none)))
