-- What a list asks, place by place: what has been found so far, and what the list asks from the place on, are together what it asks.
use mathlib.Core.Path.{◌≡◌, refl}
use mathlib.Core.Bool.{Bool, true, false, ◌&&◌, ◌||◌, and-true, and-false}
use mathlib.Core.List.{List, map}
use Prim.Native.Nat.{ℕ, suc, ◌+◌, ◌<◌, ◌≤◌}
use native.Mathlib.Numerals.{add-one}
use native.Mathlib.Omega.{arith}
use lib.Dec.{eqb, leb, ltb}
use lib.ListN.{length, get_or, drop, length-map, get_or-map, drop_of_length-le}
use lib.Seq.{drop-cons}
use Rattle.sequences.specs.Lists.{every}
use Rattle.sequences.proofs.Bounds.{falls-behind, falls_step, falls-end}
use Rattle.model.specs.declared.tables.Thread.{Thread}
use Rattle.model.specs.Before.{thread_at}
use Rattle.soundness.specs.Lists.{member_fits, list_asks, of_object}

one-before-rest : (a f e s z o r : Bool) → a && ((f && e) && (s || ((z || o) && r))) ≡ (a && (f && ((s || z) || o))) && (e && (s || r))
one-before-rest false f e s z o r = refl
one-before-rest true false e s z o r = refl
one-before-rest true true e true z o r = refl
one-before-rest true true true false z o r = refl
one-before-rest true true false false z o r = rw (and-false (z || o))

module _ (kind mark : ℕ) (threads : List Thread) (ids : List ℕ) where
  abbrev fits : ℕ → Bool
  fits i = member_fits kind mark (thread_at threads i)

  abbrev level : ℕ → ℕ
  level i = (thread_at threads i).current

  -- from place k on, behind a thread of current priority `before`
  unfoldable pub rest_asks : ℕ → ℕ → Bool
  rest_asks k before = every fits (drop k ids) && (ltb kind of_object || falls-behind k before (drop k (map level ids)))

  pub asks_all : (before : ℕ) → list_asks kind mark threads ids ≡ rest_asks 0 before
  unfolding list_asks rest_asks falls-behind
  asks_all before = refl

  pub asks_step : (k before : ℕ) (a : Bool) → k < length ids
      → a && rest_asks k before
      ≡ (a && (fits (get_or ids k 0) && ((ltb kind of_object || eqb k 0) || leb (level (get_or ids k 0)) before)))
      && rest_asks (k + 1) (level (get_or ids k 0))
  unfolding rest_asks
  asks_step k before a h =
      let i : k < length (map level ids) = omega (arith, length-map ids level) in
      let at = get_or-map level ids k 0 in
      rw (falls_step (map level ids) (level 0) k before true i, at, drop-cons ids k 0 h, add-one k)
      (one-before-rest a (fits (get_or ids k 0)) (every fits (drop (suc k) ids)) (ltb kind of_object) (eqb k 0) (leb (level (get_or ids k 0)) before)
      (falls-behind (suc k) (level (get_or ids k 0)) (drop (suc k) (map level ids))))

  pub asks_end : (k before : ℕ) (a : Bool) → length ids ≤ k → a && rest_asks k before ≡ a
  unfolding rest_asks
  asks_end k before a h =
      let i : length (map level ids) ≤ k = omega (arith, length-map ids level) in
      rw (drop_of_length-le ids {i = k} h, falls-end (map level ids) k before true i) (by_kind (ltb kind of_object))
    where
      by_kind : (s : Bool) → a && (s || true) ≡ a
      by_kind true = and-true a
      by_kind false = and-true a
