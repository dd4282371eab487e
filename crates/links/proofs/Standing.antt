-- Which list an id stands on: the walk back along its list ends at the first, whose list is then found among the firsts. Each step back
-- stays on the list and shortens the way.
use mathlib.Core.Path.{◌≡◌, refl, sym, ◌∙◌, ap, subst}
use mathlib.Core.List.{List, [], ◌∷◌, ◌++◌}
use Prim.Native.Nat.{ℕ, suc, ◌+◌, ◌-◌, ◌<◌, ◌≤◌}
use native.Mathlib.Decide.{dec_lt}
use native.Mathlib.Omega.{arith}
use lib.ListN.{length, get_or, drop, length-append, length-map}
use lib.Seq.{get_or-drop}
use Rattle.sequences.specs.Lists.{count, count_all, first_at, among, reversed}
use Rattle.sequences.specs.Links.{along, leads, Chain, Linked}
use Rattle.sequences.proofs.Counts.{count-append, count-first, count_all-place}
use Rattle.sequences.proofs.Parts.{counted_below, list_is, list-none}
use Rattle.sequences.proofs.Removal.{split_counted}
use Rattle.sequences.proofs.Reversed.{reversed-at, reversed-put, count-reversed, count_all-reversed}
use Rattle.sequences.proofs.Chains.{chain_rest, chain_along}
use Rattle.sequences.proofs.Halves.{member_inside, once-reversed, list_short}
use Rattle.links.specs.Cells.{first_with}
use Rattle.links.specs.Walks.{Together}
use Rattle.links.proofs.Neighbours.{first_found, first_unfound}

nearer : (g : ℕ → ℕ) (x p n : ℕ) (b : List ℕ) → Chain g x b → length b ≤ n → g x ≡ suc p
    → (0 < count p b) × (length (along g n (g p)) < length (along g n (g x)))
nearer g x p n [] c h e = absurd (omega arith)
nearer g x p n (q ∷ b) c h e =
    let same : q ≡ p = omega (arith, c.0) in
    (subst (λ (w : ℕ). 0 < count w (q ∷ b)) same (count-first q b), rw (← same, chain_along g x n (q ∷ b) c h, chain_along g q n b c.1 (omega arith)) (omega arith))

module _ {n m : ℕ} {s : List ℕ} {ls : List (List ℕ)} (v : Linked n m s ls) where
  abbrev back : ℕ → ℕ
  back = leads (drop (n + m) s)

  -- where the link back of x leads to p, p stands before x on its list
  back_on : (x p z : ℕ) → back x ≡ suc p → 0 < count x (get_or ls z [])
      → (0 < count p (get_or ls z [])) × (length (along back n (back p)) < length (along back n (back x)))
  back_on x p z e h =
      let l = get_or ls z [] in
      let r = split_counted x l h in
      let a = reversed r.1 in
      let b = reversed r.0 in
      let parts : reversed l ≡ a ++ (x ∷ b) = ap reversed r.2 ∙ reversed-put r.0 x r.1 in
      let chain = rw (reversed-at ls z ∙ parts) at (v.back.chains z (omega (arith, counted_below x ls z h, length-map ls reversed))) in
      let short = rw (reversed-at ls z ∙ parts) at (list_short (once-reversed v.apart) z) in
      let p-on = nearer back x p n b (chain_rest back (n + z) a (x ∷ b) chain).1 (omega (arith, length-append a (x ∷ b))) e in
      (omega (arith, p-on.0, count-reversed p l, ap (count p) parts, count-append p a (x ∷ b)), p-on.1)

  pub together_start : (i : ℕ) → i < n → Together n ls i i
  together_start i h = record { known = h; same = refl }

  module _ {i x : ℕ} (t : Together n ls i x) where
    module _ {p : ℕ} (more : get_or s (n + m + x) 0 ≡ 0 → ⊥) (e : p ≡ get_or s (n + m + x) 0 - 1) where
      leads_to : back x ≡ suc p
      leads_to = get_or-drop (n + m) s x 0 ∙ omega arith

      on_list : (z : ℕ) × (0 < count x (get_or ls z []))
      on_list =
          elim (dec_lt 0 (count_all x ls)) [
            | yes h ↦ count_all-place x ls h
            | no h ↦ absurd (omega (arith, leads_to, v.back.zeros x t.known (count_all-reversed x ls ∙ omega arith)))
          ]

      pub together_on : Together n ls i p
      together_on =
          let z = on_list.0 in
          let r = back_on x p z leads_to on_list.1 in
          record {
            known = member_inside v.apart z p r.0;
            same = list_is p ls z (v.apart.once p) r.0 ∙ sym (list_is x ls z (v.apart.once x) on_list.1) ∙ t.same;
          }

      pub together_closer : length (along back n (back p)) < length (along back n (back x))
      together_closer = (back_on x p on_list.0 leads_to on_list.1).1

    pub together_end : get_or s (n + m + x) 0 ≡ 0 → first_with m n (x + 1) s ≡ first_at (among i) ls
    together_end e =
        elim (dec_lt 0 (count_all x ls)) [
          | yes h ↦
              let z = count_all-place x ls h in
              first_found v x z.0 z.1 e ∙ sym (list_is x ls z.0 (v.apart.once x) z.1) ∙ t.same
          | no h ↦ first_unfound v x (omega arith) ∙ sym (list-none x ls (omega arith)) ∙ t.same
        ]
