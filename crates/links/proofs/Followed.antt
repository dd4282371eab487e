-- One list followed by links of which nothing is known: what has been passed is the start of the list that is read, so that orderly links
-- rule out every fault that ends the walk, and a walk that comes to the end has followed a list more. Before that, what a walk tells, and where
-- links stand in bytes.
use mathlib.Core.Path.{◌≡◌, refl, sym, ◌∙◌, ap, subst}
use mathlib.Core.Bool.{true, false, ◌&&◌, false≢true}
use mathlib.Core.List.{List, [], ◌∷◌, ◌++◌, append_assoc, append-nil}
use Prim.Native.Nat.{ℕ, suc, ◌+◌, ◌-◌, ◌<◌, ◌≤◌}
use native.Mathlib.Nat.{sub-zero}
use native.Mathlib.Decide.{ℕ_discrete, dec_lt}
use native.Mathlib.Omega.{arith}
use borrow.Author.Tests.{eqb-true, eqb-false, eq-eqb, le-leb}
use lib.Dec.{eqb, leb}
use lib.ListN.{length, get_or, set, take, drop, length-drop, length-map, get_or-eq_default}
use lib.Seq.{get_or-take, get_or-drop, length-take-le}
use Rattle.sequences.specs.Lists.{snoc, reversed, count, count_all}
use Rattle.sequences.specs.Bytes.{part}
use Rattle.sequences.specs.Links.{along, leads, lists_in, head_link, last_cell, Chain, Orderly}
use Rattle.sequences.proofs.Counts.{count-append, count-first, count_mid, count-one, count_other}
use Rattle.sequences.proofs.Counts.{count_all-append, count_all-at, count_all-place, count_all_upto}
use Rattle.sequences.proofs.Tests.{both, right, neither, or_cases}
use Rattle.sequences.proofs.Slices.{take_grown}
use Rattle.sequences.proofs.Reversed.{reversed-append, reversed-put, reversed-at, count-reversed}
use Rattle.sequences.proofs.Lending.{part_shifted}
use Rattle.sequences.proofs.Chains.{last_snoc, along-none, along-next, chain_at, chain_after, chain_read}
use Rattle.sequences.proofs.Halves.{member_inside}
use Rattle.sequences.proofs.Linked.{many-lists, lists_at}
use Rattle.links.specs.Noted.{leads_anew, Following, Through, Tells}
use Rattle.links.proofs.Marks.{mark-none, unmarked, marked-counted, mark-empty, marked-on}

-- ---- what a walk tells

pub refused : {through orderly : Type 0} → (orderly → ⊥) → Tells false through orderly
refused d = record { passed = λ e. absurd (false≢true e); failed = λ e. d }

pub passes : {through orderly : Type 0} → through → Tells true through orderly
passes p = record { passed = λ e. p; failed = λ e. absurd (false≢true (sym e)) }

pub told : {through orderly : Type 0} (a b : ℕ) → (a ≡ b → through) → ((a ≡ b → ⊥) → orderly → ⊥) → Tells (eqb a b) through orderly
told a b p d = record { passed = λ e. p (eqb-true a b e); failed = λ e. d (eqb-false a b e) }

-- ---- links that stand in a part of bytes

module _ (at n m : ℕ) (bytes : List ℕ) (fits : at + (n + m + (n + m)) ≤ length bytes) where
  abbrev s : List ℕ
  s = part at (n + m + (n + m)) bytes

  pub part-size : length s ≡ n + m + (n + m)
  part-size = length-take-le (n + m + (n + m)) (drop at bytes) (omega (arith, length-drop at bytes))

  pub reads-ahead : (i c : ℕ) → i ≡ at + c → c < n + m → get_or bytes i 0 ≡ leads (take (n + m) s) c
  reads-ahead i c e h = rw e (part_shifted at (n + m + (n + m)) bytes fits c (omega arith) ∙ sym (get_or-take (n + m) s c 0 h))

  pub reads-back : (i c : ℕ) → i ≡ at + (n + m + c) → c < n + m → get_or bytes i 0 ≡ leads (drop (n + m) s) c
  reads-back i c e h = rw e (part_shifted at (n + m + (n + m)) bytes fits (n + m + c) (omega arith) ∙ sym (get_or-drop (n + m) s c 0))

-- ---- one list

-- on a way whoever leads to z comes right before it
led : (f : ℕ → ℕ) (c : ℕ) (l : List ℕ) → Chain f c l → (x z : ℕ) → 0 < count x (c ∷ l) → f x ≡ suc z → 0 < count z l
led f c [] h x z k e =
    elim (ℕ_discrete x c) [
      | yes q ↦ let there : f c ≡ suc z = rw q at e in absurd (omega (arith, h, there))
      | no d ↦ absurd (omega (arith, count_other x c d))
    ]
led f c (y ∷ ys) h x z k e =
    elim (ℕ_discrete x c) [
      | yes q ↦
          let there : f c ≡ suc z = rw q at e in
          let same : z ≡ y = omega (arith, h.0, there) in
          subst (λ (w : ℕ). 0 < count w (y ∷ ys)) (sym same) (count-first y ys)
      | no d ↦
          let on = led f y ys h.1 x z (omega (arith, count_other x c d, count-append x (c ∷ []) (y ∷ ys))) e in
          omega (arith, count-append z (y ∷ []) ys)
    ]

pub follow_start : {n m j : ℕ} {s marks : List ℕ} → Through n m j s marks → Following n m j s marks 0 0 (leads (take (n + m) s) (n + j))
follow_start {n} {m} {j} {s} t =
    let a = take j (lists_in n m s) in
    record {
      within = omega arith;
      passed = [];
      onward = rw (sub-zero n) (lists_at n (take (n + m) s) j);
      here = refl;
      last = refl;
      back = λ c e. e;
      apart =
          record {
            once = λ x. omega (arith, t.apart.once x, count_all-append x a ([] ∷ []));
            known = λ x h. omega (arith, t.apart.known x h, count_all-append x a ([] ∷ []));
          };
      marked = record { size = t.marked.size; at = λ x h. t.marked.at x h ∙ sym (mark-empty x a) };
    }

module _ {n m j : ℕ} {s marks : List ℕ} {k came link : ℕ} (w : Following n m j s marks k came link) where
  abbrev lists : List (List ℕ)
  lists = lists_in n m s

  abbrev l : List ℕ
  l = get_or lists j []

  abbrev before : List (List ℕ)
  before = take j lists

  abbrev ahead : ℕ → ℕ
  ahead = leads (take (n + m) s)

  abbrev behind : ℕ → ℕ
  behind = leads (drop (n + m) s)

  module _ (list : j < m) (v : Orderly n m s) where
    there : j < length lists
    there = omega (arith, v.many)

    leads-back : Chain behind (n + j) (reversed l)
    leads-back = rw (reversed-at lists j) at (v.back.chains j (omega (arith, there, length-map lists reversed)))

  -- ---- no link leads on

  module _ (over : link ≡ 0) where
    all-passed : l ≡ w.passed
    all-passed = w.onward ∙ ap (λ (y : ℕ). w.passed ++ along ahead (n - k) y) over ∙ rw (along-none ahead (n - k)) (append-nil w.passed)

    read_out : Chain ahead (n + j) l
    read_out =
        let e = lists_at n (take (n + m) s) j in
        rw e (chain_read ahead (n + j) n (ap (λ (r : List ℕ). ahead (last_cell (n + j) r)) (sym e ∙ all-passed) ∙ sym w.here ∙ over))

    pub follow_end : {old : List ℕ} → length s ≡ n + m + (n + m) → j < m → Through n m j s old → behind (n + j) ≡ came
        → Through n m (j + 1) s marks
    follow_end size list t e =
        let grown : take (j + 1) lists ≡ snoc w.passed before =
        take_grown lists j [] (omega (arith, many-lists n m s size)) ∙ ap (λ (r : List ℕ). snoc r before) all-passed in
        record {
          within = omega arith;
          marked = rw grown w.marked;
          apart = rw grown w.apart;
          ahead = λ i h.
              elim (ℕ_discrete i j) [
                | yes q ↦ rw q read_out
                | no d ↦ t.ahead i (omega arith)
              ];
          back = λ i h.
              elim (ℕ_discrete i j) [
                | yes q ↦ rw (q, all-passed) (w.back (n + j) e)
                | no d ↦ t.back i (omega arith)
              ];
        }

    pub last_wrong : j < m → (behind (n + j) ≡ came → ⊥) → Orderly n m s → ⊥
    last_wrong list d v = d (chain_at behind (n + j) [] (reversed w.passed) (rw all-passed at (leads-back list v)) ∙ sym w.last)

  -- ---- one leads on

  module _ (more : link ≡ 0 → ⊥) where
    pub too_many : j < m → k ≡ n → Orderly n m s → ⊥
    unfolding along
    too_many list e v =
        let none : n - k ≡ 0 = omega arith in
        let whole : l ≡ w.passed ++ [] = w.onward ∙ ap (λ (d : ℕ). w.passed ++ along ahead d link) none in
        more (w.here ∙ chain_at ahead (n + j) w.passed [] (rw whole at (v.ahead.chains j (there list v))))

    module _ (room : k ≡ n → ⊥) where
      abbrev x : ℕ
      x = link - 1

      abbrev rest : List ℕ
      rest = along ahead (n - (k + 1)) (ahead x)

      parts : l ≡ w.passed ++ (x ∷ rest)
      parts =
          let less : n - k - 1 ≡ n - (k + 1) = omega arith in
          w.onward ∙ rw (along-next ahead (n - k) link (omega (arith, w.within)) more, less)

      pub unknown : n ≤ x → Orderly n m s → ⊥
      unknown h v = let k = member_inside v.apart j x (rw parts (count_mid x w.passed rest)) in omega arith

      pub previous_wrong : j < m → (behind x ≡ came → ⊥) → Orderly n m s → ⊥
      previous_wrong list d v =
          d
          (chain_after behind (n + j) x (reversed rest) (reversed w.passed)
          (rw (parts, reversed-put w.passed x rest) at (leads-back list v))
          ∙ sym w.last)

      module _ (known : x < n) where
        pub twice : (get_or marks x 0 ≡ 0 → ⊥) → Orderly n m s → ⊥
        twice d v =
            let seen = marked-counted x (snoc w.passed before) (rw (← w.marked.at x known) (omega arith)) in
            omega (
              arith,
              v.apart.once x,
              count_all_upto x j lists,
              count_all-append x before (w.passed ∷ []),
              ap (count x) parts,
              count-append x w.passed (x ∷ rest),
              count-first x rest,
            )

        -- who has the last passed as its previous hasn't been met: only one comes behind whom
        pub newcomer : {old : List ℕ} → length s ≡ n + m + (n + m) → j < m → Through n m j s old → (came ≡ 0 → ⊥) → behind x ≡ came
            → get_or marks x 0 ≡ 0
        newcomer size list t some e =
            elim (dec_lt 0 (count_all x (snoc w.passed before))) [
              | yes h ↦ absurd (met (reversed w.passed) refl h)
              | no h ↦ w.marked.at x known ∙ mark-none x (snoc w.passed before) (omega arith)
            ]
          where
            few : length before ≡ j
            few = length-take-le j lists (omega (arith, many-lists n m s size))

            -- on the lists before, whoever leads to z would come before it there
            earlier : (z : ℕ) → behind x ≡ suc z → 0 < count_all x before → 0 < count_all z before
            earlier z f h =
                let r = count_all-place x before h in
                let i = r.0 in
                elim (dec_lt i j) [
                  | yes k ↦
                      let same : get_or before i [] ≡ get_or lists i [] = get_or-take j lists i [] k in
                      let li = get_or lists i [] in
                      let here : 0 < count x li = rw same at r.1 in
                      let on = led behind (n + i) (reversed li) (t.back i k) x z
                      (omega (arith, count-append x ((n + i) ∷ []) (reversed li), count-reversed x li)) f in
                      let c : 0 < count z (get_or before i []) = rw same (omega (arith, count-reversed z li)) in
                      omega (arith, count_all-at z before i)
                  | no k ↦
                      let none : get_or before i [] ≡ [] = get_or-eq_default before [] {n = i} (omega (arith, few)) in
                      let here : 0 < count x [] = rw none at r.1 in
                      absurd (omega arith)
                ]

            met : (rp : List ℕ) → reversed w.passed ≡ rp → 0 < count_all x (snoc w.passed before) → ⊥
            met [] q h = some (w.last ∙ ap head_link q)
            met (z ∷ rs) q h =
                let f : behind x ≡ suc z = e ∙ w.last ∙ ap head_link q in
                let way : Chain behind x (z ∷ rs) = rw q at (w.back x e) in
                let all : (y : ℕ) → count_all y (snoc w.passed before) ≡ count_all y before + count y (z ∷ rs) =
                λ y. omega (arith, count_all-append y before (w.passed ∷ []), count-reversed y w.passed, ap (count y) q) in
                elim (dec_lt 0 (count x (z ∷ rs))) [
                  | yes k ↦
                      let again = led behind z rs way.1 x z k f in
                      omega (arith, w.apart.once z, all z, count-append z (z ∷ []) rs, count-one z)
                  | no k ↦
                      let again = earlier z f (omega (arith, all x)) in
                      omega (arith, w.apart.once z, all z, count-first z rs)
                ]

        pub follow_on : length s ≡ n + m + (n + m) → j < m → get_or marks x 0 ≡ 0 → behind x ≡ came
            → Following n m j s (set marks x (j + 1)) (k + 1) link (ahead x)
        follow_on size list z e =
            let off = unmarked x (snoc w.passed before) (sym (w.marked.at x known) ∙ z) in
            let few : length before ≡ j = length-take-le j lists (omega (arith, many-lists n m s size)) in
            let counts : (y : ℕ) → count_all y (snoc (snoc x w.passed) before) ≡ count y (x ∷ []) + count_all y (snoc w.passed before) =
            λ y.
            omega (
              arith,
              count_all-append y before (snoc x w.passed ∷ []),
              count_all-append y before (w.passed ∷ []),
              count-append y w.passed (x ∷ []),
            ) in
            let turned : reversed (snoc x w.passed) ≡ x ∷ reversed w.passed = reversed-append w.passed (x ∷ []) in
            record {
              within = omega (arith, w.within);
              passed = snoc x w.passed;
              onward = parts ∙ sym (append_assoc w.passed (x ∷ []) rest);
              here = ap ahead (sym (last_snoc (n + j) x w.passed));
              last = rw turned (omega arith);
              back = λ c q. rw turned (q ∙ omega arith, w.back x e);
              apart =
                  record {
                    once = λ y.
                        elim (ℕ_discrete y x) [
                          | yes q ↦ rw q (omega (arith, counts x, count-one x))
                          | no d ↦ omega (arith, counts y, count_other y x d, w.apart.once y)
                        ];
                    known = λ y h. omega (arith, counts y, count_other y x (λ q. omega arith), w.apart.known y h);
                  };
              marked = rw few at (marked-on x w.passed before known (omega (arith, count_all-append x before (w.passed ∷ []))) w.marked);
            }

-- ---- the first of a list

module _ {n m j : ℕ} {s marks : List ℕ} (t : Through n m j s marks) (list : j < m) where
  abbrev first : ℕ
  first = leads (take (n + m) s) (n + j)

  -- nobody, or somebody new, on orderly links
  pub first_old : leads_anew n marks first ≡ false → Orderly n m s → ⊥
  unfolding leads_anew
  first_old e v =
      let w = follow_start t in
      let old = neither (eqb first 0) (leb first n && eqb (get_or marks (first - 1) 0) 0) e in
      let more = eqb-false first 0 old.0 in
      elim (ℕ_discrete 0 n) [
        | yes q ↦ too_many w more list q v
        | no room ↦
            elim (dec_lt (first - 1) n) [
              | yes known ↦
                  twice w more room known
                  (λ z.
                  let there : leb first n && eqb (get_or marks (first - 1) 0) 0 ≡ true =
                  both (le-leb first n (omega arith)) (eq-eqb (get_or marks (first - 1) 0) 0 z) in
                  false≢true (sym old.1 ∙ there)) v
              | no far ↦ unknown w more room (omega arith) v
            ]
      ]

pub first_new : (n : ℕ) (marks : List ℕ) (link : ℕ) → leads_anew n marks link ≡ true → (link ≡ 0 → ⊥) → get_or marks (link - 1) 0 ≡ 0
unfolding leads_anew
first_new n marks link e more =
    or_cases (eqb link 0) (leb link n && eqb (get_or marks (link - 1) 0) 0) e (λ z. absurd (more (eqb-true link 0 z)))
    (λ h. eqb-true (get_or marks (link - 1) 0) 0 (right (leb link n) (eqb (get_or marks (link - 1) 0) 0) h))
