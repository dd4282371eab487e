-- Two kernels that meet the demands are the same: whatever meets them replies to every call on every table as ours does.
use mathlib.Core.Path.{◌≡◌, refl, sym, ◌∙◌, ap, subst}
use mathlib.Core.Bool.{Bool, true, false, not, ◌&&◌, true≢false}
use mathlib.Core.List.{[], ◌∷◌}
use mathlib.Core.Logic.{inl, inr}
use mathlib.Core.Option.{some}
use Prim.Native.Nat.{ℕ, zero, suc}
use borrow.Author.Tests.{eqb-true, eq-eqb}
use lib.Dec.{eqb}
use lib.ListN.{get_or}
use Rattle.sequences.proofs.Tests.{left, right}
use Rattle.model.specs.declared.answers.Answer.{Answer}
use Rattle.model.specs.declared.answers.Answer.TheVariants.{Done, Unsound, NoCall, NoObject, BadNumber, Exists, NobodyRuns, SchedulingOff, WrongState, Full, Waits}
use Rattle.model.specs.declared.answers.Report.{Report}
use Rattle.model.specs.declared.requests.Request.{Request}
use Rattle.model.specs.State.{State}
use Rattle.model.specs.Ranges.{fits_32}
use Rattle.model.specs.Sound.{sound}
use Rattle.model.specs.Answers.{number, accepted, report}
use Rattle.model.specs.Calls.{advance, calls, advance_call, is_advance, numbered, answers, unused_id, unused_bcd}
use Rattle.model.specs.Time.{Next}
use Rattle.model.specs.Kernel.{judge, answer, call}
use Rattle.model.specs.Promises.{advancing}
use Rattle.theorems.proofs.Replies.{reply-answer}
use Rattle.theorems.proofs.Demand1.{unsound_exactly}
use Rattle.theorems.proofs.Demand3.{next-only}
use Rattle.demands.specs.Demands.{Kernel, Demand1, Demands}
use Rattle.demands.proofs.Ours.{ours}
use Rattle.demands.proofs.Fixed.{as_after}

-- ---- an answer is known by its number

answer-of : ℕ → Answer
answer-of n = get_or (Done ∷ Unsound ∷ NoCall ∷ NoObject ∷ BadNumber ∷ Exists ∷ NobodyRuns ∷ SchedulingOff ∷ WrongState ∷ Full ∷ Waits ∷ []) n Done

known : (a : Answer) → answer-of (number a) ≡ a
unfolding answer-of
known Done = refl
known Unsound = refl
known NoCall = refl
known NoObject = refl
known BadNumber = refl
known Exists = refl
known NobodyRuns = refl
known SchedulingOff = refl
known WrongState = refl
known Full = refl
known Waits = refl

-- ---- an advance that is accepted has nothing but its ticks

bare : (q : Request) → is_advance q ≡ true → unused_id q ≡ true → unused_bcd q ≡ true → q ≡ advancing q.a
bare q call id bcd = λ j. record {
  call = eqb-true q.call advance_call call j;
  id = eqb-true q.id 0 id j;
  a = q.a;
  b = eqb-true q.b 0 (left (eqb q.b 0) _ bcd) j;
  c = eqb-true q.c 0 (left (eqb q.c 0) _ (right (eqb q.b 0) _ bcd)) j;
  d = eqb-true q.d 0 (left (eqb q.d 0) _ (right (eqb q.c 0) _ (right (eqb q.b 0) _ bcd))) j;
}

accepted_advance : (s : State) (q : Request) → accepted (call s q).report.answer ≡ true → is_advance q ≡ true
    → (sound s ≡ true) × (fits_32 q.a ≡ true) × (q ≡ advancing q.a)
unfolding answer judge numbered calls answers
accepted_advance s q taken is = by_sound (sound s) refl
  where
    at : numbered q.call ≡ some advance
    at = ap numbered (eqb-true q.call advance_call is)

    given : accepted (answer s q) ≡ true
    given = ap accepted (sym (reply-answer s q)) ∙ taken

    by_fields : (b : Bool) → unused_id q && fits_32 q.a && unused_bcd q ≡ b → sound s ≡ true → b ≡ true
    by_fields true e whole = refl
    by_fields false e whole = absurd (true≢false (sym given ∙ rw (whole, at, e)))

    by_sound : (b : Bool) → sound s ≡ b → (sound s ≡ true) × (fits_32 q.a ≡ true) × (q ≡ advancing q.a)
    by_sound false e = absurd (true≢false (sym given ∙ rw e))
    by_sound true e =
        let h = by_fields (unused_id q && fits_32 q.a && unused_bcd q) refl e in
        let id-and-ticks = left (unused_id q && fits_32 q.a) (unused_bcd q) h in (
          e,
          right (unused_id q) (fits_32 q.a) id-and-ticks,
          bare q is (left (unused_id q) (fits_32 q.a) id-and-ticks) (right (unused_id q && fits_32 q.a) (unused_bcd q) h),
        )

-- ---- the same reply

module _ (K : Kernel) (meets : Demands K) (s : State) (q : Request) where
  same_test : (n : ℕ) → eqb (number (K s q).report.answer) n ≡ eqb (number (call s q).report.answer) n
  same_test zero = meets.first.done s q ∙ sym (ours.first.done s q)
  same_test (suc n) = meets.first.given s q n ∙ sym (ours.first.given s q n)

  same_answer : (K s q).report.answer ≡ (call s q).report.answer
  same_answer =
      let a = (K s q).report.answer in
      let b = (call s q).report.answer in
      let e = eqb-true (number a) (number b) (same_test (number b) ∙ eq-eqb (number b) (number b) refl) in
      sym (known a) ∙ ap answer-of e ∙ known b

  same_after : (K s q).after ≡ (call s q).after
  same_after = as_after K meets.second s q

  same-wakeups : (K s q).report.wakeups ≡ (call s q).report.wakeups
  same-wakeups = by_test (accepted (call s q).report.answer && is_advance q) refl
    where
      none_told : (L : Kernel) → Demand1 L → accepted (L s q).report.answer && is_advance q ≡ false → (L s q).report.wakeups ≡ 0
      none_told L first e = elim (first.quiet s q) [
        | inl advances ↦ absurd (true≢false (sym advances ∙ e))
        | inr none ↦ none
      ]

      by_test : (b : Bool) → accepted (call s q).report.answer && is_advance q ≡ b → (K s q).report.wakeups ≡ (call s q).report.wakeups
      by_test true e =
          let h = accepted_advance s q (left (accepted (call s q).report.answer) (is_advance q) e) (right (accepted (call s q).report.answer) (is_advance q) e) in
          subst (λ (r : Request). (K s r).report.wakeups ≡ (call s r).report.wakeups) (sym h.2)
          (meets.third.counted s h.0 q.a h.1 ∙ sym (ours.third.counted s h.0 q.a h.1))
      by_test false e =
          none_told K meets.first (ap (λ (a : Answer). accepted a && is_advance q) same_answer ∙ e)
          ∙ sym (none_told call ours.first e)

  same_next : (K s q).report.next ≡ (call s q).report.next
  same_next = by_sound (sound s) refl
    where
      none_named : (L : Kernel) → Demand1 L → eqb (number (L s q).report.answer) 1 ≡ true → (L s q).report.next ≡ 0
      none_named L first one = ap (λ (r : Report). r.next) (first.told s q) ∙ rw one

      by_sound : (b : Bool) → sound s ≡ b → (K s q).report.next ≡ (call s q).report.next
      by_sound true e =
          next-only (call s q).after (K s q).report.next (call s q).report.next
          (subst (λ (u : State). Next u (K s q).report.next) same_after (meets.third.named s q e))
          (ours.third.named s q e)
      by_sound false e =
          let one = unsound_exactly s q ∙ ap not e in
          none_named K meets.first (same_test 1 ∙ one) ∙ sym (none_named call ours.first one)

  -- and with all of it the same report
  same-report : (K s q).report ≡ (call s q).report
  same-report =
      meets.first.told s q
      ∙ (λ j. report (same_answer j) (same_after j) (same-wakeups j) (same_next j))
      ∙ sym (ours.first.told s q)

pub only : (K : Kernel) → Demands K → (s : State) (q : Request) → K s q ≡ call s q
only K meets s q = λ j. record { report = same-report K meets s q j; after = same_after K meets s q j }
