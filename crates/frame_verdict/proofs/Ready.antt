-- What frames within the budgets come to.
use Rattle.std.proofs.Common.{◌≡◌, ◌≢◌, ◌<◌, ◌∙◌, arith, ℕ, Bool, true, false, List, [], ◌∷◌, None, refl, ap, sym, subst, length, get_or}
use Rattle.std.specs.Prelude.{◌==◌, map, slice_get}
use Rattle.std.proofs.lemmas.Bool.Decides.{nat_tests}
use Rattle.std.proofs.lemmas.List.{length-map}
use Rattle.machine_spec.specs.StateText.{Layout}
use Rattle.call_form.specs.Views.{budget_of}
use Rattle.call_form.specs.declared.budget.Budget.{Budget}
use Rattle.frame_spec.specs.FrameReports.{IsWithin, last_rank}
use Rattle.frame_spec.specs.FrameVerdict.{Whole}
use Rattle.notes_value.specs.FrameViews.{contract_of}
use Rattle.notes_value.specs.NoteViews.{notes_of}
use Rattle.question_form.specs.declared.unrolled.Unrolled.{Unrolled}
use Rattle.verdict.specs.declared.verdicts.Exceeded as past
use Rattle.verdict.specs.declared.verdicts.Exceeded.TheVariants.{Points, Size}
use Rattle.frame_verdict.specs.FrameCertificates.{IsFrameExceeded}
use Rattle.frame_verdict.specs.FrameFunctions.{CanRun, CanShow, IsNotesAt, IsReady, contracts_of, frame_at, notes_by, whole_of_framed}
use Rattle.frame_verdict.specs.FrameMeasures.{AreAllUnrolled, AreUnrolledTo, IsFrameUnrolled, IsWeighed}
use Rattle.frame_verdict.specs.FrameVerdicts.{IsFrameVerdict}
use Rattle.frame_verdict.specs.declared.framed.Framed.{Framed}
use Rattle.frame_verdict.specs.declared.measuring.Frames.{Frames}
use Rattle.frame_verdict.specs.declared.measuring.Weighed.{Weighed}
use Rattle.frame_verdict.specs.declared.measuring.Weighed.TheVariants.{Within, Exceeded}
use Rattle.frame_verdict.specs.declared.verdicts.FrameVerdict.TheVariants as verdict

-- a budget does not suffice
pub exceeded : (w : Whole) (layout : Layout) (b : Budget) (e : past.Exceeded) (y : Weighed) → IsWeighed w layout (budget_of b) y → y ≡ Exceeded e →
    IsFrameExceeded w (budget_of b) e
exceeded w layout b e y h is = subst (IsWeighed w layout (budget_of b)) is h

pub exceeded_verdict : (w : Whole) (layout : Layout) (b : Budget) (e : past.Exceeded) → IsFrameExceeded w (budget_of b) e →
    IsFrameVerdict w layout b (verdict.Exceeded e)
exceeded_verdict w layout b (Points count) h = h
exceeded_verdict w layout b (Size price) h = h

-- the budgets suffice, and the frames are unrolled
module _ {M I S : Type 0} {ms : _} {vs : _} (form : Layout) (x : Framed M I S ms vs) (b : Budget) (y : Weighed)
    (h : IsWeighed (whole_of_framed x) form (budget_of b) y) (u : Frames) (is : y ≡ Within u) where
  weighed : IsWeighed (whole_of_framed x) form (budget_of b) (Within u)
  weighed = subst (IsWeighed (whole_of_framed x) form (budget_of b)) is h

  pub all_within : IsWithin (whole_of_framed x) (budget_of b)
  all_within = weighed.0

  pub all_unrolled : AreAllUnrolled (whole_of_framed x) b.unroll form u
  all_unrolled = weighed.1

-- an unrolled frame within the budgets is ready
module _ {M I S : Type 0} {ms : _} {vs : _} (form : Layout) (x : Framed M I S ms vs) (b : Budget) (runs : CanRun x)
    (within : IsWithin (whole_of_framed x) (budget_of b)) where
  pub one_ready : (list : List Unrolled) → AreUnrolledTo (whole_of_framed x) b.unroll (length x.contracts.now) form list → (rank : ℕ) →
      rank < length x.contracts.now → (d : Unrolled) → IsReady form x b rank (get_or list rank d)
  one_ready list all rank low d = record { runs = runs; ranked = omega (arith, low); within = within; unrolled = all.each rank d low }

  last_is : last_rank (whole_of_framed x) ≡ length x.contracts.now
  last_is = length-map x.contracts.now contract_of

  pub own_ready : (u : Frames) → AreAllUnrolled (whole_of_framed x) b.unroll form u → IsReady form x b (length x.contracts.now) u.own
  own_ready u all = record {
    runs = runs;
    ranked = omega arith;
    within = within;
    unrolled = subst (λ (r : ℕ). IsFrameUnrolled (frame_at x r) (contracts_of x) b.unroll form u.own) last_is all.own;
  }

  pub contracts_unrolled : (u : Frames) → AreAllUnrolled (whole_of_framed x) b.unroll form u →
      AreUnrolledTo (whole_of_framed x) b.unroll (length x.contracts.now) form u.contracts.items
  contracts_unrolled u all = subst (λ (r : ℕ). AreUnrolledTo (whole_of_framed x) b.unroll r form u.contracts.items) last_is all.contracts

-- what is ready can be shown
pub can_show : {M I S : Type 0} {ms : _} {vs : _} (form : Layout) (x : Framed M I S ms vs) (b : Budget) (rank : ℕ) (u : Unrolled) → IsReady form x b rank u → CanShow form x b rank u
can_show form x b rank u ready = record { runs = ready.runs; ranked = ready.ranked; few = ready.within.points; unrolled = ready.unrolled }

none_past : {A B : Type 0} (f : A → B) (xs : List A) → slice_get (map f xs) (length xs) ≡ None
none_past f [] = refl
none_past f (x ∷ xs) = none_past f xs

-- the notes of the file are those of the function's own frame
pub last_notes : {M I S : Type 0} {ms : _} {vs : _} (x : Framed M I S ms vs) → IsNotesAt x (length x.contracts.now) (notes_of x.program.notes.now)
last_notes x = sym (ap (notes_by (notes_of x.program.notes.now)) (none_past contract_of x.contracts.now))

-- a list whose length is tested
pub none_if : {A : Type 0} (l : List A) (e : Bool) → e ≡ (length l == 0) → e ≡ true → l ≡ []
none_if [] e is t = refl
none_if (x ∷ l) e is t = absurd (let z : (length (x ∷ l) == 0) ≡ true = sym is ∙ t in grind (arith, z, nat_tests))

pub some_if : {A : Type 0} (l : List A) (e : Bool) → e ≡ (length l == 0) → e ≡ false → l ≢ []
some_if [] e is f q = let z : true ≡ false = sym is ∙ f in cc
some_if (x ∷ l) e is f q = cc
