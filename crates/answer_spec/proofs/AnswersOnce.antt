-- Right answers exclude each other.
use Rattle.std.proofs.Common.{◌≡◌, ℕ, arith, refl, ap, sym, ◌∙◌, subst, List, Option, Some, None}
use Rattle.call_spec.specs.Outside.{Absent, Bytes, Agrees, Rose}
use Rattle.bilv_spec.specs.Run.{Program}
use Rattle.bilv_spec.specs.Verdict.{Verdict, Holds, Vacuous, Fails, Unroll, IsRight}
use Rattle.bilv_spec.specs.Points.{HasMore}
use Rattle.machine_spec.specs.StateText.{Layout}
use Rattle.call_spec.specs.Calls.{Budget, Evidence, Refutations, EntryRefuted, RunOf, SpentOn, Count, Answer, plain_answer, Surroundings, AfterRead, read_failed, was_read, read_fault}
use Rattle.bilv_spec.specs.Answers.{Report, HoldsReport, VacuousReport, FailsReport, UnrollReport, PointsReport, SizeReport, ConflictsReport, IsRightReport}
use Rattle.command_spec.specs.Commands.{Command, Verify, Lift, Graph, Script, Replay, Certify, Check, SelfRun, Upgrade, Model, Equal, Differ}
use Rattle.answer_spec.specs.Outcomes.{IsRightAnswer}
use Rattle.notes_spec.specs.Verified.{IsAccepted, IsElfRefused, elf_large, elf_fault, elf_fault_text, AfterImage, elf_refused, elf_accepted}
use Rattle.answer_spec.specs.AnswerLaws.{verdict_of, first_file, elf_of}
use Rattle.bilv_spec.proofs.Faults.{one_fault}
use Rattle.bilv_spec.proofs.One.{one_verdict}

absent_read : {Next : List ℕ → Answer → Type 0} {a : Answer} (s : Surroundings) (first name : List ℕ) → Some first ≡ Some name → s.held name ≡ Absent →
    AfterRead s first Next a → (a ≡ read_fault) × Rose (s.shelf_before name) (s.shelf_after name)
absent_read s first name f e (read_failed rose is) = let same : first ≡ name = cc in (is, subst (λ n. Rose (s.shelf_before n) (s.shelf_after n)) same rose)
absent_read s first name f e (was_read bytes agrees next) = let same : first
    ≡ name = cc in absurd (subst (λ h. Agrees h bytes) (ap (λ n. s.held n) same ∙ e) agrees)

no_name : (n : List ℕ) → ◌≡◌ {A = Option (List ℕ)} None (Some n) → ⊥
no_name n e = cc

pub absent_fails : (s : Surroundings) (c : Command) (name : List ℕ) (a : Answer) → first_file c ≡ Some name → s.held name ≡ Absent → IsRightAnswer s c a →
    (a ≡ read_fault) × Rose (s.shelf_before name) (s.shelf_after name)
absent_fails s (Verify o elf notes b) name a f h r = absent_read s elf name f h r
absent_fails s (Lift o elf) name a f h r = absent_read s elf name f h r
absent_fails s (Graph o elf notes) name a f h r = absent_read s elf name f h r
absent_fails s (Script o elf notes kind frame b) name a f h r = absent_read s elf name f h r
absent_fails s (Replay o elf notes report) name a f h r = absent_read s elf name f h r
absent_fails s (Certify o elf notes kind frame b) name a f h r = absent_read s elf name f h r
absent_fails s (Check certificate) name a f h r = absent_read s certificate name f h r
absent_fails s (SelfRun seed count) name a f h r = absurd (no_name name f)
absent_fails s (Upgrade o elf notes) name a f h r = absent_read s elf name f h r
absent_fails s (Model o elf notes answer kind b) name a f h r = absent_read s elf name f h r
absent_fails s (Equal o names b) name a f h r = absent_read s names.elf name f h r
absent_fails s (Differ o names report) name a f h r = absent_read s names.elf name f h r

-- a right report's verdict is right
no_verdict : (v : Verdict) → ◌≡◌ {A = Option Verdict} None (Some v) → ⊥
no_verdict v e = cc

right_verdict : (p : Program) (layout : Layout) (b : Budget) (r : Report) (e : Evidence) (v : Verdict) → IsRightReport p layout b r e → verdict_of r ≡ Some v →
    IsRight p b.unroll v
right_verdict p layout b HoldsReport (Refutations w fail turn) v a e = let same : Holds ≡ v = cc in subst (IsRight p b.unroll) same a.1
right_verdict p layout b HoldsReport other v a e = absurd a
right_verdict p layout b VacuousReport (EntryRefuted proof) v a e = let same : Vacuous ≡ v = cc in subst (IsRight p b.unroll) same a.1
right_verdict p layout b VacuousReport other v a e = absurd a
right_verdict p layout b (FailsReport event at step) (RunOf w) v a e = let same : Fails ≡ v = cc in subst (IsRight p b.unroll) same a.1
right_verdict p layout b (FailsReport event at step) other v a e = absurd a
right_verdict p layout b (UnrollReport at step) (RunOf w) v a e = let same : Unroll ≡ v = cc in subst (IsRight p b.unroll) same a.1
right_verdict p layout b (UnrollReport at step) other v a e = absurd a
right_verdict p layout b PointsReport other v a e = absurd (no_verdict v e)
right_verdict p layout b SizeReport other v a e = absurd (no_verdict v e)
right_verdict p layout b ConflictsReport other v a e = absurd (no_verdict v e)

pub one_reported_verdict : (p : Program) (layout : Layout) (b : Budget) (r t : Report) (e f : Evidence) (v w : Verdict) → IsRightReport p layout b r e →
    IsRightReport p layout b t f → verdict_of r ≡ Some v → verdict_of t ≡ Some w → v ≡ w
one_reported_verdict p layout b r t e f v w x y i j =
    one_verdict p b.unroll v w (right_verdict p layout b r e v x i) (right_verdict p layout b t f w y j)

-- more points than the budget
more_points : (p : Program) (layout : Layout) (b : Budget) (e : Evidence) → IsRightReport p layout b PointsReport e → HasMore p b.unroll b.points
more_points p layout b (Count n) a = a.0
more_points p layout b other a = absurd a

pub points_come_first : (p : Program) (layout : Layout) (b : Budget) (r : Report) (e f : Evidence) → IsRightReport p layout b PointsReport e →
    IsRightReport p layout b r f → r ≡ PointsReport
points_come_first p layout b PointsReport e f x y = refl
points_come_first p layout b HoldsReport e (Refutations w fail turn) x y = absurd (y.0.points (more_points p layout b e x))
points_come_first p layout b HoldsReport e other x y = absurd y
points_come_first p layout b VacuousReport e (EntryRefuted proof) x y = absurd (y.0.points (more_points p layout b e x))
points_come_first p layout b VacuousReport e other x y = absurd y
points_come_first p layout b (FailsReport event at step) e (RunOf w) x y = absurd (y.0.points (more_points p layout b e x))
points_come_first p layout b (FailsReport event at step) e other x y = absurd y
points_come_first p layout b (UnrollReport at step) e (RunOf w) x y = absurd (y.0.points (more_points p layout b e x))
points_come_first p layout b (UnrollReport at step) e other x y = absurd y
points_come_first p layout b SizeReport e (Count n) x y = absurd (y.0 (more_points p layout b e x))
points_come_first p layout b SizeReport e other x y = absurd y
points_come_first p layout b ConflictsReport e (SpentOn kind proof) x y = absurd (y.0.points (more_points p layout b e x))
points_come_first p layout b ConflictsReport e other x y = absurd y

-- a file is refused with one text, and is not accepted
one_refusal : (file v w : List ℕ) → IsElfRefused file v → IsElfRefused file w → v ≡ w
one_refusal file _ _ (elf_large h) (elf_large k) = refl
one_refusal file _ _ (elf_large h) (elf_fault f k e) = absurd (omega (arith, h, k))
one_refusal file _ _ (elf_fault f h e) (elf_large k) = absurd (omega (arith, h, k))
one_refusal file _ _ (elf_fault f h e) (elf_fault g k d) = ap elf_fault_text (one_fault file f g e d)

not_accepted : (file w : List ℕ) → IsElfRefused file w → IsAccepted file → ⊥
not_accepted file _ (elf_large h) a = omega (arith, h, a.0)
not_accepted file _ (elf_fault f h e) a = a.1 f e.0

image_refused : {Next : Answer → Type 0} {a : Answer} (file written : List ℕ) → IsElfRefused file written → AfterImage file Next a → a ≡ plain_answer 4 written
image_refused file written r (elf_refused w h is) = is ∙ ap (plain_answer 4) (one_refusal file w written h r)
image_refused file written r (elf_accepted h next) = absurd (not_accepted file written r h)

elf_read : {Next : List ℕ → Answer → Type 0} {a : Answer} (s : Surroundings) (first name file written : List ℕ) → Some first ≡ Some name →
    s.held name ≡ Bytes file →
    (¬ Rose (s.shelf_before name) (s.shelf_after name)) → IsElfRefused file written → AfterRead s first (λ bytes. AfterImage bytes (Next bytes)) a →
    a ≡ plain_answer 4 written
elf_read s first name file written f e calm r (read_failed rose is) =
    let same : first ≡ name = cc in absurd (calm (subst (λ n. Rose (s.shelf_before n) (s.shelf_after n)) same rose))
elf_read s first name file written f e calm r (was_read bytes agrees next) =
    let same : first ≡ name = cc in
    let is : bytes ≡ file = subst (λ h. Agrees h bytes) (ap (λ n. s.held n) same ∙ e) agrees in
    image_refused bytes written (subst (λ x. IsElfRefused x written) (sym is) r) next

pub elf_refused_once : (s : Surroundings) (c : Command) (name file written : List ℕ) (a : Answer) → elf_of c ≡ Some name → s.held name ≡ Bytes file →
    (¬ Rose (s.shelf_before name) (s.shelf_after name)) → IsElfRefused file written → IsRightAnswer s c a → a ≡ plain_answer 4 written
elf_refused_once s (Verify o elf notes b) name file written a f h calm r x = elf_read s elf name file written f h calm r x
elf_refused_once s (Lift o elf) name file written a f h calm r x = elf_read s elf name file written f h calm r x
elf_refused_once s (Graph o elf notes) name file written a f h calm r x = elf_read s elf name file written f h calm r x
elf_refused_once s (Script o elf notes kind frame b) name file written a f h calm r x = elf_read s elf name file written f h calm r x
elf_refused_once s (Replay o elf notes report) name file written a f h calm r x = elf_read s elf name file written f h calm r x
elf_refused_once s (Certify o elf notes kind frame b) name file written a f h calm r x = elf_read s elf name file written f h calm r x
elf_refused_once s (Check certificate) name file written a f h calm r x = absurd (no_name name f)
elf_refused_once s (SelfRun seed count) name file written a f h calm r x = absurd (no_name name f)
elf_refused_once s (Upgrade o elf notes) name file written a f h calm r x = elf_read s elf name file written f h calm r x
elf_refused_once s (Model o elf notes answer kind b) name file written a f h calm r x = elf_read s elf name file written f h calm r x
elf_refused_once s (Equal o names b) name file written a f h calm r x = absurd (no_name name f)
elf_refused_once s (Differ o names report) name file written a f h calm r x = absurd (no_name name f)
