-- The step of a row by what the machine answers.
use Rattle.std.proofs.Common.{◌≡◌, ℕ, ◌<◌, ◌^◌, List, false, sym, ap, subst}
use Rattle.std.specs.Prelude.{Bool, Option, Some, None}
use Rattle.word_spec.specs.State.{State, IsState}
use Rattle.machine_spec.specs.Machine as machine
use Rattle.machine_spec.specs.Machine.{Row, Outcome, Goes, Raises, Exception, EnvironmentCall, Breakpoint, SoftwareInterrupt, OddHalfword, UnalignedLoad}
use Rattle.machine_spec.specs.MachineLaws.{IsLawful, IsLawfulMachine, IsWay, IsSuccessor}
use Rattle.bilv_spec.specs.Run as run
use Rattle.byte_mem.specs.Views.{exception_out, goes_out, IsStep}
use Rattle.byte_mem.specs.declared.How.{How}
use Rattle.byte_mem.specs.declared.StepOut.{StepOut}
use Rattle.byte_mem.specs.declared.StepOut.TheVariants.{Next, Jump}
use Rattle.table_run.specs.declared.ending.StepEnd.{StepEnd}
use Rattle.table_run.specs.Steps.{IsStepEnd, way_of}

-- how a machine's answer goes on
abbrev pub Ways : StepOut → Option How → Type 0
Ways Next how = how ≡ None
Ways (Jump to by) how = how ≡ Some by
Ways other how = ⊥

way_is : (out : StepOut) (how : Option How) (w : machine.How) (s : State) → goes_out w s out → Ways out how → way_of how ≡ w
way_is out how machine.On s g h = ap way_of (subst (λ o. Ways o how) g h)
way_is out how machine.Direct s g h = ap way_of (subst (λ o. Ways o how) g h)
way_is out how machine.DirectCall s g h = ap way_of (subst (λ o. Ways o how) g h)
way_is out how machine.Indirect s g h = ap way_of (subst (λ o. Ways o how) g h)
way_is out how machine.IndirectCall s g h = ap way_of (subst (λ o. Ways o how) g h)

no_way : (how : Option How) (e : Exception) → Ways (exception_out e) how → ⊥
no_way how EnvironmentCall h = h
no_way how Breakpoint h = h
no_way how SoftwareInterrupt h = h
no_way how OddHalfword h = h
no_way how UnalignedLoad h = h

went : (p : run.Program) (entry : State) (row : Row) (old new : State) (stack after : List ℕ) (out : StepOut) (how : Option How) (end : StepEnd) (o : Outcome)
    → IsStep old new out o → IsSuccessor (row.successors old.pc) o → Ways out how
    → (IsWay (row.successors old.pc) (way_of how) new.pc → IsStepEnd end new after (run.going_on false p entry row old stack (way_of how) new))
    → IsStepEnd end new after (run.after_row p entry row old stack false o)
went p entry row old new stack after out how end (Goes w s) is allowed ways here =
    let same : way_of how ≡ w = way_is out how w s is.1 ways in
    let way : IsWay (row.successors old.pc) (way_of how) new.pc =
    subst (λ (v : machine.How). IsWay (row.successors old.pc) v new.pc) (sym same) (subst
    (λ (t : State). IsWay (row.successors old.pc) w t.pc) (sym is.0) allowed) in
    subst (λ (t : State). IsStepEnd end new after (run.going_on false p entry row old stack w t)) is.0
    (subst (λ (v : machine.How). IsStepEnd end new after (run.going_on false p entry row old stack v new)) same (here way))
went p entry row old new stack after out how end (Raises e) is allowed ways here = absurd (no_way how e (subst (λ (x : StepOut). Ways x how) is.1 ways))

-- a row that writes no kept byte and goes on
pub row_goes : (p : run.Program) (entry : State) (row : Row) (old new : State) (stack after : List ℕ) (choice : ℕ) (out : StepOut) (how : Option How)
    (end : StepEnd)
    → IsLawful row → IsState old → IsStep old new out (row.effect old choice) → Ways out how → run.writes_kept p row old ≡ false
    → (IsWay (row.successors old.pc) (way_of how) new.pc → IsStepEnd end new after (run.going_on false p entry row old stack (way_of how) new))
    → IsStepEnd end new after (run.after_row p entry row old stack (run.writes_kept p row old) (row.effect old choice))
row_goes p entry row old new stack after choice out how end lawful state is ways free here =
    subst (λ (b : Bool). IsStepEnd end new after (run.after_row p entry row old stack b (row.effect old choice))) (sym free)
    (went p entry row old new stack after out how end (row.effect old choice) is (lawful.successors old choice state) ways here)

-- the machine's row of a word is lawful
pub lawful_row : (m : machine.Machine) (w : ℕ) (row : Row) → IsLawfulMachine m → w < 2 ^ 32 → Some row ≡ m.row w → IsLawful row
lawful_row m w row laws fits is = laws.rows w row fits (sym is)

-- a step's end that is known
pub end_is : (e f : StepEnd) (state : State) (stack : List ℕ) (step : run.Step) → e ≡ f → IsStepEnd e state stack step → IsStepEnd f state stack step
end_is e f state stack step same is = subst (λ (x : StepEnd). IsStepEnd x state stack step) same is
