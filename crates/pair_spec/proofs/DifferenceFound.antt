-- The runs of paired starts that exit apart are found to.
use Rattle.std.proofs.Common.{◌≡◌, ℕ, ◌+◌, ◌%◌, refl, ap, ◌∙◌, arith, Bool, true, Some, List}
use Rattle.std.specs.Prelude.{◌++◌, codes, if◌then◌else◌}
use Rattle.std.proofs.lemmas.Bool.{eq-eqb}
use Rattle.word_spec.specs.State.{State}
use Rattle.word_spec.specs.Texts.{line, joined}
use Rattle.machine_spec.specs.Machine.{unit, is_place}
use Rattle.machine_spec.specs.Endings.{Start}
use Rattle.bilv_spec.specs.Run.{Program}
use Rattle.bilv_spec.specs.Verdict.{IsEntryState}
use Rattle.pair_spec.specs.Links.{unlinked_line}
use Rattle.pair_spec.specs.Pairs.{ExitsIn}
use Rattle.call_spec.specs.Calls.{plain_answer, Answer}
use Rattle.pair_spec.specs.Equals.{differs_words}
use Rattle.pair_spec.specs.Differs.{NamedDifference, exit_by_step, exit_of_run, exit_at, by_line, by_exits, by_links, by_require, by_state, by_starts}
use Rattle.pair_spec.specs.PairLaws.{DifferenceIsFound}
use Rattle.bilv_spec.proofs.SameRuns.{same_run}

-- the exit of a run is found, under a bound of its own
exit_found : (p : Program) (k : ℕ) (start : Start) (at n : ℕ) (s : State) → ExitsIn p k start at n s → exit_at p start n ≡ Some s
exit_found p k start at n s e =
    ap (exit_of_run p start) (same_run p start k (n + 1) n (omega arith) e.turns n e.place e.before).2 ∙ ap exit_by_step e.leaves

-- an entry state is passed on
state_passes : (word : List ℕ) (p : Program) (s : State) (next : Answer) → IsEntryState p s → by_state word p s next ≡ next
state_passes word p s next e =
    let link : is_place p.machine.narrow (s.regs p.machine.link) ≡ true = eq-eqb (s.regs p.machine.link % unit p.machine.narrow) 0 e.link in
    ap (λ (b : Bool). by_link b) link ∙ ap (λ o. by_require word o next) e.requires
  where
    by_link : Bool → Answer
    by_link b = if b then by_require word (Rattle.bilv_spec.specs.EntryFaults.false_require p s) next
        else plain_answer 9 (line (codes "state: " ++ word ++ codes " link"))

-- a line that is named as it is found
same_line : (d : NamedDifference) → by_line d (Some d.line) ≡ plain_answer 0 (line (codes "replayed " ++ joined (differs_words d.line d.first d.second)))
same_line d = ap (λ (b : Bool). if b then plain_answer 0 (line (codes "replayed " ++ joined (differs_words d.line d.first d.second)))
    else plain_answer 9 (Rattle.pair_spec.specs.Differs.found_text d (joined (differs_words d.line d.first d.second)))) (eq-eqb d.line d.line refl)

pub difference_is_found : DifferenceIsFound
difference_is_found a b k links n i j x y pair apart =
    let d : NamedDifference = record { line = n; first = i; second = j } in
    state_passes (codes "first") a.program x.state (by_state (codes "second") b.program y.state
    (by_links a.program b.program links d x y (unlinked_line links x.state y.state))) pair.first.entry
    ∙ state_passes (codes "second") b.program y.state (by_links a.program b.program links d x y (unlinked_line links x.state y.state)) pair.second.entry
    ∙ ap (by_links a.program b.program links d x y) pair.linked
    ∙ ap (λ z. by_exits a.program b.program links d x y z (exit_at b.program y j)) (exit_found a.program k x apart.first_at i apart.first_state apart.first)
    ∙ ap (by_exits a.program b.program links d x y (Some apart.first_state)) (exit_found b.program k y apart.second_at j apart.second_state apart.second)
    ∙ ap (by_line d) apart.apart ∙ same_line d
