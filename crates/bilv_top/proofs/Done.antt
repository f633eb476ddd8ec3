-- Answers to tasks, on the machine of a file, and by counts that did not fall before.
use Rattle.std.proofs.Common.{◌≡◌, ℕ, ◌≤◌, List, sym, subst}
use Rattle.call_spec.specs.Calls.{AfterRead, Answer, Budget, Surroundings, program_question}
use Rattle.bilv_spec.specs.Files.{program_of}
use Rattle.machine_spec.specs.Machine.{Machine}
use Rattle.bilv_spec.specs.Notes.{Notes}
use Rattle.bilv_spec.specs.Run.{Program}
use Rattle.machine_spec.specs.StateText.{Layout}
use Rattle.model_spec.specs.Models.{AfterBudgets, IsAskedModelAnswer, points, size, within}
use Rattle.command_line.specs.Commands.{budget_of, frame_question}
use Rattle.bilv_top.specs.Tasks.{IsDone}
use Rattle.bilv_top.specs.declared.tasks.Task.{Task}
use Rattle.bilv_top.proofs.Refused.{read_since}

-- of the machine that a file is of
pub done_on : (s : Surroundings) (t : Task) (m n : Machine) (l k : Layout) (file : List ℕ) (notes : Notes) (entry : ℕ) (a : Answer) → n ≡ m → k ≡ l →
    IsDone s t l (program_of m file notes entry) a → IsDone s t k (program_of n file notes entry) a
done_on s t m n l k file notes entry a machine form done =
    subst (λ (x : Machine). IsDone s t k (program_of x file notes entry) a) (sym machine)
    (subst (λ (x : Layout). IsDone s t x (program_of m file notes entry) a) (sym form) done)

-- of a file that is known by two names
pub done_of : (s : Surroundings) (t : Task) (machine : List ℕ → Machine) (layout : List ℕ → Layout) (image file : List ℕ) (notes : Notes) (entry : ℕ)
    (a : Answer) → image ≡ file → IsDone s t (layout image) (program_of (machine image) image notes entry) a →
    IsDone s t (layout file) (program_of (machine file) file notes entry) a
done_of s t machine layout image file notes entry a same done =
    subst (λ x. IsDone s t (layout x) (program_of (machine x) x notes entry) a) same done

-- what comes next within budgets
pub budgets_next : (p : Program) (b : Budget) (Next Other : Answer → Type 0) (a : Answer) → (Next a → Other a) → AfterBudgets p b Next a → AfterBudgets p b Other a
budgets_next p b Next Other a step (points more is) = points more is
budgets_next p b Next Other a step (size price few is_price above is) = size price few is_price above is
budgets_next p b Next Other a step (within is next) = within is (step next)

-- since before other files were read
pub done_since : (s t : Surroundings) (asked : Task) (layout : Layout) (p : Program) (a : Answer) → ((n : List ℕ) → s.held n ≡ t.held n) →
    ((n : List ℕ) → t.shelf_before n ≤ s.shelf_before n) → ((n : List ℕ) → s.shelf_after n ≡ t.shelf_after n) → IsDone s asked layout p a →
    IsDone t asked layout p a
done_since s t asked layout p a held before after done =
    let Judged = IsAskedModelAnswer p layout (budget_of asked.budget) (program_question (frame_question asked.question)) in
    let name = asked.values.now in
    budgets_next p (budget_of asked.budget) (AfterRead s name Judged) (AfterRead t name Judged) a
    (read_since s t name Judged a (held name) (before name) (after name)) done
