-- Notes, and notes as far as their lines were read, as definitions see them.
use Rattle.std.specs.Prelude.{ℕ, ◌≡◌, ◌==◌, List, [], ◌∷◌, Option, Some, None, map, Contains}
use Rattle.std.specs.List.{list_any}
use Rattle.std.specs.Ordering.{nat_cmp}
use Rattle.std.specs.BTreeSet.{BTreeSet, contains}
use Rattle.bilv_spec.specs.Notes as notes
use Rattle.notes_spec.specs.NotesGrammar.{Says, is_of_contract, is_of_entry, entries, requires_of, ensures_of, asserts_of, targets_of as targets_in, fixed_of as fixed_in}
use Rattle.notes_spec.specs.FrameNotes.{invariants_of}
use Rattle.notes_value.specs.NoteViews.{function_of, note_line_of, assert_of, targets_of, fixed_of}
use Rattle.notes_value.specs.declared.notes.Function.{Function}
use Rattle.notes_value.specs.declared.notes.Targets.{Targets}
use Rattle.notes_value.specs.declared.notes.FrameNotes.{FrameNotes}
use Rattle.notes_lang.specs.declared.drafts.Draft.{Draft}
use Rattle.notes_lang.specs.Contracting.{AreContracts}

-- one place, or none so far
abbrev pub place_list : Option Function → List notes.Function
place_list None = []
place_list (Some f) = function_of f ∷ []

-- the set has the addresses of the targets
abbrev pub HasAddresses : List Targets → BTreeSet ℕ → Type 0
HasAddresses ts addresses = (at : ℕ) → contains nat_cmp addresses at ≡ list_any (λ t. t.at == at) ts

-- what is said is what the draft has
pub record IsDraft (says : List Says) (draft : Draft) : Type 0 where
  pub entry : entries says ≡ place_list draft.entry
  pub requires : requires_of 1 says ≡ map note_line_of draft.required.items
  pub ensures : ensures_of 1 says ≡ map note_line_of draft.ensured.items
  pub asserts : asserts_of 1 says ≡ map assert_of draft.asserts.items
  pub targets : targets_in says ≡ map targets_of draft.targets.items
  pub fixed : fixed_in says ≡ map fixed_of draft.fixed.items
  pub invariants : invariants_of 1 says ≡ draft.invariants.items
  pub contracts : AreContracts says draft.contracts.items
  pub addresses : HasAddresses draft.targets.items draft.addresses
  pub of_entry : list_any is_of_entry says ≡ draft.is_of_entry
  pub contract : list_any is_of_contract says ≡ draft.has_contract

-- the draft names the function, and has else what notes have
pub record IsFinished (draft : Draft) (n : FrameNotes) : Type 0 where
  pub entry : draft.entry ≡ Some n.notes.entry
  pub same : n ≡ record {
    notes = record {
      entry = n.notes.entry;
      required = draft.required;
      ensured = draft.ensured;
      asserts = draft.asserts;
      targets = draft.targets;
      fixed = draft.fixed;
    };
    invariants = draft.invariants;
    contracts = draft.contracts;
  }

-- some targets line names the address
abbrev pub HasTargets : List Says → ℕ → Type 0
HasTargets says at = (t : notes.Targets) × Contains (targets_in says) t × (t.at ≡ at)
