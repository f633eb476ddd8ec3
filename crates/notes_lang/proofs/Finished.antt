-- Notes whose lines are all good.
use Rattle.std.proofs.Common.{◌≡◌, ◌≢◌, ℕ, ◌+◌, sym, ap, ◌∙◌, subst, List, [], None, length, AllPairs}
use Rattle.notes_spec.specs.Scopes.{Vocabulary}
use Rattle.notes_spec.specs.NotesGrammar.{lines_of}
use Rattle.notes_spec.specs.FrameNotes.{IsFrameText}
use Rattle.notes_spec.specs.NotesFaults.{EntryFault, IsFirstNoteFault, begin_of, no_entry}
use Rattle.notes_spec.proofs.NotesOutcome.{pairs}
use Rattle.notes_lang.specs.declared.drafts.Draft.{Draft}
use Rattle.notes_value.specs.declared.notes.FrameNotes.{FrameNotes}
use Rattle.notes_lang.specs.Framed.{frame_notes_of}
use Rattle.notes_lang.specs.Drafting.{IsFinished, place_list}
use Rattle.notes_lang.specs.Parsing.{IsGoodDraft}
use Rattle.notes_lang.proofs.Contracted.{contracts_are}

pub finished : (v all : Vocabulary) (text : List ℕ) (d : Draft) (n : FrameNotes) → v ≡ all → IsGoodDraft (begin_of v text) (lines_of text) d →
    IsFinished d n → IsFrameText all text (frame_notes_of n)
finished v all text d n same p f =
    let q : IsGoodDraft (begin_of all text) (lines_of text) d = subst (λ n. IsGoodDraft (begin_of n text) (lines_of text) d) same p in
    subst (λ n. IsFrameText all text (frame_notes_of n)) (sym f.same) (record {
      is_notes = record {
        short = q.good.count;
        says = q.says;
        lines = q.good.lines;
        unmixed = q.good.unmixed;
        notes_are = (
          q.is.entry ∙ ap place_list f.entry,
          q.is.requires,
          q.is.ensures,
          q.is.asserts,
          q.is.targets,
          q.is.fixed,
          subst (AllPairs (λ s t. s.at ≢ t.at)) q.is.targets (pairs [] q.says q.good.none_repeats),
        );
      };
      invariants_are = q.is.invariants;
      contracts_are = contracts_are q.says d.contracts.items q.is.contracts;
    })

pub unnamed : (v all : Vocabulary) (text : List ℕ) (d : Draft) (line : ℕ) → v ≡ all → IsGoodDraft (begin_of v text) (lines_of text) d →
    line ≡ length (lines_of text) + 1 → d.entry ≡ None →
    IsFirstNoteFault all text line EntryFault
unnamed v all text d line same p number is =
    let q : IsGoodDraft (begin_of all text) (lines_of text) d = subst (λ n. IsGoodDraft (begin_of n text) (lines_of text) d) same p in
    subst (λ n. IsFirstNoteFault all text n EntryFault) (sym number) (no_entry q.says q.good (q.is.entry ∙ ap place_list is))
