-- What is read of a text in the dialect for it.
use Rattle.std.proofs.Common.{◌≡◌, ℕ, subst, List}
use Rattle.answer_spec.specs.FrameAnswers.{dialect_for}
use Rattle.notes_spec.specs.FrameNotes.{IsFrameText}
use Rattle.notes_spec.specs.Scopes.{in_dialect}
use Rattle.notes_lang.specs.Framed.{frame_notes_of}
use Rattle.notes_lang.specs.Named.{dialect_of}
use Rattle.notes_lang.specs.Parsing.{IsRefused, layout_names, layout_narrow, layout_vocabulary}
use Rattle.notes_lang.specs.declared.notes.Dialect.{Dialect}
use Rattle.notes_lang.specs.declared.notes_text.NotesError.{NotesError}
use Rattle.notes_value.specs.declared.notes.FrameNotes.{FrameNotes}
use Rattle.start_value.specs.declared.layout.Layout.{Layout}

module _ (layout : Layout) (d e : Dialect) (text : List ℕ) (is : dialect_of d ≡ dialect_for text) where
  -- the notes
  pub headed : (n : FrameNotes) → IsFrameText (layout_vocabulary layout d) text (frame_notes_of n) →
      IsFrameText (in_dialect (dialect_for text) (layout_vocabulary layout e)) text (frame_notes_of n)
  headed n said =
      subst (λ x. IsFrameText (record { names = layout_names layout; narrow = layout_narrow layout; dialect = x }) text (frame_notes_of n)) is said

  -- the refusal
  pub unread : (error : NotesError) → IsRefused (layout_vocabulary layout d) text error →
      IsRefused (in_dialect (dialect_for text) (layout_vocabulary layout e)) text error
  unread error refused =
      subst (λ x. IsRefused (record { names = layout_names layout; narrow = layout_narrow layout; dialect = x }) text error) is refused
