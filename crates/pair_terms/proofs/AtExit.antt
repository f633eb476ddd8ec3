-- What the terms of the exit are asked.
use Rattle.std.proofs.Common.{◌≡◌, ℕ, ◌+◌, ◌<◌, List, length, refl, ap, sym, ◌∙◌, arith, Contains}
use Rattle.std.specs.Prelude.{map, slice_index}
use Rattle.bilv_spec.specs.Notes as notes
use Rattle.notes_value.specs.declared.notes.NoteLine.{NoteLine}
use Rattle.notes_value.specs.NoteViews.{note_line_of}
use Rattle.notes_value.specs.Views.{expr_of}
use Rattle.walk_spec.specs.Unrolling.{IsReadable}
use Rattle.weakest_pre.proofs.Entries.{lines_read, reads_by}
use Rattle.word_spec.specs.RowFiles.{from_to}
use Rattle.term_spec.specs.Terms.{TermNode, ConstantNode, HasWidth}
use Rattle.walk_spec.specs.Unrolled.{UnrolledProgram}
use Rattle.term_spec.specs.Passive.{AreNames}
use Rattle.term_dag.specs.Made.{IsInterned}
use Rattle.term_dag.proofs.Growth.{grew_on, grew_width, interned_grew}
use Rattle.term_names.specs.declared.names.Names.{Names}
use Rattle.term_names.specs.Views.{AreFor, form_of, names_of}
use Rattle.term_names.specs.Chosen.{AreEntryNames, HaveSameForm}
use Rattle.note_terms.proofs.Valued.{names_stay, range_at, range_length}
use Rattle.start_value.specs.declared.layout.Layout.{Layout}
use Rattle.start_value.specs.Starts.{layout_of}
use Rattle.passify.specs.Lasts.{CarriesTo}
use Rattle.pair_terms.specs.Words.{AreOfForm}
use Rattle.pair_terms.specs.Exits.{last_of}
use Rattle.pair_terms.proofs.ExitMade.{names_for}

-- terms for the registers and flags of one program
first_same : (a k b m : ℕ) → from_to a k ≡ from_to b m → 0 < k → 0 < m → a ≡ b
first_same a k b m e l h =
    let one = range_at a k 0 l in
    let other = range_at b m 0 h in
    let both = ap (λ (z : List ℕ). slice_index z 0) e in omega (arith, one, other, both)

count_of : (w : UnrolledProgram) (n : Names) → AreFor w n → length w.registers ≡ length n.registers.items
count_of w n f = ap length f.registers ∙ range_length n.first (length n.registers.items)

pub same_form : (w : UnrolledProgram) (n m : Names) → AreFor w n → AreFor w m → 0 < length w.registers → HaveSameForm n m
same_form w n m f g some =
    let a = count_of w n f in
    let b = count_of w m g in
    record {
      first = first_same n.first (length n.registers.items) m.first (length m.registers.items) (sym f.registers ∙ g.registers) (omega arith) (omega arith);
      registers = sym a ∙ b;
      flags = sym f.flags ∙ g.flags;
    }

pub form_for : (form : Layout) (w : UnrolledProgram) (n : Names) → w.registers ≡ from_to (layout_of form).first (length (layout_of form).registers) →
    w.flags ≡ length (layout_of form).flags → AreFor w n → 0 < length w.registers → AreOfForm form n
form_for form w n r k f some =
    let count = length (layout_of form).registers in
    let a = count_of w n f in
    let b : length w.registers ≡ count = ap length r ∙ range_length (layout_of form).first count in
    record {
      first = first_same n.first (length n.registers.items) (layout_of form).first count (sym f.registers ∙ r) (omega arith) (omega arith);
      registers = sym a ∙ b;
      flags = sym f.flags ∙ k;
    }

-- what is there at the last place stays as the names of the entry are made
pub last_names_stay : (w : UnrolledProgram) (a b c : List TermNode) (low regs flags v p : ℕ) (n m : Names) → CarriesTo w (last_of w) a n →
    AreEntryNames a b low regs flags m → IsInterned b c (ConstantNode 32 v) p → AreNames (form_of n) c (names_of n)
last_names_stay w a b c low regs flags v p n m last entry pc =
    names_stay (form_of n) a c _ _ _ _ _ (names_of n) (grew_on a b c 0 0 0 0 (regs + flags + 1) 0 0 0 0 1 entry.grew (interned_grew b c (ConstantNode 32 v) p pc))
    (names_for w n a last.form last.names)

pub bit_stays : (a b c : List TermNode) (low regs flags v p t : ℕ) (m : Names) → AreEntryNames a b low regs flags m → IsInterned b c (ConstantNode 32 v) p →
    HasWidth a 1 t → HasWidth c 1 t
bit_stays a b c low regs flags v p t m entry pc h =
    grew_width a c _ _ _ _ _ 1 t (grew_on a b c 0 0 0 0 (regs + flags + 1) 0 0 0 0 1 entry.grew (interned_grew b c (ConstantNode 32 v) p pc)) h

pub entry_names_stay : (b c : List TermNode) (v p : ℕ) (m : Names) → IsInterned b c (ConstantNode 32 v) p → AreNames (form_of m) b (names_of m) →
    AreNames (form_of m) c (names_of m)
entry_names_stay b c v p m pc h = names_stay (form_of m) b c _ _ _ _ _ (names_of m) (interned_grew b c (ConstantNode 32 v) p pc) h

-- the ensured lines can be read
pub ensured_read : (w : UnrolledProgram) (n : Names) (lines items : List NoteLine) → lines ≡ items → w.ensures ≡ map note_line_of items → AreFor w n →
    ((l : notes.NoteLine) → Contains w.ensures l → IsReadable w l.says) → (l : NoteLine) → Contains lines l → IsReadable (form_of n) (expr_of l.says)
ensured_read w n lines items e r f h =
    let all = record w { requires = w.ensures } in
    lines_read all n lines items e r f.registers f.flags (λ l k. reads_by w all l.says refl refl (h l k))
