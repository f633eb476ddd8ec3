-- What was found over an image, as what is told of its file.
use Rattle.std.proofs.Common.{◌≡◌, ℕ, ◌≤◌, Bool, List, [], length, ap, refl, subst, sym}
use Rattle.std.specs.Prelude.{map}
use Rattle.answer_spec.specs.FrameAnswers.{dialect_for}
use Rattle.bilv_spec.specs.ElfFaults.{IsImage}
use Rattle.bilv_spec.specs.Files.{machine_of, program_of}
use Rattle.bilv_spec.specs.Run.{Program}
use Rattle.call_spec.specs.Calls as calls
use Rattle.call_spec.specs.Calls.{Options}
use Rattle.machine_spec.specs.Machine.{Machine}
use Rattle.notes_spec.specs.FrameNotes.{IsFrameText}
use Rattle.notes_spec.specs.Programs.{vocabulary_of}
use Rattle.notes_spec.specs.Scopes.{in_dialect}
use Rattle.notes_spec.specs.Verified.{AreNotesRefusedIn, notes_limit}
use Rattle.notes_value.specs.NoteViews.{notes_of}
use Rattle.notes_value.specs.declared.notes.Contract.{Contract}
use Rattle.note_check.specs.Checks.{AreWarnings}
use Rattle.note_check.specs.Reached.{whole_from}
use Rattle.note_check.specs.declared.warning.Warning.{Warning}
use Rattle.bilv_top.specs.Due.{AreNotesAnsweredIn}
use Rattle.bilv_top.specs.Frames.{IsFramedBy, framed_of, whole_by, whole_with}
use Rattle.bilv_top.specs.declared.framed.Framed.{Framed}
use Rattle.suite_check.specs.Warned.{IsChecked, IsRead, whole, unfound}

-- the warnings about a program are those about what the file and the notes are
pub warned_whole : (rvc : Bool) (file image : List ℕ) (o : Options) (m : Machine) (p : Program) (f : Framed) (invariants : List ℕ) (contracts : List Contract)
    (found : List Warning) → invariants ≡ f.invariants.items → contracts ≡ f.contracts.items →
    p ≡ program_of m image (notes_of f.found.notes) f.found.entry → machine_of o image ≡ m →
    AreWarnings rvc file (whole_from p invariants contracts) found → AreWarnings rvc file (whole_by (machine_of o image) image f) found
warned_whole rvc file image o m p f invariants contracts found one two three four is =
    subst (λ (n : Machine). AreWarnings rvc file (whole_by n image f) found) (sym four)
    (subst (λ (q : Program). AreWarnings rvc file (whole_with q f) found) three
    (subst (λ (cs : List Contract). AreWarnings rvc file (whole_from p f.invariants.items cs) found) two
    (subst (λ (ns : List ℕ). AreWarnings rvc file (whole_from p ns contracts) found) one is)))

pub whole_told : (o : Options) (file image text : List ℕ) (f : Framed) (found : List Warning) → image ≡ file → IsImage file → length text ≤ notes_limit →
    f.found.text.items ≡ text → IsFramedBy o image f → AreWarnings o.compressed file (whole_by (machine_of o image) image f) found →
    IsChecked o file text 0 [] found
whole_told o file image text f found same accepted short is by warned =
    let by_file = subst (λ (x : List ℕ). IsFramedBy o x f) same by in
    let told = subst (λ (x : List ℕ). AreWarnings o.compressed file (whole_by (machine_of o x) x f) found) same warned in
    let says = subst (λ (t : List ℕ). IsFrameText (in_dialect (dialect_for t) (vocabulary_of o file)) t (framed_of f)) is by_file.says in
    whole (whole_by (machine_of o file) file f) accepted short (framed_of f, f.found.entry, says, by_file.at, refl) told refl refl

pub unfound_told : (o : Options) (file image text : List ℕ) (a : calls.Answer) (found : List Warning) → image ≡ file → IsImage file →
    AreNotesAnsweredIn (dialect_for text) o image text a → IsRead o image text found → IsChecked o file text a.status a.text found
unfound_told o file image text a found same accepted is read =
    let refused = subst (λ (x : List ℕ). AreNotesRefusedIn (dialect_for text) o x text is.0) same is.1 in
    unfound accepted (subst (λ (t : List ℕ). AreNotesRefusedIn (dialect_for text) o file text t) (sym (ap (λ (b : calls.Answer). b.text) is.2)) refused)
    (subst (λ (x : List ℕ). IsRead o x text found) same read) (ap (λ (b : calls.Answer). b.status) is.2)
