-- Bytes of spans, one span after the other.
use Rattle.std.proofs.Common.{◌≡◌, ℕ, suc, ◌+◌, ◌^◌, ◌<◌, List, [], ◌∷◌, ◌++◌, length, get_or, drop, drop-cons, add-one, map, sym, ap, ◌∙◌, append_assoc, append-nil}
use Rattle.std.proofs.lemmas.Grind.{flat_map-append}
use Rattle.word_spec.specs.Words.{add}
use Rattle.word_spec.specs.Memory.{Endian, span}
use Rattle.word_spec.specs.RowFiles.{from_to}
use Rattle.word_spec.specs.State.{State}
use Rattle.bilv_spec.specs.Notes.{value}
use Rattle.frame_spec.specs.Frames.{written}
use Rattle.notes_value.specs.Views.{expr_of}
use Rattle.notes_value.specs.FrameViews.{writes_of}
use Rattle.notes_value.specs.declared.notes.Writes.{Writes}
use Rattle.table_run.specs.Spans.{bytes_at, bytes_of}
use Rattle.table_run.specs.declared.spans.Span.{Span}
use Rattle.table_run.proofs.Ranges.{bytes_from}

-- the next span
pub bytes_next : (spans : List Span) (i : ℕ) (d : Span) → i < length spans →
    bytes_of (drop i spans) ≡ bytes_at (get_or spans i d) ++ bytes_of (drop (i + 1) spans)
bytes_next spans i d below = ap bytes_of (drop-cons spans i d below) ∙ ap (λ k. bytes_at (get_or spans i d) ++ bytes_of (drop k spans)) (sym (add-one i))

-- the bytes of the next line
pub written_next : (e : Endian) (s : State) (lines : List Writes) (i : ℕ) (w : Writes) (spans more : List Span) (first : ℕ) → first < 2 ^ 32 →
    i < length lines →
    w ≡ get_or lines i w → first ≡ value e (expr_of w.says) s s → more ≡ spans ++ record { first = first; count = w.count } ∷ [] →
    bytes_of spans ++ written e (map writes_of (drop i lines)) s ≡ written e (map writes_of lines) s →
    bytes_of more ++ written e (map writes_of (drop (i + 1) lines)) s ≡ written e (map writes_of lines) s
written_next e s lines i w spans more first low below item is pushed inv =
    ap (λ l. bytes_of l ++ rest) pushed
    ∙ ap (λ l. l ++ rest) (flat_map-append bytes_at spans (record { first = first; count = w.count } ∷ []))
    ∙ ap (λ l. (bytes_of spans ++ l) ++ rest) (append-nil (span first w.count) ∙ sym (bytes_from first w.count low))
    ∙ append_assoc (bytes_of spans) (map (add 32 first) (from_to 0 w.count)) rest
    ∙ ap (λ k. bytes_of spans ++ (map (add 32 first) (from_to 0 w.count) ++ written e (map writes_of (drop k lines)) s)) (add-one i)
    ∙ ap (λ v. bytes_of spans ++ (map (add 32 v) (from_to 0 w.count) ++ written e (map writes_of (drop (suc i) lines)) s)) is
    ∙ ap (λ x. bytes_of spans ++ written e (map writes_of (x ∷ drop (suc i) lines)) s) item
    ∙ ap (λ l. bytes_of spans ++ written e (map writes_of l) s) (sym (drop-cons lines i w below)) ∙ inv
  where
    rest : List ℕ
    rest = written e (map writes_of (drop (i + 1) lines)) s
