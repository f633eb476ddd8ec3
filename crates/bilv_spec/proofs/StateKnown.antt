-- Known bytes are refused by their lines alone.
use Rattle.std.proofs.Common.{◌≡◌, ℕ, ◌+◌, ◌<◌, ◌≤◌, refl, ap, sym, ◌∙◌, arith, Bool, true, false, List, [], ◌∷◌, Option, Some, None, length}
use Rattle.std.specs.Prelude.{◌&&◌, not, nat_lt, map, if◌then◌else◌}
use Rattle.std.specs.List.{list_any, list_all}
use Rattle.std.proofs.lemmas.Bool.Decides.{nat_tests}
use Rattle.word_spec.specs.Texts.{split_lines}
use Rattle.machine_spec.specs.StateText.{Layout, StateLine, NamedLine, MachineLine, RegisterLine, ByteLine, ChoiceLine, EndLine, StateFault, StateByteFault, is_byte_below, is_behind_bytes, unless, or_else, missed, line_refusal, end_refusal, refused_or, first_refused, StateRefused, told_by, told_of, line_of, state_of}
use Rattle.bilv_spec.specs.StateLaws.{first_known, unless_known}
use Rattle.machine_spec.proofs.StateShape.{FirstShape, first_shape}

-- the earlier of a known byte's line and of a refusal
abbrev least : Option ℕ → Option (ℕ × StateFault) → Option (ℕ × StateFault)
least None r = r
least (Some m) None = Some (m, StateByteFault)
least (Some m) (Some r) = if nat_lt m r.0 then Some (m, StateByteFault) else Some r

not_below : (n m : ℕ) → n ≤ m → nat_lt m n ≡ false
not_below n m h = grind (arith, nat_tests)

is_below : (n m : ℕ) → n < m → nat_lt n m ≡ true
is_below n m h = grind (arith, nat_tests)

module _ (known : ℕ → Bool) where
  -- a later known byte leaves a refusal
  late : (i n : ℕ) (f : StateFault) (ls : List (Option StateLine)) → n ≤ i → least (first_known known i ls) (Some (n, f)) ≡ Some (n, f)
  late i n f [] h = refl
  late i n f (None ∷ rest) h = late (i + 1) n f rest (omega arith)
  late i n f (Some (NamedLine x) ∷ rest) h = late (i + 1) n f rest (omega arith)
  late i n f (Some MachineLine ∷ rest) h = late (i + 1) n f rest (omega arith)
  late i n f (Some (RegisterLine j v) ∷ rest) h = late (i + 1) n f rest (omega arith)
  late i n f (Some (ByteLine a v) ∷ rest) h = by_test (known a) (late (i + 1) n f rest (omega arith))
    where
      by_test : (t : Bool) → least (first_known known (i + 1) rest) (Some (n, f)) ≡ Some (n, f) →
          least (if t then Some i else first_known known (i + 1) rest) (Some (n, f)) ≡ Some (n, f)
      by_test true e = rw (not_below n i h) refl
      by_test false e = e
  late i n f (Some (ChoiceLine s c) ∷ rest) h = late (i + 1) n f rest (omega arith)
  late i n f (Some EndLine ∷ rest) h = late (i + 1) n f rest (omega arith)

  module _ (layout : Layout) where
    abbrev refused : List StateLine → List (Option StateLine) → Option (ℕ × StateFault)
    refused before ls = first_refused layout (λ a. false) before ls

    -- a refusal stands behind the lines before it, so that an earlier known byte goes first
    early : (m : ℕ) (before : List StateLine) (ls : List (Option StateLine)) → m ≤ length before → least (Some m) (refused before ls) ≡ Some (m, StateByteFault)
    early m before [] h = by_fault (end_refusal layout before)
      where
        by_fault : (r : Option StateFault) → least (Some m) (refused_or (length before + 1) r None) ≡ Some (m, StateByteFault)
        by_fault None = refl
        by_fault (Some f) = rw (is_below m (length before + 1) (omega arith)) refl
    early m before (None ∷ rest) h = rw (is_below m (length before + 1) (omega arith)) refl
    early m before (Some l ∷ rest) h = by_fault (line_refusal layout (λ a. false) before l) (early m (l ∷ before) rest (omega arith))
      where
        by_fault : (r : Option StateFault) → least (Some m) (refused (l ∷ before) rest) ≡ Some (m, StateByteFault) →
            least (Some m) (refused_or (length before + 1) r (refused (l ∷ before) rest)) ≡ Some (m, StateByteFault)
        by_fault None e = e
        by_fault (Some f) e = rw (is_below m (length before + 1) (omega arith)) refl

    -- a line that is refused alike
    alike : (n i : ℕ) (r : Option StateFault) (rest : List (Option StateLine)) (later without : Option (ℕ × StateFault)) → n ≤ i →
        later ≡ least (first_known known i rest) without → refused_or n r later ≡ least (first_known known i rest) (refused_or n r without)
    alike n i None rest later without h e = e
    alike n i (Some f) rest later without h e = sym (late i n f rest h)

    -- the line of a known byte
    at_byte : (n : ℕ) (gone : Option StateFault) (fits : Bool) (later without : Option (ℕ × StateFault)) → least (Some n) without ≡ Some (n, StateByteFault) →
        refused_or n (or_else gone (Some StateByteFault)) later ≡ least (Some n) (refused_or n (or_else gone (unless fits StateByteFault)) without)
    at_byte n (Some f) fits later without e = rw (not_below n n (omega arith)) refl
    at_byte n None true later without e = sym e
    at_byte n None false later without e = rw (not_below n n (omega arith)) refl

    and_false : (b : Bool) → (b && false) ≡ false
    and_false true = refl
    and_false false = refl

    abbrev fits_byte : List StateLine → ℕ → ℕ → Bool
    fits_byte before a v = not (list_any is_behind_bytes before) && list_all (is_byte_below a) before && nat_lt 0 v

    abbrev IsLeast : (n : ℕ) (before : List StateLine) (ls : List (Option StateLine)) → Type 0
    IsLeast n before ls = first_refused layout known before ls ≡ least (first_known known n ls) (refused before ls)

    byte_line : (n a v : ℕ) (before : List StateLine) (rest : List (Option StateLine)) → n ≡ length before + 1 → IsLeast (n + 1) (ByteLine a v ∷ before) rest →
        (t : Bool) → known a ≡ t → IsLeast n before (Some (ByteLine a v) ∷ rest)
    byte_line n a v before rest e later true t =
        rw (t, and_false (fits_byte before a v), e)
        (at_byte (length before + 1) (missed layout (length before)) (fits_byte before a v && true) (first_refused layout known (ByteLine a v ∷ before) rest)
        (refused (ByteLine a v ∷ before) rest) (early (length before + 1) (ByteLine a v ∷ before) rest (omega arith)))
    byte_line n a v before rest e later false t =
        rw t
        (alike (length before + 1) (n + 1) (line_refusal layout
        (λ a. false) before (ByteLine a v)) rest (first_refused layout known (ByteLine a v ∷ before) rest)
        (refused (ByteLine a v ∷ before) rest) (omega (arith, e)) later)

    by_line : (n : ℕ) (before : List StateLine) (ls : List (Option StateLine)) → n ≡ length before + 1 → IsLeast n before ls
    by_line n before [] e = refl
    by_line n before (None ∷ rest) e = sym (late (n + 1) (length before + 1) _ rest (omega (arith, e)))
    by_line n before (Some (NamedLine x) ∷ rest) e =
        alike (length before + 1) (n + 1) (line_refusal layout known before (NamedLine x)) rest _ _ (omega (arith, e)) (by_line (n + 1) (NamedLine x
        ∷ before) rest (omega (arith, e)))
    by_line n before (Some MachineLine ∷ rest) e =
        alike (length before + 1) (n + 1) (line_refusal layout known before MachineLine) rest _ _ (omega (arith, e)) (by_line (n + 1) (MachineLine
        ∷ before) rest (omega (arith, e)))
    by_line n before (Some (RegisterLine j v) ∷ rest) e =
        alike (length before + 1) (n + 1) (line_refusal layout known before (RegisterLine j v)) rest _ _ (omega (arith, e)) (by_line (n + 1) (RegisterLine j v
        ∷ before) rest (omega (arith, e)))
    by_line n before (Some (ByteLine a v) ∷ rest) e = byte_line n a v before rest e (by_line (n + 1) (ByteLine a v
        ∷ before) rest (omega (arith, e))) (known a) refl
    by_line n before (Some (ChoiceLine s c) ∷ rest) e =
        alike (length before + 1) (n + 1) (line_refusal layout known before (ChoiceLine s c)) rest _ _ (omega (arith, e)) (by_line (n + 1) (ChoiceLine s c
        ∷ before) rest (omega (arith, e)))
    by_line n before (Some EndLine ∷ rest) e =
        alike (length before + 1) (n + 1) (line_refusal layout known before EndLine) rest _ _ (omega (arith, e)) (by_line (n + 1) (EndLine
        ∷ before) rest (omega (arith, e)))

    -- the same of what lines tell
    told_by_least : (ls : List (Option StateLine)) (o : Option ℕ) (r : Option (ℕ × StateFault)) → (r ≡ None → FirstShape layout (λ a. false) ls) →
        told_by layout (least o r) ls ≡ unless_known o (told_by layout r ls)
    told_by_least ls None r shape = refl
    told_by_least ls (Some m) (Some r) shape = by_test (nat_lt m r.0)
      where
        by_test : (t : Bool) → told_by layout (if t then Some (m, StateByteFault) else Some r) ls
            ≡ (if t then StateRefused m StateByteFault else StateRefused r.0 r.1)
        by_test true = refl
        by_test false = refl
    told_by_least ls (Some m) None shape = sym (ap (λ x. unless_known (Some m) (told_by layout None x)) (shape refl).is)

    told_known : (ls : List (Option StateLine)) → told_of layout known ls ≡ unless_known (first_known known 1 ls) (told_of layout (λ a. false) ls)
    told_known ls =
        ap (λ r. told_by layout r ls) (by_line 1 [] ls refl)
        ∙ told_by_least ls (first_known known 1 ls) (refused [] ls) (λ e. first_shape layout (λ a. false) ls e)

pub known_by_line : (layout : Layout) (known : ℕ → Bool) (text : List ℕ) →
    state_of layout known text ≡ unless_known (first_known known 1 (map (line_of layout) (split_lines text))) (state_of layout (λ a. false) text)
unfolding state_of
known_by_line layout known text = told_known known layout (map (line_of layout) (split_lines text))
