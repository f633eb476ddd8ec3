-- What the reader keeps of lines, line by line.
use Rattle.std.proofs.Common.{◌≡◌, ℕ, suc, ◌+◌, ◌-◌, ◌*◌, ◌^◌, ◌<◌, ◌≤◌, refl, ap, sym, ◌∙◌, subst, arith, Bool, true, false, List, [], ◌∷◌, ◌++◌, Option, Some, None, length, take, drop, get_or, min, map, append_assoc, append-nil, length-append, length-take, zero}
use Rattle.std.specs.Option.{option_map}
use Rattle.std.proofs.Math.Nat.{pow-suc}
use Rattle.std.proofs.Math.Seq.{take-append_seam}
use Rattle.std.specs.Prelude.{Result, Ok, Err, IfOk, IfErr, IfSome, IfNone, ◌==◌, ◌&&◌, not, nat_lt, if◌then◌else◌}
use Rattle.std.specs.List.{list_any, list_all}
use Rattle.std.proofs.lemmas.Bool.Decides.{nat_tests}
use Rattle.machine_spec.specs.Endings.{NamedEnding}
use Rattle.word_spec.specs.Texts.{split_lines}
use Rattle.machine_spec.specs.StateText.{Layout, StateLine, NamedLine, MachineLine, RegisterLine, ByteLine, ChoiceLine, EndLine, StateFault, StateByteFault, value_names, is_byte_below, is_behind_bytes, lines_of_head, unless, or_else, missed, line_refusal, end_refusal, refused_or, first_refused, values_in, bytes_in, choices_in, number_of_bits, Told, StateIs, StateRefused, told_by, told_of, line_of}
use Rattle.machine_spec.proofs.StateSaid.{place_said_of}
use Rattle.state_text.specs.Readings.{told_but, IsBehind, refusal_of, written_by}
use Rattle.state_text.specs.declared.progress.Progress.{Progress}
use Rattle.state_text.specs.declared.draft.Draft.{Draft}
use Rattle.state_text.proofs.Judging.{none}

-- lines in their order, before others
abbrev pub back : List StateLine → List (Option StateLine) → List (Option StateLine)
back [] rest = rest
back (l ∷ before) rest = back before (Some l ∷ rest)

-- what is kept of lines, of which the last stands first, whatever stands behind them
pub record IsKept (layout : Layout) (before : List StateLine) (vs : List ℕ) (bs cs : List (ℕ × ℕ)) : Type 0 where
  pub values : (rest : List (Option StateLine)) → values_in (back before rest) ≡ vs ++ values_in rest
  pub bytes : (rest : List (Option StateLine)) → bytes_in (back before rest) ≡ bs ++ bytes_in rest
  pub choices : (rest : List (Option StateLine)) → choices_in (back before rest) ≡ cs ++ choices_in rest
  pub told : (known : ℕ → Bool) (rest ls : List (Option StateLine)) →
      told_by layout (first_refused layout known [] (back before rest)) ls
      ≡ told_but known (lines_of_head layout + 1) bs (told_by layout (first_refused layout known before rest) ls)
  pub size : list_any is_behind_bytes before ≡ false → length before ≡ min (length before) (lines_of_head layout) + length bs

pub kept_first : (layout : Layout) (n : NamedEnding) → IsKept layout (NamedLine n ∷ []) [] [] []
kept_first layout n = record {
  values = λ rest. refl;
  bytes = λ rest. refl;
  choices = λ rest. refl;
  told = λ known rest ls. refl;
  size = λ e. omega arith;
}

-- a line before others
values_more : (l : StateLine) (rest : List (Option StateLine)) → values_in (Some l ∷ rest) ≡ values_in (Some l ∷ []) ++ values_in rest
values_more (NamedLine n) rest = refl
values_more MachineLine rest = refl
values_more (RegisterLine i v) rest = refl
values_more (ByteLine a v) rest = refl
values_more (ChoiceLine s c) rest = refl
values_more EndLine rest = refl

bytes_more : (l : StateLine) (rest : List (Option StateLine)) → bytes_in (Some l ∷ rest) ≡ bytes_in (Some l ∷ []) ++ bytes_in rest
bytes_more (NamedLine n) rest = refl
bytes_more MachineLine rest = refl
bytes_more (RegisterLine i v) rest = refl
bytes_more (ByteLine a v) rest = refl
bytes_more (ChoiceLine s c) rest = refl
bytes_more EndLine rest = refl

choices_more : (l : StateLine) (rest : List (Option StateLine)) → choices_in (Some l ∷ rest) ≡ choices_in (Some l ∷ []) ++ choices_in rest
choices_more (NamedLine n) rest = refl
choices_more MachineLine rest = refl
choices_more (RegisterLine i v) rest = refl
choices_more (ByteLine a v) rest = refl
choices_more (ChoiceLine s c) rest = refl
choices_more EndLine rest = refl

-- one more byte that may be known
told_more : (known : ℕ → Bool) (n a v : ℕ) (bytes : List (ℕ × ℕ)) (told : Told) →
    told_but known n (bytes ++ (a, v) ∷ []) told ≡ told_but known n bytes (if known a then StateRefused (n + length bytes) StateByteFault else told)
told_more known n a v [] told = ap (λ k. if known a then StateRefused k StateByteFault else told) (omega arith)
told_more known n a v (b ∷ bytes) told =
    ap (λ t. if known b.0 then StateRefused n StateByteFault else t)
    (told_more known (n + 1) a v bytes told
    ∙ ap (λ k. told_but known (n + 1) bytes (if known a then StateRefused k StateByteFault else told)) (omega arith))

pub none_known : (n : ℕ) (bytes : List (ℕ × ℕ)) (told : Told) → told_but none n bytes told ≡ told
none_known n [] told = refl
none_known n (b ∷ bytes) told = none_known (n + 1) bytes told

module _ (layout : Layout) (before : List StateLine) (values : List ℕ) (bytes choices : List (ℕ × ℕ)) (kept : IsKept layout before values bytes choices) where
  -- a line that is not refused, and whose bytes, if any, decide where they are known
  kept_line : (l : StateLine) →
      ((known : ℕ → Bool) (rest ls : List (Option StateLine)) →
      told_but known (lines_of_head layout + 1) bytes (told_by layout (first_refused layout known before (Some l ∷ rest)) ls)
      ≡ told_but known (lines_of_head layout + 1) (bytes ++ bytes_in (Some l ∷ [])) (told_by layout (first_refused layout known (l ∷ before) rest) ls)) →
      (list_any is_behind_bytes (l ∷ before) ≡ false →
      suc (length before) ≡ min (suc (length before)) (lines_of_head layout) + length (bytes ++ bytes_in (Some l ∷ []))) →
      IsKept layout (l ∷ before) (values ++ values_in (Some l ∷ [])) (bytes ++ bytes_in (Some l ∷ [])) (choices ++ choices_in (Some l ∷ []))
  kept_line l told size = record {
    values = λ rest.
        kept.values (Some l ∷ rest) ∙ ap (λ x. values ++ x) (values_more l rest) ∙ sym (append_assoc values (values_in (Some l ∷ [])) (values_in rest));
    bytes = λ rest. kept.bytes (Some l ∷ rest) ∙ ap (λ x. bytes ++ x) (bytes_more l rest) ∙ sym (append_assoc bytes (bytes_in (Some l ∷ [])) (bytes_in rest));
    choices = λ rest.
        kept.choices (Some l ∷ rest) ∙ ap (λ x. choices ++ x) (choices_more l rest) ∙ sym (append_assoc choices (choices_in (Some l ∷ [])) (choices_in rest));
    told = λ known rest ls. kept.told known (Some l ∷ rest) ls ∙ told known rest ls;
    size = size;
  }

  -- a line of no byte
  other_told : (l : StateLine) (known : ℕ → Bool) → line_refusal layout known before l ≡ None → bytes_in (Some l ∷ []) ≡ [] →
      (rest ls : List (Option StateLine)) →
      told_but known (lines_of_head layout + 1) bytes (told_by layout (first_refused layout known before (Some l ∷ rest)) ls)
      ≡ told_but known (lines_of_head layout + 1) (bytes ++ bytes_in (Some l ∷ [])) (told_by layout (first_refused layout known (l ∷ before) rest) ls)
  other_told l known e nothing rest ls =
      ap
      (λ r. told_but known (lines_of_head layout + 1) bytes
      (told_by layout (refused_or (length before + 1) r (first_refused layout known (l ∷ before) rest)) ls))
      e
      ∙ ap (λ x. told_but known (lines_of_head layout + 1) x (told_by layout (first_refused layout known (l ∷ before) rest) ls))
      (sym (ap (λ x. bytes ++ x) nothing ∙ append-nil bytes))

  -- a line of the head
  head_size : length before < lines_of_head layout → (b : List (ℕ × ℕ)) → b ≡ bytes →
      length before ≡ min (length before) (lines_of_head layout) + length bytes →
      suc (length before) ≡ min (suc (length before)) (lines_of_head layout) + length b
  head_size below b same e = omega (arith, ap length same)

  -- a byte's line
  byte_refusal : (known : ℕ → Bool) (a v : ℕ) → line_refusal layout none before (ByteLine a v) ≡ None →
      line_refusal layout known before (ByteLine a v) ≡ (if known a then Some StateByteFault else None)
  byte_refusal known a v e = by_parts (missed layout (length before)) (not (list_any is_behind_bytes before)) (list_all (is_byte_below a) before) (nat_lt 0 v)
      (known a) e
    where
      by_parts : (m : Option StateFault) (x y z t : Bool) → or_else m (unless (x && y && z && true) StateByteFault) ≡ None →
          or_else m (unless (x && y && z && not t) StateByteFault) ≡ (if t then Some StateByteFault else None)
      by_parts None true true true true e = refl
      by_parts None true true true false e = refl
      by_parts None true true false t e = absurd (cc)
      by_parts None true false z t e = absurd (cc)
      by_parts None false y z t e = absurd (cc)
      by_parts (Some f) x y z t e = absurd (cc)

  byte_parts : (a v : ℕ) → line_refusal layout none before (ByteLine a v) ≡ None → lines_of_head layout ≤ length before
  byte_parts a v e = grind (arith, nat_tests, e)

  byte_told : (a v : ℕ) → line_refusal layout none before (ByteLine a v) ≡ None → length before ≡ lines_of_head layout + length bytes →
      (known : ℕ → Bool) (rest ls : List (Option StateLine)) →
      told_but known (lines_of_head layout + 1) bytes (told_by layout (first_refused layout known before (Some (ByteLine a v) ∷ rest)) ls)
      ≡ told_but known (lines_of_head layout + 1) (bytes ++ (a, v) ∷ []) (told_by layout (first_refused layout known (ByteLine a v ∷ before) rest) ls)
  byte_told a v e long known rest ls =
      ap
      (λ r. told_but known (lines_of_head layout + 1) bytes
      (told_by layout (refused_or (length before + 1) r (first_refused layout known (ByteLine a v ∷ before) rest)) ls))
      (byte_refusal known a v e)
      ∙ ap (told_but known (lines_of_head layout + 1) bytes)
      (by_test (known a) (length before + 1) (lines_of_head layout + 1 + length bytes) (first_refused layout known (ByteLine a v
      ∷ before) rest) (omega (arith, long)))
      ∙ sym (told_more known (lines_of_head layout + 1) a v bytes (told_by layout (first_refused layout known (ByteLine a v ∷ before) rest) ls))
    where
      by_test : (t : Bool) (n m : ℕ) (later : Option (ℕ × StateFault)) → n ≡ m →
          told_by layout (refused_or n (if t then Some StateByteFault else None) later) ls
          ≡ (if t then StateRefused m StateByteFault else told_by layout later ls)
      by_test true n m later same = ap (λ k. StateRefused k StateByteFault) same
      by_test false n m later same = refl

  abbrev IsPlaced : StateLine → Type 0
  IsPlaced l = (i v : ℕ) → l ≡ RegisterLine i v → i < length (value_names layout)

  named_place : (n : NamedEnding) → line_refusal layout none before (NamedLine n) ≡ None → length before < lines_of_head layout
  named_place n e = grind (arith, nat_tests, e)

  machine_place : line_refusal layout none before MachineLine ≡ None → length before < lines_of_head layout
  machine_place e = grind (arith, nat_tests, e)

  register_place : (i v : ℕ) → line_refusal layout none before (RegisterLine i v) ≡ None → i < length (value_names layout) →
      length before < lines_of_head layout
  register_place i v e h = grind (arith, nat_tests, e, h)

  byte_behind : (a v : ℕ) → line_refusal layout none before (ByteLine a v) ≡ None → list_any is_behind_bytes before ≡ false
  byte_behind a v e = grind (arith, nat_tests, e)

  pub kept_next : (l : StateLine) → IsPlaced l → line_refusal layout none before l ≡ None →
      IsKept layout (l ∷ before) (values ++ values_in (Some l ∷ [])) (bytes ++ bytes_in (Some l ∷ [])) (choices ++ choices_in (Some l ∷ []))
  kept_next (NamedLine n) placed e =
      kept_line (NamedLine n) (λ known rest ls. other_told (NamedLine n) known e refl rest ls)
      (λ f. head_size (named_place n e) (bytes ++ []) (append-nil bytes) (kept.size f))
  kept_next MachineLine placed e =
      kept_line MachineLine (λ known rest ls. other_told MachineLine known e refl rest ls)
      (λ f. head_size (machine_place e) (bytes ++ []) (append-nil bytes) (kept.size f))
  kept_next (RegisterLine i v) placed e =
      kept_line (RegisterLine i v) (λ known rest ls. other_told (RegisterLine i v) known e refl rest ls)
      (λ f. head_size (register_place i v e (placed i v refl)) (bytes ++ []) (append-nil bytes) (kept.size f))
  kept_next (ByteLine a v) placed e =
      let far = byte_parts a v e in
      let size = kept.size (byte_behind a v e) in
      kept_line (ByteLine a v) (λ known rest ls. byte_told a v e (omega (arith, far, size)) known rest ls)
      (λ f. omega (arith, far, size, length-append bytes ((a, v) ∷ [])))
  kept_next (ChoiceLine s c) placed e =
      kept_line (ChoiceLine s c) (λ known rest ls. other_told (ChoiceLine s c) known e refl rest ls) (λ f. absurd (cc))
  kept_next EndLine placed e = kept_line EndLine (λ known rest ls. other_told EndLine known e refl rest ls) (λ f. absurd (cc))

-- Where the reading of lines stands: some were read, and the others are those of the rest.
pub record Stands (layout : Layout) (all : List (Option StateLine)) (p : Progress) (d : Draft) (rest : List ℕ) (before : List StateLine) : Type 0 where
  pub behind : IsBehind before p
  pub kept : IsKept layout before d.values.items d.bytes.items d.choices.items
  pub whole : back before (map (line_of layout) (split_lines rest)) ≡ all

-- a text of no bytes
pub no_text : (text : List ℕ) → length text ≡ 0 → text ≡ []
no_text [] e = refl
no_text (b ∷ text) e = absurd (omega (arith, e))

pub is_nothing : (t : Bool) (n : ℕ) → t ≡ (n == 0) → t ≡ true → n ≡ 0
is_nothing t n e f = let z : (n == 0) ≡ true = sym e ∙ f in grind (arith, nat_tests, z)

-- what is said of an answer by its kind
pub of_none : {A : Type 0} (P : Type 0) (o : Option A) → o ≡ None → IfNone o P → P
of_none P o e h = subst (λ x. IfNone x P) e h

pub of_some : {A : Type 0} (P : A → Type 0) (o : Option A) (v : A) → o ≡ Some v → IfSome o P → P v
of_some P o v e h = subst (λ x. IfSome x P) e h

pub of_fault : {A B : Type 0} (P : B → Type 0) (r : Result A B) (f : B) → r ≡ Err f → IfErr r P → P f
of_fault P r f e h = subst (λ x. IfErr x P) e h

pub of_value : {A B : Type 0} (P : A → Type 0) (r : Result A B) (v : A) → r ≡ Ok v → IfOk r P → P v
of_value P r v e h = subst (λ x. IfOk x P) e h

-- nothing but the ending was read
pub stands_first : (layout : Layout) (n : NamedEnding) (p : Progress) (d : Draft) (rest : List ℕ) → IsBehind (NamedLine n ∷ []) p → d.values.items ≡ [] →
    d.bytes.items ≡ [] → d.choices.items ≡ [] → Stands layout (Some (NamedLine n) ∷ map (line_of layout) (split_lines rest)) p d rest (NamedLine n ∷ [])
stands_first layout n p d rest h v b c = record { behind = h; kept = rw (v, b, c) (kept_first layout n); whole = refl }

-- the bytes of the lines that were read
back_before : (before : List StateLine) (rest : List (Option StateLine)) → back before rest ≡ back before [] ++ rest
back_before [] rest = refl
back_before (l ∷ before) rest = back_before before (Some l ∷ rest) ∙ sym (append_assoc (back before []) (Some l ∷ []) rest) ∙ ap
    (λ x. x ++ rest) (sym (back_before before (Some l ∷ [])))

back_long : (before : List StateLine) → length (back before []) ≡ length before
back_long [] = refl
back_long (l ∷ before) = ap length (back_before before (Some l ∷ [])) ∙ omega (arith, length-append (back before []) (Some l ∷ []), back_long before)

pub stands_bytes : (layout : Layout) (all : List (Option StateLine)) (p : Progress) (d : Draft) (rest : List ℕ) (before : List StateLine) (line : ℕ) →
    Stands layout all p d rest before → line ≡ p.count + 1 → d.bytes.items ≡ bytes_in (take (line - 1) all)
stands_bytes layout all p d rest before line s e =
    let left : List (Option StateLine) = map (line_of layout) (split_lines rest) in
    let long : length (back before []) ≡ line - 1 = omega (arith, back_long before, s.behind.count, e) in
    let front : take (line - 1) (back before [] ++ left) ≡ back before [] =
    ap (λ k. take k (back before [] ++ left)) (sym long) ∙ take-append_seam (back before []) left in
    sym (append-nil d.bytes.items) ∙ sym (s.kept.bytes []) ∙ ap bytes_in (sym front)
    ∙ ap (λ x. bytes_in (take (line - 1) x)) (sym (back_before before left) ∙ s.whole)

-- the next line is refused
pub stands_refused : (layout : Layout) (known : ℕ → Bool) (all : List (Option StateLine)) (p : Progress) (d : Draft) (rest line others : List ℕ)
    (before : List StateLine) (f : StateFault) →
    Stands layout all p d rest before → split_lines rest ≡ line ∷ split_lines others → refusal_of layout before (line_of layout line) ≡ Some f →
    told_of layout known all ≡ told_but known (lines_of_head layout + 1) d.bytes.items (StateRefused (p.count + 1) f)
stands_refused layout known all p d rest line others before f s split e =
    ap (told_of layout known) (sym s.whole) ∙ s.kept.told known (map (line_of layout) (split_lines rest))
    (back before (map (line_of layout) (split_lines rest)))
    ∙ ap
    (λ ls. told_but known (lines_of_head layout + 1) d.bytes.items
    (told_by layout (first_refused layout known before (map (line_of layout) ls)) (back before (map (line_of layout) (split_lines rest)))))
    split
    ∙ ap (λ r. told_but known (lines_of_head layout + 1) d.bytes.items (told_by layout r (back before (map (line_of layout) (split_lines rest)))))
    (refused_here (line_of layout line) (map (line_of layout) (split_lines others)) e)
    ∙ ap (λ n. told_but known (lines_of_head layout + 1) d.bytes.items (StateRefused (n + 1) f)) (sym s.behind.count)
  where
    known_refusal : (l : StateLine) → line_refusal layout none before l ≡ Some f → line_refusal layout known before l ≡ Some f
    known_refusal (NamedLine n) e = e
    known_refusal MachineLine e = e
    known_refusal (RegisterLine i v) e = e
    known_refusal (ByteLine a v) e =
        by_parts (missed layout (length before)) (not (list_any is_behind_bytes before)) (list_all (is_byte_below a) before) (nat_lt 0 v) (known a) e
      where
        by_parts : (m : Option StateFault) (x y z t : Bool) → or_else m (unless (x && y && z && true) StateByteFault) ≡ Some f →
            or_else m (unless (x && y && z && not t) StateByteFault) ≡ Some f
        by_parts None true true true t e = absurd (cc)
        by_parts None true true false t e = e
        by_parts None true false z t e = e
        by_parts None false y z t e = e
        by_parts (Some g) x y z t e = e
    known_refusal (ChoiceLine s c) e = e
    known_refusal EndLine e = e

    refused_here : (o : Option StateLine) (ls : List (Option StateLine)) → refusal_of layout before o ≡ Some f →
        first_refused layout known before (o ∷ ls) ≡ Some (length before + 1, f)
    refused_here None ls e = ap (λ x. option_map (λ g. (length before + 1, g)) x) e
    refused_here (Some l) ls e = ap (λ r. refused_or (length before + 1) r (first_refused layout known (l ∷ before) ls)) (known_refusal l e)

-- the next line is kept
pub stands_next : (layout : Layout) (all : List (Option StateLine)) (p q : Progress) (d e : Draft) (rest line others : List ℕ) (before : List StateLine)
    (l : StateLine) →
    Stands layout all p d rest before → split_lines rest ≡ line ∷ split_lines others → line_of layout line ≡ Some l → line_refusal layout none before l ≡ None →
    IsBehind (l ∷ before) q → e.values.items ≡ d.values.items ++ values_in (Some l ∷ []) → e.bytes.items ≡ d.bytes.items ++ bytes_in (Some l ∷ []) →
    e.choices.items ≡ d.choices.items ++ choices_in (Some l ∷ []) → Stands layout all q e others (l ∷ before)
stands_next layout all p q d e rest line others before l s split is free behind values bytes choices = record {
  behind = behind;
  kept =
      subst (λ x. IsKept layout (l ∷ before) x e.bytes.items e.choices.items) (sym values)
      (subst (λ x. IsKept layout (l ∷ before) (d.values.items ++ values_in (Some l ∷ [])) x e.choices.items) (sym bytes)
      (subst (λ x. IsKept layout (l ∷ before) (d.values.items ++ values_in (Some l ∷ [])) (d.bytes.items ++ bytes_in (Some l ∷ [])) x) (sym choices)
      (kept_next layout before d.values.items d.bytes.items d.choices.items s.kept l
      (λ i v same. place_said_of layout line i v (is ∙ ap (λ x. Some x) same)) free)));
  whole =
      ap (λ x. back before (x ∷ map (line_of layout) (split_lines others))) (sym is) ∙ ap (λ x. back before (map (line_of layout) x)) (sym split) ∙ s.whole;
}

-- the text ends, and misses something
pub end_refused : (layout : Layout) (known : ℕ → Bool) (all : List (Option StateLine)) (p : Progress) (d : Draft) (rest : List ℕ) (before : List StateLine)
    (f : StateFault) →
    Stands layout all p d rest before → length rest ≡ 0 → end_refusal layout before ≡ Some f →
    told_of layout known all ≡ told_but known (lines_of_head layout + 1) d.bytes.items (StateRefused (p.count + 1) f)
end_refused layout known all p d rest before f s nothing e =
    ap (told_of layout known) (sym (at_end ∙ s.whole)) ∙ s.kept.told known [] (back before [])
    ∙ ap (λ r. told_but known (lines_of_head layout + 1) d.bytes.items (told_by layout (refused_or (length before + 1) r None) (back before []))) e
    ∙ ap (λ n. told_but known (lines_of_head layout + 1) d.bytes.items (StateRefused (n + 1) f)) (sym s.behind.count)
  where
    at_end : back before [] ≡ back before (map (line_of layout) (split_lines rest))
    at_end = ap (λ x. back before (map (line_of layout) (split_lines x))) (sym (no_text rest nothing))

-- the text ends, and all was read
pub end_told : (layout : Layout) (known : ℕ → Bool) (n : NamedEnding) (ls : List (Option StateLine)) (p : Progress) (d : Draft) (rest : List ℕ)
    (before : List StateLine) →
    Stands layout (Some (NamedLine n) ∷ ls) p d rest before → length rest ≡ 0 → end_refusal layout before ≡ None →
    told_of layout known (Some (NamedLine n) ∷ ls)
    ≡ told_but known (lines_of_head layout + 1) d.bytes.items (StateIs (record { named = n; start = written_by layout d }))
end_told layout known n ls p d rest before s nothing e =
    ap (told_of layout known) (sym all) ∙ s.kept.told known [] (back before [])
    ∙ ap (λ r. told_but known (lines_of_head layout + 1) d.bytes.items (told_by layout (refused_or (length before + 1) r None) (back before []))) e
    ∙ ap (λ x. told_but known (lines_of_head layout + 1) d.bytes.items (told_by layout None x)) all
    ∙ ap (λ w. told_but known (lines_of_head layout + 1) d.bytes.items (StateIs (record { named = n; start = w })))
    (written (values_in ls) (bytes_in ls) (choices_in ls) (ap values_in (sym all) ∙ s.kept.values [] ∙ append-nil d.values.items)
    (ap bytes_in (sym all) ∙ s.kept.bytes [] ∙ append-nil d.bytes.items) (ap choices_in (sym all) ∙ s.kept.choices [] ∙ append-nil d.choices.items))
  where
    all : back before [] ≡ Some (NamedLine n) ∷ ls
    all = ap (λ x. back before (map (line_of layout) (split_lines x))) (sym (no_text rest nothing)) ∙ s.whole

    k : ℕ
    k = length layout.registers

    written : (values : List ℕ) (bytes choices : List (ℕ × ℕ)) → values ≡ d.values.items → bytes ≡ d.bytes.items → choices ≡ d.choices.items →
        record {
          regs = take (length layout.registers) values;
          flags = number_of_bits
              (drop (length layout.registers) values);
          bytes = bytes;
          choices = choices;
        }
        ≡ written_by layout d
    written values bytes choices v b c = rw (v, b, c) refl

-- one more bit
number_suc : (bits : List ℕ) (i : ℕ) → i < length bits → number_of_bits (take (suc i) bits) ≡ number_of_bits (take i bits) * 2 + get_or bits i 0
number_suc [] i h = absurd (omega arith)
number_suc (b ∷ bits) zero h = omega arith
number_suc (b ∷ bits) (suc i) h =
    let later = number_suc bits i (omega arith) in
    let long : length (take (suc i) bits) ≡ suc i = length-take (suc i) bits ∙ omega arith in
    let short : length (take i bits) ≡ i = length-take i bits ∙ omega arith in
    let more : b * 2 ^ suc i ≡ b * (2 ^ i) * 2 = omega (arith, ap (λ k. b * k) (pow-suc 2 i)) in
    omega (arith, later, ap (λ k. b * 2 ^ k) long, ap (λ k. b * 2 ^ k) short, more)

pub number_more : (bits : List ℕ) (i : ℕ) → i < length bits → number_of_bits (take (i + 1) bits) ≡ number_of_bits (take i bits) * 2 + get_or bits i 0
number_more bits i h = let same : i + 1 ≡ suc i = omega arith in ap (λ k. number_of_bits (take k bits)) same ∙ number_suc bits i h
