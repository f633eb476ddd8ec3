-- What is told by tests of addresses.
use Rattle.std.proofs.Common.{◌≡◌, ℕ, suc, ◌+◌, ◌-◌, ◌≤◌, refl, ap, sym, ◌∙◌, arith, Bool, true, false, List, [], ◌∷◌, ◌++◌, Option, Some, None, length, map, length-append, zero}
use Rattle.std.proofs.lemmas.List.{length-map}
use Rattle.std.specs.Prelude.{◌==◌, if◌then◌else◌}
use Rattle.std.proofs.lemmas.Bool.Decides.{nat_tests}
use Rattle.word_spec.specs.State.{Written}
use Rattle.word_spec.specs.Texts.{joined, split_lines}
use Rattle.machine_spec.specs.StateText.{Layout, StateLine, NamedLine, MachineLine, RegisterLine, ByteLine, ChoiceLine, EndLine, StateText, StateFault, StateByteFault, Told, StateIs, StateRefused, end_refusal, first_refused, flag_bits, line_of, line_refusal, lines_behind, lines_of_head, refused_or, register_lines, state_of, told_by, told_of, value_names, words_of_line}
use Rattle.machine_spec.proofs.StateRead.{told_is_printed}
use Rattle.frame_texts_spec.specs.FrameTexts.{Checks, FramedEnding, FramedTold, FramedRefused, Mark, OfPart, bad_return, is_none, no_checks, plain_told, told_mark}
use Rattle.state_text.specs.Readings.{told_but}
use Rattle.frame_text.specs.Readings.{JudgedHead, begun_but, framed_but, known_but, line_of_mark, lines_of_begin, registers_told, stack_but}

-- a byte that is known, in what is told of the whole text
module _ (f : Told → FramedTold) (number : ℕ → ℕ) (faults : (k : ℕ) (fault : StateFault) → f (StateRefused k fault) ≡ FramedRefused (number k) (OfPart fault))
    (next : (k : ℕ) → number (k + 1) ≡ number k + 1) (known : ℕ → Bool) where
  through : (k : ℕ) (bytes : List (ℕ × ℕ)) (told : Told) → f (told_but known k bytes told) ≡ known_but known (number k) bytes (f told)
  through k [] told = refl
  through k (b ∷ bytes) told = by_test (known b.0) (through (k + 1) bytes told)
    where
      by_test : (t : Bool) → f (told_but known (k + 1) bytes told) ≡ known_but known (number (k + 1)) bytes (f told) →
          f (if t then StateRefused k StateByteFault else told_but known (k + 1) bytes told)
          ≡ (if t then FramedRefused (number k) (OfPart StateByteFault) else known_but known (number k + 1) bytes (f told))
      by_test true later = faults k StateByteFault
      by_test false later = later ∙ ap (λ n. known_but known n bytes (f told)) (next k)

pub plain_through : (n : FramedEnding) (known : ℕ → Bool) (k : ℕ) (bytes : List (ℕ × ℕ)) (told : Told) →
    plain_told n (told_but known k bytes told) ≡ known_but known k bytes (plain_told n told)
plain_through n known = through (plain_told n) (λ k. k) (λ k fault. refl) (λ k. refl) known

pub mark_through : (layout : Layout) (c : Checks) (n : FramedEnding) (line : ℕ) (m : Mark) (rest : List (List ℕ)) (known : ℕ → Bool) (k : ℕ)
    (bytes : List (ℕ × ℕ)) (told : Told) →
    told_mark layout c n line m rest (told_but known k bytes told) ≡ known_but known k bytes (told_mark layout c n line m rest told)
mark_through layout c n line m rest known = through (told_mark layout c n line m rest) (λ k. k) (λ k fault. refl) (λ k. refl) known

pub registers_fault : (n : FramedEnding) (w : Written) (at : ℕ) (stack : List ℕ) (before : ℕ) (closed : Option ℕ) (k : ℕ) (fault : StateFault) →
    registers_told n w at stack before closed (StateRefused k fault) ≡ FramedRefused (before + k - 2) (OfPart fault)
registers_fault n w at stack before None k fault = refl
registers_fault n w at stack before (Some count) k fault = refl

registers_through : (n : FramedEnding) (w : Written) (at : ℕ) (stack : List ℕ) (before : ℕ) (closed : Option ℕ) → 2 ≤ before →
    (known : ℕ → Bool) (k : ℕ) (bytes : List (ℕ × ℕ)) (told : Told) →
    registers_told n w at stack before closed (told_but known k bytes told)
    ≡ known_but known (before + k - 2) bytes (registers_told n w at stack before closed told)
registers_through n w at stack before closed some known =
    through (registers_told n w at stack before closed) (λ k. before + k - 2) (registers_fault n w at stack before closed) (λ k. omega arith) known

-- what is told of a head part, where a text of its registers tells this by the kept bytes
pub begun_through : (layout : Layout) (c : Checks) (bytes : List (ℕ × ℕ)) (n : FramedEnding) (w : Written) (at : ℕ) (stack : List ℕ) (before : ℕ)
    (closed : Option ℕ) (others : List (ℕ × ℕ)) (told said : Told) →
    before ≡ lines_of_begin layout bytes stack → told ≡ told_but c.kept (lines_of_head layout + 1) others said →
    begun_but layout c bytes at stack (registers_told n w at stack before closed told)
    ≡ framed_but layout c bytes (Some (record { at = at; stack = stack; bytes = others })) (registers_told n w at stack before closed said)
begun_through layout c bytes n w at stack before closed others told said place e =
    ap (begun_but layout c bytes at stack)
    (ap (registers_told n w at stack before closed) e
    ∙ registers_through n w at stack before closed (omega (arith, place)) c.kept (lines_of_head layout + 1) others said
    ∙ ap (λ k. known_but c.kept k others (registers_told n w at stack before closed said)) number)
  where
    number : before + (lines_of_head layout + 1) - 2 ≡ lines_of_begin layout bytes stack + length (value_names layout) + 1
    number = omega (arith, place)

-- without tests
unknown : (n : ℕ) (bytes : List (ℕ × ℕ)) (told : FramedTold) → known_but (λ a. false) n bytes told ≡ told
unknown n [] told = refl
unknown n (b ∷ bytes) told = unknown (n + 1) bytes told

any_return : (n : ℕ) (stack : List ℕ) → bad_return (λ a. true) n stack ≡ None
any_return n [] = refl
any_return n (a ∷ stack) = any_return (n + 1) stack

pub untested : (layout : Layout) (bytes : List (ℕ × ℕ)) (h : Option JudgedHead) (told : FramedTold) → framed_but layout no_checks bytes h told ≡ told
untested layout bytes None told = unknown (lines_of_head layout + 1) bytes told
untested layout bytes (Some h) told =
    unknown (lines_of_head layout + 1) bytes
    (stack_but (bad_return no_checks.returns (line_of_mark layout bytes + 1) h.stack)
    (known_but no_checks.kept (lines_of_begin layout bytes h.stack + length (value_names layout) + 1) h.bytes told))
    ∙ ap (λ o. stack_but o (known_but no_checks.kept (lines_of_begin layout bytes h.stack + length (value_names layout) + 1) h.bytes told))
    (any_return (line_of_mark layout bytes + 1) h.stack)
    ∙ unknown (lines_of_begin layout bytes h.stack + length (value_names layout) + 1) h.bytes told

-- a refused line is one of the text's, or the next
abbrev number_in : Option (ℕ × StateFault) → ℕ
number_in None = 0
number_in (Some refused) = refused.0

first_within : (layout : Layout) (known : ℕ → Bool) (before : List StateLine) (ls : List (Option StateLine)) (n : ℕ) (fault : StateFault) →
    first_refused layout known before ls ≡ Some (n, fault) → n ≤ length before + length ls + 1
first_within layout known before [] n fault e = by_end (end_refusal layout before) e
  where
    by_end : (o : Option StateFault) → refused_or (length before + 1) o None ≡ Some (n, fault) → n ≤ length before + 0 + 1
    by_end None e = let z : ◌≡◌ {A = Option (ℕ × StateFault)} None (Some (n, fault)) = e in cc
    by_end (Some x) e = let same : length before + 1 ≡ n = ap number_in e in omega (arith, same)
first_within layout known before (None ∷ rest) n fault e = let same : length before + 1 ≡ n = ap number_in e in omega (arith, same)
first_within layout known before (Some l ∷ rest) n fault e =
    by_line (line_refusal layout known before l) (first_within layout known (l ∷ before) rest n fault) e
  where
    by_line : (o : Option StateFault) → (first_refused layout known (l ∷ before) rest ≡ Some (n, fault) → n ≤ suc (length before) + length rest + 1) →
        refused_or (length before + 1) o (first_refused layout known (l ∷ before) rest) ≡ Some (n, fault) → n ≤ length before + suc (length rest) + 1
    by_line None later e = let low = later e in omega (arith, low)
    by_line (Some x) later e = let same : length before + 1 ≡ n = ap number_in e in omega (arith, same)

told_within : (layout : Layout) (known : ℕ → Bool) (ls : List (Option StateLine)) (n : ℕ) (fault : StateFault) →
    told_of layout known ls ≡ StateRefused n fault → n ≤ length ls + 1
told_within layout known ls n fault e = by_refusal (first_refused layout known [] ls) refl e
  where
    by_lines : (ls : List (Option StateLine)) → told_by layout None ls ≡ StateRefused n fault → n ≤ 1
    by_lines [] e = let same : 1 ≡ n = cc in omega (arith, same)
    by_lines (None ∷ rest) e = let same : 1 ≡ n = cc in omega (arith, same)
    by_lines (Some (NamedLine x) ∷ rest) e = absurd (cc)
    by_lines (Some MachineLine ∷ rest) e = let same : 1 ≡ n = cc in omega (arith, same)
    by_lines (Some (RegisterLine i v) ∷ rest) e = let same : 1 ≡ n = cc in omega (arith, same)
    by_lines (Some (ByteLine a v) ∷ rest) e = let same : 1 ≡ n = cc in omega (arith, same)
    by_lines (Some (ChoiceLine s c) ∷ rest) e = let same : 1 ≡ n = cc in omega (arith, same)
    by_lines (Some EndLine ∷ rest) e = let same : 1 ≡ n = cc in omega (arith, same)

    by_refusal : (r : Option (ℕ × StateFault)) → first_refused layout known [] ls ≡ r → told_by layout r ls ≡ StateRefused n fault → n ≤ length ls + 1
    by_refusal None same e = let low = by_lines ls e in omega (arith, low)
    by_refusal (Some x) same e =
        let at : x.0 ≡ n = cc in
        let low = first_within layout known [] ls x.0 x.1 same in omega (arith, at, low)

pub refused_within : (layout : Layout) (known : ℕ → Bool) (text : List ℕ) (n : ℕ) (fault : StateFault) → state_of layout known text ≡ StateRefused n fault →
    n ≤ length (split_lines text) + 1
unfolding state_of
refused_within layout known text n fault e =
    let low = told_within layout known (map (line_of layout) (split_lines text)) n fault e in
    omega (arith, low, length-map (split_lines text) (line_of layout))

-- the lines of a start without choices
register_length : (i : ℕ) (vs : List ℕ) → length (register_lines i vs) ≡ length vs
register_length i [] = refl
register_length i (v ∷ vs) = ap suc (register_length (i + 1) vs)

flag_length : (n flags : ℕ) → length (flag_bits n flags) ≡ n
flag_length zero flags = refl
flag_length (suc n) flags = ap suc (flag_length n flags)

marked_line : (layout : Layout) (known : ℕ → Bool) (text : List ℕ) (t : StateText) → state_of layout known text ≡ StateIs t → t.start.choices ≡ [] →
    length (split_lines text) ≡ line_of_mark layout t.start.bytes
marked_line layout known text t e none =
    let printed = told_is_printed layout known text t e in
    ap length printed.2 ∙ length-map (NamedLine t.named ∷ lines_behind layout t.start) (λ l. joined (words_of_line layout l)) ∙ omega (
      arith,
      length-append registers (bytes ++ (choices ++ EndLine ∷ [])),
      length-append bytes (choices ++ EndLine ∷ []),
      length-append choices (EndLine ∷ []),
      register_length 0 (w.regs ++ flag_bits (length layout.flags) w.flags),
      length-append w.regs (flag_bits (length layout.flags) w.flags),
      flag_length (length layout.flags) w.flags,
      printed.0.count,
      length-append layout.registers layout.flags,
      length-map w.bytes (λ b. ByteLine b.0 b.1),
      length-map w.choices (λ c. ChoiceLine c.0 c.1),
      ap length none,
    )
  where
    w : Written
    w = t.start

    registers : List StateLine
    registers = register_lines 0 (w.regs ++ flag_bits (length layout.flags) w.flags)

    bytes : List StateLine
    bytes = map (λ b. ByteLine b.0 b.1) w.bytes

    choices : List StateLine
    choices = map (λ c. ChoiceLine c.0 c.1) w.choices

-- nothing is chosen
pub none_by : (choices : List (ℕ × ℕ)) (t : Bool) → t ≡ (length choices == 0) → t ≡ is_none choices
none_by [] t e = e
none_by (x ∷ choices) t e = grind (arith, nat_tests, e)

none_at_all : (choices : List (ℕ × ℕ)) → is_none choices ≡ true → choices ≡ []
none_at_all [] e = refl
none_at_all (x ∷ choices) e = absurd (cc)

-- an entry part without choices that something else closes
pub unchosen : (layout : Layout) (known : ℕ → Bool) (text : List ℕ) (t : StateText) (count : ℕ) → state_of layout known text ≡ StateIs t →
    true ≡ (count == 0) → count ≡ length t.start.choices → (is_none t.start.choices ≡ true) × (length (split_lines text) ≡ line_of_mark layout t.start.bytes)
unchosen layout known text t count e zeros same =
    let none : is_none t.start.choices ≡ true = sym (none_by t.start.choices true (zeros ∙ ap (λ k. k == 0) same)) in
    (none, marked_line layout known text t e (none_at_all t.start.choices none))
