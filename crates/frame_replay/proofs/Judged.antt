-- Known bytes in a text with a head part, by those in a text without one.
use Rattle.std.proofs.Common.{◌≡◌, ℕ, ◌+◌, ◌-◌, refl, ap, sym, ◌∙◌, arith, List, [], ◌∷◌, Option, Some, None, length}
use Rattle.std.specs.Borrow.{Bor}
use Rattle.std.specs.Option.{option_copied}
use Rattle.std.specs.Prelude.{Bool, option_map, true, false, if◌then◌else◌}
use Rattle.machine_spec.specs.StateText.{Layout, Told, StateIs, StateRefused, StateLineFault, StateRegisterFault, StateByteFault, StateChoiceFault, StateEndFault, lines_of_head, value_names}
use Rattle.state_text.specs.Readings.{told_but}
use Rattle.frame_texts_spec.specs.FrameTexts.{Checks, FramedTold, FramedRefused, OfPart, HeadFault, bad_return}
use Rattle.frame_text.specs.Readings.{JudgedHead, seen_head, framed_but, known_but, line_of_mark, stack_but}
use Rattle.frame_text.specs.declared.fault.SeenHead.{SeenHead}
use Rattle.machine_spec.specs.Machine.{Machine}
use Rattle.frame_texts_spec.specs.CallReplays.{frame_checks}
use Rattle.frame_texts_spec.specs.CallTexts.{CallTold, CallRefused, ContractFrame, EntryFrame, FrameName, OfFramed}
use Rattle.call_text.specs.Readings.{called_but, passed, unless_framed}
use Rattle.frame_text.specs.Readings.{frame_fault_of, judged_head}
use Rattle.notes_value.specs.declared.notes.Notes.{Notes}
use Rattle.state_text.specs.Starts.{written_head_of}
use Rattle.state_text.specs.declared.start.HeadStart.{HeadStart}
use Rattle.frame_replay.specs.Readings.{checks_by, head_but, is_among, refusal_of, whole_by}
use Rattle.frame_replay.specs.declared.reading.Refusal.{Refusal}

-- what no byte's line tells
abbrev pub no_byte : Told
no_byte = StateRefused 0 StateLineFault

-- the fault of a byte, and else what is told
abbrev byte_or : Told → FramedTold → FramedTold
byte_or (StateIs t) told = told
byte_or (StateRefused n StateLineFault) told = told
byte_or (StateRefused n StateRegisterFault) told = told
byte_or (StateRefused n StateByteFault) told = FramedRefused n (OfPart StateByteFault)
byte_or (StateRefused n StateChoiceFault) told = told
byte_or (StateRefused n StateEndFault) told = told

module _ (known : ℕ → Bool) (told : FramedTold) where
  same : (n : ℕ) (bytes : List (ℕ × ℕ)) → known_but known n bytes told ≡ byte_or (told_but known n bytes no_byte) told
  same n [] = refl
  same n (b ∷ bytes) = by_test (known b.0) (same (n + 1) bytes)
    where
      by_test : (t : Bool) → known_but known (n + 1) bytes told ≡ byte_or (told_but known (n + 1) bytes no_byte) told →
          (if t then FramedRefused n (OfPart StateByteFault) else known_but known (n + 1) bytes told)
          ≡ byte_or (if t then StateRefused n StateByteFault else told_but known (n + 1) bytes no_byte) told
      by_test true e = refl
      by_test false e = e

  pub none_known : (n : ℕ) (bytes : List (ℕ × ℕ)) → told_but known n bytes no_byte ≡ no_byte → known_but known n bytes told ≡ told
  none_known n bytes e = same n bytes ∙ ap (λ t. byte_or t told) e

  pub one_known : (n k : ℕ) (bytes : List (ℕ × ℕ)) → told_but known n bytes no_byte ≡ StateRefused k StateByteFault →
      known_but known n bytes told ≡ FramedRefused k (OfPart StateByteFault)
  one_known n k bytes e = same n bytes ∙ ap (λ t. byte_or t told) e

-- a head part at a head, with return addresses alone on its stack
pub head_right : (layout : Layout) (c : Checks) (mark first : ℕ) (h : JudgedHead) (told after : FramedTold) → c.heads h.at ≡ true →
    None ≡ bad_return c.returns (mark + 1) h.stack → first ≡ mark + length h.stack + lines_of_head layout - 1 →
    known_but c.kept first h.bytes told ≡ after → head_but layout c mark h told ≡ after
head_right layout c mark first h told after head stack is e =
    let line : mark + length h.stack + length (value_names layout) + 1 ≡ first = omega (arith, is) in
    let last = known_but c.kept (mark + length h.stack + length (value_names layout) + 1) h.bytes told in
    ap (λ t. if t then stack_but (bad_return c.returns (mark + 1) h.stack) last else FramedRefused mark HeadFault) head
    ∙ sym (ap (λ o. stack_but o last) stack) ∙ ap (λ n. known_but c.kept n h.bytes told) line ∙ e

-- a text by the bytes of its entry part and by its head part
module _ (layout : Layout) (c : Checks) (first : ℕ) (bytes : List (ℕ × ℕ)) (told : FramedTold) (is : first ≡ lines_of_head layout + 1) where
  pub known_first : (o : Option JudgedHead) (n : ℕ) → told_but c.known first bytes no_byte ≡ StateRefused n StateByteFault →
      framed_but layout c bytes o told ≡ FramedRefused n (OfPart StateByteFault)
  known_first None n e = ap (λ k. known_but c.known k bytes told) (sym is) ∙ one_known c.known told first n bytes e
  known_first (Some h) n e =
      let behind = head_but layout c (line_of_mark layout bytes) h told in
      ap (λ k. known_but c.known k bytes behind) (sym is) ∙ one_known c.known behind first n bytes e

  pub no_head : (o : Option JudgedHead) → o ≡ None → told_but c.known first bytes no_byte ≡ no_byte → framed_but layout c bytes o told ≡ told
  no_head o none e =
      ap (λ x. framed_but layout c bytes x told) none ∙ ap (λ k. known_but c.known k bytes told) (sym is) ∙ none_known c.known told first bytes e

  pub with_head : (o : Option JudgedHead) (h : JudgedHead) → o ≡ Some h → told_but c.known first bytes no_byte ≡ no_byte →
      head_but layout c (first + length bytes) h told ≡ framed_but layout c bytes o told
  with_head o h some e =
      let behind = head_but layout c (line_of_mark layout bytes) h told in
      ap (λ k. head_but layout c (k + length bytes) h told) is
      ∙ sym (ap (λ x. framed_but layout c bytes x told) some ∙ ap (λ k. known_but c.known k bytes behind) (sym is)
      ∙ none_known c.known behind first bytes e)

-- what is told is what the same bytes and the same head part leave
pub told_left : (layout : Layout) (c : Checks) (seen bytes : List (ℕ × ℕ)) (a b : Option JudgedHead) (all told left : FramedTold) → seen ≡ bytes →
    a ≡ b → all ≡ framed_but layout c bytes b told → framed_but layout c seen a told ≡ left → all ≡ left
told_left layout c seen bytes a b all told left same heads is leaves =
    is ∙ sym (ap (λ l. framed_but layout c l a told) same ∙ ap (λ o. framed_but layout c bytes o told) heads) ∙ leaves

-- a head part that is borrowed
pub seen_as : (a : Option (Bor SeenHead)) (b : Option SeenHead) → option_copied a ≡ b → option_map (λ h. seen_head h.now) a ≡ option_map seen_head b
seen_as None b e = ap (option_map seen_head) e
seen_as (Some h) b e = ap (option_map seen_head) e

-- ---- a text with blocks, of a program without contracts

-- the tests of each frame are those of the entry's
pub one_test_of : (m : Machine) (file : List ℕ) (notes : Notes) (invariants returns : List ℕ) (entry : ℕ) (f : FrameName) →
    frame_checks (whole_by m file notes invariants entry) (is_among returns) f ≡ checks_by m file notes invariants returns entry
one_test_of m file notes invariants returns entry EntryFrame = refl
one_test_of m file notes invariants returns entry (ContractFrame a) = refl

-- what is told is what the same bytes and the same head part leave
pub called_left : (layout : Layout) (of c : Checks) (seen bytes : List (ℕ × ℕ)) (a b : Option JudgedHead) (all told left : CallTold) → of ≡ c → seen ≡ bytes →
    a ≡ b → all ≡ called_but layout of bytes b told → called_but layout c seen a told ≡ left → all ≡ left
called_left layout of c seen bytes a b all told left tests same heads is leaves =
    is ∙ ap (λ (x : Checks). called_but layout x bytes b told) tests
    ∙ sym (ap (λ l. called_but layout c l a told) same ∙ ap (λ o. called_but layout c bytes o told) heads) ∙ leaves

-- no test refuses it, or one does
module _ (layout : Layout) (c : Checks) (bytes : List (ℕ × ℕ)) (h : Option JudgedHead) (told : CallTold) where
  pub none_refuses : framed_but layout c bytes h passed ≡ passed → called_but layout c bytes h told ≡ told
  none_refuses e = ap (λ t. unless_framed t told) e

  pub one_refuses : (r : Refusal) → framed_but layout c bytes h passed ≡ refusal_of r →
      called_but layout c bytes h told ≡ CallRefused r.line (OfFramed (frame_fault_of r.kind))
  one_refuses r e = ap (λ t. unless_framed t told) e

-- a head part that was read, and is borrowed
pub read_as : (a : Option (Bor HeadStart)) (b : Option HeadStart) → option_copied a ≡ b →
    option_map (λ h. judged_head (written_head_of h.now)) a ≡ option_map judged_head (option_map written_head_of b)
read_as None b e = ap (λ (o : Option HeadStart). option_map judged_head (option_map written_head_of o)) e
read_as (Some h) b e = ap (λ (o : Option HeadStart). option_map judged_head (option_map written_head_of o)) e
