-- What the parts of a text say, by what each says as a text of its own.
use Rattle.std.proofs.Common.{◌≡◌, ℕ, ◌+◌, ◌≤◌, refl, ap, sym, ◌∙◌, arith, true, false, List, Option, Some, None, length}
use Rattle.std.specs.Prelude.{◌&&◌, if◌then◌else◌}
use Rattle.word_spec.specs.State.{Written}
use Rattle.word_spec.specs.Texts.{split_lines}
use Rattle.machine_spec.specs.StateText.{Layout, StateText, StateFault, Told, StateIs, StateRefused, lines_of_head, told_of}
use Rattle.frame_texts_spec.specs.FrameTexts.{Checks, FramedEnding, FramedTold, FramedIs, FramedRefused, HeadFault, HeadMark, Mark, OfPart, Stack, StackMark, bad_return, closed, entry_part, head_part, head_told, is_none, misplaced, part_of, plain_told, stack_of, told_behind, told_head, told_mark, told_registers, told_stack}
use Rattle.state_text.specs.Readings.{IsRefused, fault_of, told_but}
use Rattle.state_text.specs.declared.state_fault.ParseFault.{ParseFault}
use Rattle.state_text.specs.declared.state_fault.ParseFault.TheVariants as parse
use Rattle.frame_text.specs.Parts.{mark_said}
use Rattle.frame_text.specs.Readings.{IsRefusedAs, begun_but, framed_but, head_part_told, known_but, line_of_fault, line_of_mark, lines_of_begin, registers_told, stack_but}
use Rattle.frame_text.specs.declared.fault.FramedFault.{FramedFault}
use Rattle.frame_text.specs.declared.fault.FramedFault.TheVariants.{Refused, Memory}
use Rattle.frame_text.specs.declared.parts.Mark.{Mark as Found}
use Rattle.frame_text.specs.declared.parts.Mark.TheVariants as found
use Rattle.frame_text.proofs.Tests.{begun_through, mark_through, plain_through, refused_within}

-- the line of a fault
pub fault_within : (layout : Layout) (text : List ℕ) (fault : ParseFault) → IsRefused layout text fault → line_of_fault fault ≤ length (split_lines text) + 1
fault_within layout text (parse.Refused line f bytes) e = refused_within layout (λ a. false) text line (fault_of f) e
fault_within layout text parse.Memory e = omega arith

-- the same told
pub refused_same : (layout : Layout) (c : Checks) (a b : FramedTold) (fault : FramedFault) → a ≡ b → IsRefusedAs layout c b fault → IsRefusedAs layout c a fault
refused_same layout c a b (Refused line f seen) e h = e ∙ h
refused_same layout c a b Memory e h = tt

module _ (layout : Layout) (c : Checks) (n : FramedEnding) where
  -- an entry part that is refused
  pub plain_refused : (told : Told) (line : ℕ) (f : StateFault) (bytes : List (ℕ × ℕ)) →
      told ≡ told_but c.known (lines_of_head layout + 1) bytes (StateRefused line f) →
      plain_told n told ≡ known_but c.known (lines_of_head layout + 1) bytes (FramedRefused line (OfPart f))
  plain_refused told line f bytes e = ap (plain_told n) e ∙ plain_through n c.known (lines_of_head layout + 1) bytes (StateRefused line f)

  pub mark_refused : (place : ℕ) (m : Mark) (rest : List (List ℕ)) (told : Told) (line : ℕ) (f : StateFault) (bytes : List (ℕ × ℕ)) →
      told ≡ told_but c.known (lines_of_head layout + 1) bytes (StateRefused line f) →
      told_mark layout c n place m rest told ≡ known_but c.known (lines_of_head layout + 1) bytes (FramedRefused line (OfPart f))
  mark_refused place m rest told line f bytes e =
      ap (told_mark layout c n place m rest) e ∙ mark_through layout c n place m rest c.known (lines_of_head layout + 1) bytes (StateRefused line f)

  -- an entry part that is told
  module _ (told : Told) (t : StateText) (e : told ≡ told_but c.known (lines_of_head layout + 1) t.start.bytes (StateIs t)) where
    pub plain_read : plain_told n told
        ≡ known_but c.known (lines_of_head layout + 1) t.start.bytes (FramedIs (record { named = n; start = t.start; head = None }))
    plain_read = ap (plain_told n) e ∙ plain_through n c.known (lines_of_head layout + 1) t.start.bytes (StateIs t)

    marked : (place : ℕ) (m : Mark) (rest : List (List ℕ)) →
        told_mark layout c n place m rest told ≡ known_but c.known (lines_of_head layout + 1) t.start.bytes (told_mark layout c n place m rest (StateIs t))
    marked place m rest =
        ap (told_mark layout c n place m rest) e ∙ mark_through layout c n place m rest c.known (lines_of_head layout + 1) t.start.bytes (StateIs t)

    -- closed by the line of a return address
    pub marked_stack : (place : ℕ) (m : Found) (rest : List (List ℕ)) → ((a : ℕ) → m ≡ found.Head a → ⊥) →
        told_mark layout c n place (mark_said m) rest told ≡ known_but c.known (lines_of_head layout + 1) t.start.bytes (FramedRefused place HeadFault)
    marked_stack place (found.Head a) rest other = absurd (other a refl)
    marked_stack place (found.Stack a) rest other = marked place (StackMark a) rest

    -- closed behind choices
    pub marked_choices : (place a : ℕ) (rest : List (List ℕ)) → is_none t.start.choices ≡ false →
        told_mark layout c n place (HeadMark a) rest told ≡ known_but c.known (lines_of_head layout + 1) t.start.bytes (FramedRefused place HeadFault)
    marked_choices place a rest some =
        marked place (HeadMark a) rest
        ∙ ap (λ b. known_but c.known (lines_of_head layout + 1) t.start.bytes
        (if b && c.heads a then told_head layout c n t.start a place (stack_of layout rest) else FramedRefused place HeadFault)) some

    -- closed by the address of a head
    pub marked_head : (place a : ℕ) (rest : List (List ℕ)) → is_none t.start.choices ≡ true → place ≡ line_of_mark layout t.start.bytes →
        told_mark layout c n place (HeadMark a) rest told ≡ head_part_told layout c n t.start a rest
    marked_head place a rest none is =
        marked place (HeadMark a) rest
        ∙ ap (λ b. known_but c.known (lines_of_head layout + 1) t.start.bytes
        (if b && c.heads a then told_head layout c n t.start a place (stack_of layout rest) else FramedRefused place HeadFault)) none
        ∙ ap (λ k. known_but c.known (lines_of_head layout + 1) t.start.bytes
        (if c.heads a then told_head layout c n t.start a k (stack_of layout rest) else FramedRefused k HeadFault)) is

  -- the lines behind the first
  pub parts_open : (ls : List (List ℕ)) (told : Told) → (part_of layout ls).behind ≡ None →
      told ≡ told_of layout c.known (entry_part layout (part_of layout ls).lines) → plain_told n told ≡ told_behind layout c (Some n) (part_of layout ls)
  parts_open ls told none e =
      ap (plain_told n) e
      ∙ ap (λ b. told_behind layout c (Some n) (record { lines = (part_of layout ls).lines; behind = b })) (sym none)

  pub parts_closed : (ls : List (List ℕ)) (told : Told) (place : ℕ) (m : Mark) (rest : List (List ℕ)) → (part_of layout ls).behind ≡ Some (m, rest) →
      place ≡ length (part_of layout ls).lines + 2 → told ≡ told_of layout c.known (closed (entry_part layout (part_of layout ls).lines)) →
      told_mark layout c n place m rest told ≡ told_behind layout c (Some n) (part_of layout ls)
  parts_closed ls told place m rest some is e =
      ap (told_mark layout c n place m rest) e
      ∙ ap (λ k. told_mark layout c n k m rest (told_of layout c.known (closed (entry_part layout (part_of layout ls).lines)))) is
      ∙ ap (λ b. told_behind layout c (Some n) (record { lines = (part_of layout ls).lines; behind = b })) (sym some)

  module _ (w : Written) (at : ℕ) where
    -- the lines behind the address of a head
    module _ (place : ℕ) (s : Stack) (stack : List ℕ) (ls : List (List ℕ)) (told : Told) (same : stack ≡ s.addresses) (rest : ls ≡ s.behind) where
      by_stack : (o : Option ℕ) → told_stack layout c n w at place s o
          ≡ stack_but o
          (told_registers layout c n w at s.addresses (place + length s.addresses) (part_of layout s.behind).lines (part_of layout s.behind).behind)
      by_stack None = refl
      by_stack (Some bad) = refl

      by_part : (o : Option ℕ) →
          told_registers layout c n w at s.addresses (place + length s.addresses) (part_of layout ls).lines (part_of layout ls).behind
          ≡ registers_told n w at s.addresses (place + length s.addresses) o told →
          told_head layout c n w at place s ≡ stack_but (bad_return c.returns (place + 1) stack) (registers_told n w at stack (place + length stack) o told)
      by_part o e =
          by_stack (bad_return c.returns (place + 1) s.addresses)
          ∙ ap (stack_but (bad_return c.returns (place + 1) s.addresses))
          (ap (λ x. told_registers layout c n w at s.addresses (place + length s.addresses) (part_of layout x).lines (part_of layout x).behind) (sym rest) ∙ e)
          ∙ ap (λ x. stack_but (bad_return c.returns (place + 1) x) (registers_told n w at x (place + length x) o told)) (sym same)

      pub head_open_told : (part_of layout ls).behind ≡ None → told ≡ told_of layout c.kept (head_part layout (part_of layout ls).lines) →
          told_head layout c n w at place s ≡ stack_but (bad_return c.returns (place + 1) stack) (registers_told n w at stack (place + length stack) None told)
      head_open_told none e =
          by_part None
          (ap (told_registers layout c n w at s.addresses (place + length s.addresses) (part_of layout ls).lines) none
          ∙ ap (head_told n w at s.addresses (place + length s.addresses)) (sym e))

      pub head_closed_told : (behind : Mark × List (List ℕ)) (count : ℕ) → (part_of layout ls).behind ≡ Some behind →
          count ≡ length (part_of layout ls).lines → told ≡ told_of layout c.kept (closed (head_part layout (part_of layout ls).lines)) →
          told_head layout c n w at place s
          ≡ stack_but (bad_return c.returns (place + 1) stack) (registers_told n w at stack (place + length stack) (Some count) told)
      head_closed_told behind count some is e =
          by_part (Some count)
          (ap (told_registers layout c n w at s.addresses (place + length s.addresses) (part_of layout ls).lines) some
          ∙ ap (misplaced (place + length s.addresses) (place + length s.addresses + length (part_of layout ls).lines + 1)) (sym e)
          ∙ ap (λ k. misplaced (place + length s.addresses) (place + length s.addresses + k + 1) told) (sym is))

    -- an entry part that the address of a head closes
    pub head_part_by : (rest : List (List ℕ)) (stack : List ℕ) (before : ℕ) (o : Option ℕ) (told : Told) →
        told_head layout c n w at (line_of_mark layout w.bytes) (stack_of layout rest)
        ≡ stack_but (bad_return c.returns (line_of_mark layout w.bytes + 1) stack)
        (registers_told n w at stack (line_of_mark layout w.bytes + length stack) o told) →
        before ≡ lines_of_begin layout w.bytes stack →
        head_part_told layout c n w at rest ≡ begun_but layout c w.bytes at stack (registers_told n w at stack before o told)
    head_part_by rest stack before o told e place =
        ap (λ t. known_but c.known (lines_of_head layout + 1) w.bytes (if c.heads at then t else FramedRefused (line_of_mark layout w.bytes) HeadFault)) e
        ∙ ap (λ k. begun_but layout c w.bytes at stack (registers_told n w at stack k o told)) (sym place)

    -- and whose head part is told, but for tests
    pub head_part_read : (rest : List (List ℕ)) (stack : List ℕ) (before : ℕ) (o p : Option ℕ) (others : List (ℕ × ℕ)) (told said : Told) →
        told_head layout c n w at (line_of_mark layout w.bytes) (stack_of layout rest)
        ≡ stack_but (bad_return c.returns (line_of_mark layout w.bytes + 1) stack)
        (registers_told n w at stack (line_of_mark layout w.bytes + length stack) o told) →
        before ≡ lines_of_begin layout w.bytes stack → told ≡ told_but c.kept (lines_of_head layout + 1) others said → o ≡ p →
        head_part_told layout c n w at rest
        ≡ framed_but layout c w.bytes (Some (record { at = at; stack = stack; bytes = others })) (registers_told n w at stack before p said)
    head_part_read rest stack before o p others told said e place read is =
        head_part_by rest stack before o told e place
        ∙ begun_through layout c w.bytes n w at stack before o others told said place read
        ∙ ap (λ x. framed_but layout c w.bytes (Some (record { at = at; stack = stack; bytes = others })) (registers_told n w at stack before x said)) is
