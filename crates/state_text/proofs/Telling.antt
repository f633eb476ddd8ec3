-- What a text says by what its first line and the lines behind it say.
use Rattle.std.proofs.Common.{◌≡◌, ℕ, ◌+◌, ◌-◌, ◌^◌, ◌%◌, ◌<◌, ◌≤◌, refl, ap, sym, ◌∙◌, arith, Bool, false, List, [], ◌∷◌, Option, Some, None, length, take, drop, map, mod-eq_of_lt, lt_of_lt_of_le}
use Rattle.std.specs.Prelude.{nat_le}
use Rattle.std.proofs.Math.Nat.{pow-le-pow_right}
use Rattle.std.proofs.lemmas.Bool.Decides.{nat_tests}
use Rattle.machine_spec.specs.Endings.{NamedEnding}
use Rattle.word_spec.specs.Texts.{split_lines}
use Rattle.machine_spec.specs.StateText.{Layout, StateText, StateLine, NamedLine, StateRegisterFault, StateEndFault, lines_of_head, unless, or_else, refused_or, number_of_bits, bytes_in, Told, StateIs, StateRefused, told_by, told_of, line_of, state_of}
use Rattle.machine_spec.proofs.StateRead.{told_is_printed}
use Rattle.start_value.specs.Starts.{layout_of}
use Rattle.state_text.specs.Readings.{fault_of, told_but, IsRefused, HasBytes, IsRefusedBy, written_by}
use Rattle.state_text.specs.declared.state_fault.ParseFault.{ParseFault}
use Rattle.state_text.specs.declared.state_fault.ParseFault.TheVariants.{Refused, Memory}
use Rattle.start_value.specs.declared.layout.Layout.{Layout as Machine}
use Rattle.start_value.specs.declared.layout.Layout.TheVariants.{Rv32, Arm}
use Rattle.state_text.specs.declared.draft.Draft.{Draft}
use Rattle.state_text.proofs.Judging.{none}
use Rattle.state_text.proofs.Keeping.{none_known, no_text}

-- an empty text
pub empty_told : (layout : Layout) (known : ℕ → Bool) (text : List ℕ) → length text ≡ 0 → state_of layout known text ≡ StateRefused 1 StateRegisterFault
unfolding state_of
empty_told layout known text e =
    ap (λ x. told_of layout known (map (line_of layout) (split_lines x))) (no_text text e)
    ∙ ap (λ t. told_by layout (refused_or 1 (or_else (unless t StateRegisterFault) (unless false StateEndFault)) None) []) fails
  where
    fails : nat_le (lines_of_head layout) 0 ≡ false
    fails = grind (arith, nat_tests)

-- a text by its first line
pub told_first : (layout : Layout) (known : ℕ → Bool) (text first rest : List ℕ) → split_lines text ≡ first ∷ split_lines rest →
    state_of layout known text ≡ told_of layout known (line_of layout first ∷ map (line_of layout) (split_lines rest))
unfolding state_of
told_first layout known text first rest e = ap (λ ls. told_of layout known (map (line_of layout) ls)) e

pub told_named : (layout : Layout) (known : ℕ → Bool) (text first rest : List ℕ) (n : NamedEnding) → split_lines text ≡ first ∷ split_lines rest →
    line_of layout first ≡ Some (NamedLine n) → state_of layout known text ≡ told_of layout known (Some (NamedLine n) ∷ map (line_of layout) (split_lines rest))
told_named layout known text first rest n e is =
    told_first layout known text first rest e ∙ ap (λ o. told_of layout known (o ∷ map (line_of layout) (split_lines rest))) is

-- a text has at most four flags
pub few_flags : (m : Machine) → length (layout_of m).flags ≤ 8
few_flags (Rv32 compressed) = omega arith
few_flags (Arm big profile) = omega arith

-- equal parts
text_same : (n m : NamedEnding) (r s : List ℕ) (f g : ℕ) (b c x y : List (ℕ × ℕ)) → n ≡ m → r ≡ s → f ≡ g → b ≡ c → x ≡ y →
    ◌≡◌ {A = StateText} (record { named = n; start = record { regs = r; flags = f; bytes = b; choices = x } })
    (record { named = m; start = record { regs = s; flags = g; bytes = c; choices = y } })
text_same n m r s f g b c x y p q u v w = rw (p, q, u, v, w) refl

module _ (layout : Layout) (few : length layout.flags ≤ 8) (text : List ℕ) (n : NamedEnding) (d : Draft)
    (told : (known : ℕ → Bool) →
    state_of layout known text ≡ told_but known (lines_of_head layout + 1) d.bytes.items (StateIs (record { named = n; start = written_by layout d }))) where
  abbrev bits : ℕ
  bits = number_of_bits (drop (length layout.registers) d.values.items)

  flags_fit : bits % 256 ≡ bits
  flags_fit =
      let plain = told none ∙ none_known (lines_of_head layout + 1) d.bytes.items (StateIs (record { named = n; start = written_by layout d })) in
      let below : bits < 2 ^ length layout.flags = (told_is_printed layout none text (record { named = n; start = written_by layout d }) plain).0.flags in
      let room : 2 ^ length layout.flags ≤ 2 ^ 8 = pow-le-pow_right {n = 2} (omega arith) {i = length layout.flags} {j = 8} few in
      mod-eq_of_lt (lt_of_lt_of_le below room)

  -- the text that is answered says the state
  pub told_text : (known : ℕ → Bool) (m : NamedEnding) (r : List ℕ) (f : ℕ) (b c : List (ℕ × ℕ)) → m ≡ n → r ≡ take (length layout.registers) d.values.items →
      f ≡ bits % 256 → b ≡ d.bytes.items → c ≡ d.choices.items →
      state_of layout known text
      ≡ told_but known (lines_of_head layout + 1) b (StateIs (record { named = m; start = record { regs = r; flags = f; bytes = b; choices = c } }))
  told_text known m r f b c p q u v w =
      told known ∙ ap (λ x. told_but known (lines_of_head layout + 1) x (StateIs (record { named = n; start = written_by layout d }))) (sym v)
      ∙ ap (λ t. told_but known (lines_of_head layout + 1) b (StateIs t))
      (sym (text_same m n r (take (length layout.registers) d.values.items) f bits b d.bytes.items c d.choices.items p q (u ∙ flags_fit) v w))

-- without known bytes a text is refused as the fault says
pub refused_plain : (layout : Layout) (text : List ℕ) (fault : ParseFault) → IsRefusedBy none layout (state_of layout none text) fault →
    IsRefused layout text fault
refused_plain layout text (Refused line kind bytes) e = e ∙ none_known (lines_of_head layout + 1) bytes.items (StateRefused line (fault_of kind))
refused_plain layout text Memory e = tt

-- the same told of a text
pub refused_same : (known : ℕ → Bool) (layout : Layout) (a b : Told) (fault : ParseFault) → a ≡ b → IsRefusedBy known layout b fault →
    IsRefusedBy known layout a fault
refused_same known layout a b (Refused line kind bytes) e h = e ∙ h
refused_same known layout a b Memory e h = tt

pub bytes_same : (a b : List (Option StateLine)) (fault : ParseFault) → a ≡ b → HasBytes b fault → HasBytes a fault
bytes_same a b (Refused line kind bytes) e h = h ∙ ap (λ x. bytes_in (take (line - 1) x)) (sym e)
bytes_same a b Memory e h = tt

-- a fault before which no bytes were read
pub no_bytes : (known : ℕ → Bool) (n : ℕ) (bytes : List (ℕ × ℕ)) (told : Told) → bytes ≡ [] → told ≡ told_but known n bytes told
no_bytes known n bytes told e = ap (λ b. told_but known n b told) (sym e)
