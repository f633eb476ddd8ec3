-- Lines are judged as their definition judges them.
use Rattle.std.proofs.Common.{◌≡◌, ℕ, ◌+◌, ◌≤◌, refl, ap, sym, ◌∙◌, subst, arith, Bool, true, false, List, ◌∷◌, Option, Some, None, length, min}
use Rattle.std.specs.Prelude.{◌&&◌, not, nat_lt, nat_le}
use Rattle.std.specs.List.{list_any, list_all}
use Rattle.std.specs.Option.{option_map}
use Rattle.std.proofs.lemmas.Bool.Decides.{nat_tests}
use Rattle.machine_spec.specs.StateText.{Layout, StateLine, NamedLine, MachineLine, RegisterLine, ByteLine, ChoiceLine, EndLine, StateFault, StateLineFault, StateChoiceFault, is_byte_below, is_choice_below, is_end_line, unless, or_else, missed, line_refusal, StateRefused, told_of}
use Rattle.state_text.specs.Lines.{line_said, capped_line}
use Rattle.state_text.specs.Readings.{IsBehind, refusal_of}
use Rattle.state_text.specs.declared.state_line.StateLine.{StateLine as Line}
use Rattle.state_text.specs.declared.state_line.StateLine.TheVariants.{Named, Machine, Register, Byte, Choice, End}
use Rattle.state_text.specs.declared.start.NamedEnding.{NamedEnding as Ending}
use Rattle.state_text.specs.declared.progress.Progress.{Progress}

-- no byte is known
abbrev pub none : ℕ → Bool
none a = false

-- a bound that rises
next_bound : (a b next : ℕ) → next ≤ a → (nat_lt a b && nat_le next b) ≡ nat_le (a + 1) b
next_bound a b next h = grind (arith, nat_tests)

is_low : (a next : ℕ) (t : Bool) → t ≡ nat_le next a → t ≡ true → next ≤ a
is_low a next t e f = let z : nat_le next a ≡ true = sym e ∙ f in grind (arith, nat_tests, z)

both_hold : (t : Bool) (a b next : ℕ) → next ≤ a → t ≡ nat_le next b → (nat_lt a b && t) ≡ nat_le (a + 1) b
both_hold t a b next h e = ap (λ x. nat_lt a b && x) e ∙ next_bound a b next h

-- what an accepted byte and an accepted choice show
byte_rises : (layout : Layout) (before : List StateLine) (a v : ℕ) → line_refusal layout none before (ByteLine a v) ≡ None →
    list_all (is_byte_below a) before ≡ true
byte_rises layout before a v e = grind (arith, nat_tests, e)

choice_rises : (layout : Layout) (before : List StateLine) (s c : ℕ) → line_refusal layout none before (ChoiceLine s c) ≡ None →
    list_all (is_choice_below s) before ≡ true
choice_rises layout before s c e = grind (arith, nat_tests, e)

pub byte_next : (layout : Layout) (before : List StateLine) (p : Progress) (l : StateLine) (a v : ℕ) → l ≡ ByteLine a v → IsBehind before p →
    line_refusal layout none before l ≡ None → IsBehind (l ∷ before) (record p { count = p.count + 1; next_byte = a + 1 })
byte_next layout before p l a v is h e =
    subst (λ x. IsBehind (x ∷ before) q) (sym is)
    (record {
      count = omega (arith, h.count);
      bytes = λ b. both_hold (list_all (is_byte_below b) before) a b p.next_byte low (h.bytes b);
      choices = h.choices;
      behind_bytes = h.behind_bytes;
      ended = h.ended;
    })
  where
    q : Progress
    q = record p { count = p.count + 1; next_byte = a + 1 }

    low : p.next_byte ≤ a
    low = is_low a p.next_byte (list_all (is_byte_below a) before) (h.bytes a)
        (byte_rises layout before a v (ap (line_refusal layout none before) (sym is) ∙ e))

pub choice_next : (layout : Layout) (before : List StateLine) (p : Progress) (l : StateLine) (s c : ℕ) → l ≡ ChoiceLine s c → IsBehind before p →
    line_refusal layout none before l ≡ None → IsBehind (l ∷ before) (record p { count = p.count + 1; next_step = s + 1; behind_bytes = true })
choice_next layout before p l s c is h e =
    subst (λ x. IsBehind (x ∷ before) q) (sym is)
    (record {
      count = omega (arith, h.count);
      bytes = h.bytes;
      choices = λ b. both_hold (list_all (is_choice_below b) before) s b p.next_step low (h.choices b);
      behind_bytes = refl;
      ended = h.ended;
    })
  where
    q : Progress
    q = record p { count = p.count + 1; next_step = s + 1; behind_bytes = true }

    low : p.next_step ≤ s
    low = is_low s p.next_step (list_all (is_choice_below s) before) (h.choices s)
        (choice_rises layout before s c (ap (line_refusal layout none before) (sym is) ∙ e))

-- a choice that is taken for 4 is refused as it is
four_or_more : (c : ℕ) → (nat_lt 0 (min c 4) && nat_lt (min c 4) 4) ≡ (nat_lt 0 c && nat_lt c 4)
four_or_more c = grind (arith, nat_tests)

and_parts : (a b x y u v : Bool) → (x && y) ≡ (u && v) → (a && b && x && y) ≡ (a && b && u && v)
and_parts true true x y u v e = e
and_parts true false x y u v e = refl
and_parts false b x y u v e = refl

capped_refusal : (layout : Layout) (before : List StateLine) (l : StateLine) →
    line_refusal layout none before (capped_line l) ≡ line_refusal layout none before l
capped_refusal layout before (NamedLine n) = refl
capped_refusal layout before MachineLine = refl
capped_refusal layout before (RegisterLine i v) = refl
capped_refusal layout before (ByteLine a v) = refl
capped_refusal layout before (ChoiceLine s c) =
    ap (λ t. or_else (missed layout (length before)) (unless t StateChoiceFault))
    (and_parts (not (list_any is_end_line before)) (list_all (is_choice_below s) before) (nat_lt 0 (min c 4)) (nat_lt (min c 4) 4) (nat_lt 0 c) (nat_lt c 4)
    (four_or_more c))
capped_refusal layout before EndLine = refl

capped_same : (layout : Layout) (before : List StateLine) (l : StateLine) → line_refusal layout none before l ≡ None → capped_line l ≡ l
capped_same layout before (NamedLine n) e = refl
capped_same layout before MachineLine e = refl
capped_same layout before (RegisterLine i v) e = refl
capped_same layout before (ByteLine a v) e = refl
capped_same layout before (ChoiceLine s c) e =
    let low : nat_lt c 4 ≡ true = grind (arith, nat_tests, e) in
    let small : min c 4 ≡ c = grind (arith, nat_tests, low) in
    ap (λ x. ChoiceLine s x) small
capped_same layout before EndLine e = refl

-- the judged line is what the text says
pub judged_refused : (layout : Layout) (before : List StateLine) (o : Option StateLine) (l : StateLine) (f : StateFault) → Some l ≡ option_map capped_line o →
    Some f ≡ line_refusal layout none before l → refusal_of layout before o ≡ Some f
judged_refused layout before None l f e r = absurd (cc)
judged_refused layout before (Some x) l f e r =
    let same : l ≡ capped_line x = cc in
    sym (r ∙ ap (line_refusal layout none before) same ∙ capped_refusal layout before x)

pub judged_said : (layout : Layout) (before : List StateLine) (o : Option StateLine) (l : StateLine) → Some l ≡ option_map capped_line o →
    line_refusal layout none before l ≡ None → o ≡ Some l
judged_said layout before None l e r = absurd (cc)
judged_said layout before (Some x) l e r =
    let same : l ≡ capped_line x = cc in
    ap (λ y. Some y) (sym (same ∙ capped_same layout before x (sym (ap (line_refusal layout none before) same ∙ capped_refusal layout before x) ∙ r)))

-- a first line that is no ending's
pub first_other : (layout : Layout) (known : ℕ → Bool) (ls : List (Option StateLine)) (o : Option StateLine) (line : Option Line) →
    option_map line_said line ≡ option_map capped_line o → ((n : Ending) → line ≡ Some (Named n) → ⊥) →
    told_of layout known (o ∷ ls) ≡ StateRefused 1 StateLineFault
first_other layout known ls None line e other = refl
first_other layout known ls (Some MachineLine) line e other = refl
first_other layout known ls (Some (RegisterLine i v)) line e other = refl
first_other layout known ls (Some (ByteLine a v)) line e other = refl
first_other layout known ls (Some (ChoiceLine s c)) line e other = refl
first_other layout known ls (Some EndLine) line e other = refl
first_other layout known ls (Some (NamedLine n)) None e other = absurd (cc)
first_other layout known ls (Some (NamedLine n)) (Some (Named m)) e other = absurd (other m refl)
first_other layout known ls (Some (NamedLine n)) (Some Machine) e other = absurd (cc)
first_other layout known ls (Some (NamedLine n)) (Some (Register i v)) e other = absurd (cc)
first_other layout known ls (Some (NamedLine n)) (Some (Byte a v)) e other = absurd (cc)
first_other layout known ls (Some (NamedLine n)) (Some (Choice s c)) e other = absurd (cc)
first_other layout known ls (Some (NamedLine n)) (Some End) e other = absurd (cc)
