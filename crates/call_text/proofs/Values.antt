-- Values at the places that are due can be written.
use Rattle.std.proofs.Common.{◌≡◌, ℕ, suc, ◌+◌, ◌-◌, ◌≤◌, ◌<◌, sym, ◌∙◌, subst, arith, List, [], ◌∷◌, ◌++◌, Option, Some, None, length, length-append, append-nil, map, drop, All}
use Rattle.std.proofs.lemmas.List.Elements.{All-cons, All-nil}
use Rattle.std.specs.Option.{option_map}
use Rattle.std.specs.Prelude.{min}
use Rattle.machine_spec.specs.StateText.{Layout, StateLine, NamedLine, MachineLine, RegisterLine, ByteLine, ChoiceLine, EndLine, line_of, value_names}
use Rattle.machine_spec.proofs.StateSaid.{line_said}
use Rattle.frame_texts_spec.specs.FrameTexts.{Mark, mark_of}
use Rattle.frame_texts_spec.specs.CallTexts.{BlockLine, BeginsBlock, Changes, HasChanges, OfHead, OfStart, block_line_by, block_line_of, call_of, places}
use Rattle.frame_texts_spec.proofs.BlocksBack.{AllFit}
use Rattle.call_text.specs.Lines.{capped_block}
use Rattle.call_text.specs.Blocks.{IsDue}
use Rattle.call_text.specs.declared.blocks.Act.TheVariants.{Value}

-- a line that says a value is one of a start
value_line : (i v : ℕ) (call : Option (ℕ × ℕ)) (l : Option StateLine) (m : Option Mark) →
    Some (OfStart (RegisterLine i v)) ≡ option_map capped_block (block_line_by call l m) → l ≡ Some (RegisterLine i v)
value_line i v (Some x) l m e = absurd (let z : Some (OfStart (RegisterLine i v)) ≡ Some (BeginsBlock x.0 x.1) = e in cc)
value_line i v None None None e = absurd (let z : ◌≡◌ {A = Option BlockLine} (Some (OfStart (RegisterLine i v))) None = e in cc)
value_line i v None None (Some m) e = absurd (let z : Some (OfStart (RegisterLine i v)) ≡ Some (OfHead m) = e in cc)
value_line i v None (Some (NamedLine n)) m e = absurd (let z : Some (OfStart (RegisterLine i v)) ≡ Some (OfStart (NamedLine n)) = e in cc)
value_line i v None (Some MachineLine) m e = absurd (let z : Some (OfStart (RegisterLine i v)) ≡ Some (OfStart MachineLine) = e in cc)
value_line i v None (Some (RegisterLine j w)) m e = let z : Some (OfStart (RegisterLine i v)) ≡ Some (OfStart (RegisterLine j w)) = e in cc
value_line i v None (Some (ByteLine a w)) m e = absurd (let z : Some (OfStart (RegisterLine i v)) ≡ Some (OfStart (ByteLine a w)) = e in cc)
value_line i v None (Some (ChoiceLine s c)) m e = absurd (let z : Some (OfStart (RegisterLine i v)) ≡ Some (OfStart (ChoiceLine s (min c 4))) = e in cc)
value_line i v None (Some EndLine) m e = absurd (let z : Some (OfStart (RegisterLine i v)) ≡ Some (OfStart EndLine) = e in cc)

-- one more value before others
pub value_fits : (layout : Layout) (text : List ℕ) (said : Option BlockLine) (due : List ℕ) (v : ℕ) (more : List ℕ) → IsDue said due (Value v) →
    said ≡ option_map capped_block (block_line_of layout text) → AllFit layout (drop 1 due) more → AllFit layout due (v ∷ more)
value_fits layout text said [] v more is e fit = absurd (let some = is.0 in omega (arith, some))
value_fits layout text said (i ∷ due) v more is e fit =
    let line = value_line i v (call_of text) (line_of layout text) (mark_of layout text) (sym is.1 ∙ e) in
    ((line_said layout text (RegisterLine i v) line tt).0, fit)

-- where no more is due
pub all_fit : (layout : Layout) (due places values : List ℕ) → length due ≡ 0 →
    ((more : List ℕ) → AllFit layout due more → AllFit layout places (values ++ more)) → AllFit layout places values
all_fit layout [] places values none fit = subst (AllFit layout places) (append-nil values) (fit [] tt)
all_fit layout (i ∷ due) places values none fit = absurd (omega (arith, none))

module _ (layout : Layout) where
  abbrev names : ℕ
  names = length (value_names layout)

  bits_fit : (flags vs : List ℕ) → All (λ f. f < length layout.flags) flags → AllFit layout (map (λ f. names - 1 - f) flags) vs → All (λ v. v ≤ 1) vs
  bits_fit [] [] low fit = All-nil (λ v. v ≤ 1)
  bits_fit [] (v ∷ vs) low fit = absurd fit
  bits_fit (f ∷ flags) [] low fit = absurd fit
  bits_fit (f ∷ flags) (v ∷ vs) low fit =
      let count : names ≡ length layout.registers + length layout.flags = length-append layout.registers layout.flags in
      let small : f < length layout.flags = low 0 f (omega arith) in
      All-cons (λ v. v ≤ 1) v vs (fit.0.2 (omega (arith, count, small))) (bits_fit flags vs (λ k d l. low (suc k) d (omega arith)) fit.1)

  after_registers : (registers flags vs : List ℕ) → All (λ f. f < length layout.flags) flags →
      AllFit layout (map (λ r. r - layout.first) registers ++ map (λ f. names - 1 - f) flags) vs → All (λ v. v ≤ 1) (drop (length registers) vs)
  after_registers [] flags vs low fit = bits_fit flags vs low fit
  after_registers (r ∷ registers) flags [] low fit = absurd fit
  after_registers (r ∷ registers) flags (v ∷ vs) low fit = after_registers registers flags vs low fit.1

  -- the values of flags are bits
  pub flag_values : (x : Changes) (vs : List ℕ) → HasChanges layout x → AllFit layout (places layout x) vs → All (λ v. v ≤ 1) (drop (length x.registers) vs)
  flag_values x vs has fit = after_registers x.registers x.flags vs has.flags fit
