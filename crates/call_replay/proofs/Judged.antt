-- Known bytes and heads in a text with blocks, by those before the blocks.
use Rattle.std.proofs.Common.{◌≡◌, ℕ, ◌+◌, refl, ap, sym, ◌∙◌, Bool, true, false, List, [], ◌∷◌, Option, Some, None, length, MatchOption}
use Rattle.std.specs.Prelude.{is_some, nat_lt, if◌then◌else◌}
use Rattle.std.specs.Option.{option_map}
use Rattle.bilv_spec.specs.Points.{is_known_at}
use Rattle.frame_spec.specs.Frames.{contract_at, is_head}
use Rattle.frame_spec.specs.FrameVerdict.{Whole}
use Rattle.machine_spec.specs.StateText.{Layout, StateRefused, StateByteFault, lines_of_head}
use Rattle.state_text.specs.Readings.{told_but}
use Rattle.frame_texts_spec.specs.CallReplays.{call_checks, frame_checks, frame_named, rank_named}
use Rattle.frame_texts_spec.specs.CallTexts.{CallChecks, CallTold, CallRefused, FrameName, OfFramed, call_text_of}
use Rattle.frame_texts_spec.specs.FrameTexts.{Checks, FramedTold, FramedRefused, OfPart, HeadFault, bad_return}
use Rattle.frame_text.specs.Readings.{JudgedHead, known_but, line_of_mark, lines_of_begin, stack_but}
use Rattle.machine_spec.specs.StateText.{value_names}
use Rattle.frame_replay.proofs.Judged.{no_byte, none_known, one_known}
use Rattle.call_text.specs.Readings.{called_but, checks_by, passed, unless_framed}
use Rattle.call_text.specs.Texts.{changes_at}
use Rattle.call_text.specs.declared.text.ContractChanges.{ContractChanges}
use Rattle.call_replay.specs.Readings.{changes_in, known_in}
use Rattle.call_replay.proofs.Changes.{checks_are}
use Rattle.call_replay.proofs.Ranked.{known_named, none_named}

-- what is told hangs on what each address is
pub known_alike : (P Q : ℕ → Bool) → ((a : ℕ) → P a ≡ Q a) → (n : ℕ) (bytes : List (ℕ × ℕ)) (told : FramedTold) →
    known_but P n bytes told ≡ known_but Q n bytes told
known_alike P Q same n [] told = refl
known_alike P Q same n (b ∷ bytes) told =
    ap (λ t. if t then FramedRefused n (OfPart StateByteFault) else known_but P (n + 1) bytes told) (same b.0)
    ∙ ap (λ u. if Q b.0 then FramedRefused n (OfPart StateByteFault) else u) (known_alike P Q same (n + 1) bytes told)

-- the line of a known byte, as one of a text without a head part tells it
pub line_known : (known : ℕ → Bool) (n : ℕ) (bytes : List (ℕ × ℕ)) (told : FramedTold) (o : Option ℕ) →
    MatchOption o (told_but known n bytes no_byte ≡ no_byte) (λ k. told_but known n bytes no_byte ≡ StateRefused k StateByteFault) →
    MatchOption o (known_but known n bytes told ≡ told) (λ k. known_but known n bytes told ≡ FramedRefused k (OfPart StateByteFault))
line_known known n bytes told None e = none_known known told n bytes e
line_known known n bytes told (Some k) e = one_known known told n k bytes e

module _ (layout : Layout) (c : Checks) (known : ℕ → Bool) (first : ℕ) (bytes : List (ℕ × ℕ)) (is : first ≡ lines_of_head layout + 1)
    (same : (a : ℕ) → c.known a ≡ known a) where
  known_same : (told : FramedTold) → known_but c.known (lines_of_head layout + 1) bytes told ≡ known_but known first bytes told
  known_same told =
      known_alike c.known known same (lines_of_head layout + 1) bytes told ∙ ap (λ n. known_but known n bytes told) (sym is)

  -- a known byte goes first
  pub byte_first : (n : ℕ) → ((told : FramedTold) → known_but known first bytes told ≡ FramedRefused n (OfPart StateByteFault)) → (o : Option JudgedHead)
      (told : CallTold) → called_but layout c bytes o told ≡ CallRefused n (OfFramed (OfPart StateByteFault))
  byte_first n one None told = ap (λ t. unless_framed t told) (known_same passed ∙ one passed)
  byte_first n one (Some h) told =
      let behind = known_but c.kept (lines_of_begin layout bytes h.stack + length (value_names layout) + 1) h.bytes passed in
      let head = if c.heads h.at then stack_but (bad_return c.returns (line_of_mark layout bytes + 1) h.stack) behind
      else FramedRefused (line_of_mark layout bytes) HeadFault in
      ap (λ t. unless_framed t told) (known_same head ∙ one head)

  -- then the line of a head, where no address is one
  pub head_then : (n : ℕ) → ((told : FramedTold) → known_but known first bytes told ≡ told) → ((a : ℕ) → c.heads a ≡ false) → n ≡ first + length bytes →
      (o : Option JudgedHead) → is_some o ≡ true → (told : CallTold) → called_but layout c bytes o told ≡ CallRefused n (OfFramed HeadFault)
  head_then n none free line None some told = absurd (let z : false ≡ true = some in cc)
  head_then n none free line (Some h) some told =
      let behind = known_but c.kept (lines_of_begin layout bytes h.stack + length (value_names layout) + 1) h.bytes passed in
      let stack = stack_but (bad_return c.returns (line_of_mark layout bytes + 1) h.stack) behind in
      let place : line_of_mark layout bytes ≡ n = ap (λ k. k + length bytes) (sym is) ∙ sym line in
      ap (λ t. unless_framed t told)
      (known_same (if c.heads h.at then stack else FramedRefused (line_of_mark layout bytes) HeadFault)
      ∙ none (if c.heads h.at then stack else FramedRefused (line_of_mark layout bytes) HeadFault)
      ∙ ap (λ b. if b then stack else FramedRefused (line_of_mark layout bytes) HeadFault) (free h.at)
      ∙ ap (λ k. FramedRefused k HeadFault) place)

  -- else what is told
  pub none_judged : ((told : FramedTold) → known_but known first bytes told ≡ told) → (o : Option JudgedHead) → is_some o ≡ false → (told : CallTold) →
      called_but layout c bytes o told ≡ told
  none_judged none None some told = ap (λ t. unless_framed t told) (known_same passed ∙ none passed)
  none_judged none (Some h) some told = absurd (let z : true ≡ false = some in cc)

-- ---- what a text says of a program without invariants, where a reader without tests has read it

pub some_mapped : {X Y : Type 0} (f : X → Y) (o : Option X) → is_some (option_map f o) ≡ is_some o
some_mapped f None = refl
some_mapped f (Some x) = refl

module _ (layout : Layout) (w : Whole) (none : w.invariants ≡ []) (returns : ℕ → Bool) (l items : List ContractChanges) (listed : l ≡ items)
    (same : (a : ℕ) → changes_at items a ≡ option_map changes_in (contract_at w.contracts a)) (text : List ℕ) where
  pub told_by : (f g : FrameName) (bytes code : List (ℕ × ℕ)) (h : Option JudgedHead) (told r : CallTold) (own has_head : Bool) (rank : ℕ) →
      call_text_of layout (checks_by (frame_checks w returns) l) text ≡ called_but layout (frame_checks w returns f) bytes h told →
      g ≡ f → rank ≡ rank_named w g → own ≡ nat_lt rank (length w.contracts) → is_some h ≡ has_head → code ≡ bytes →
      (((a : ℕ) → is_known_at (frame_named w f).program a ≡ known_in w.program own a) → ((a : ℕ) → is_head (frame_named w f) a ≡ false) →
      is_some h ≡ has_head → called_but layout (frame_checks w returns f) code h told ≡ r) →
      call_text_of layout (call_checks w returns) text ≡ r
  told_by f g bytes code h told r own has_head rank is names ranks test some alike judged =
      ap (λ (c : CallChecks). call_text_of layout c text) (sym (checks_are w l items listed same returns)) ∙ is
      ∙ ap (λ (bs : List (ℕ × ℕ)). called_but layout (frame_checks w returns f) bs h told) (sym alike)
      ∙ judged (known_named w f own (test ∙ ap (λ k. nat_lt k (length w.contracts)) (ranks ∙ ap (rank_named w) names))) (none_named w f none) some
