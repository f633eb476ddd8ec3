-- Worked texts, by computation alone.
use Rattle.std.proofs.Common.{◌≡◌, ℕ, refl, List, [], ◌∷◌, ◌++◌, Some, None}
use Rattle.std.specs.Prelude.{◌==◌, ◌-◌, codes, drop, take}
use Rattle.std.specs.Fmt.{digits}
use Rattle.word_spec.specs.State.{Written}
use Rattle.word_spec.specs.Memory.{Big}
use Rattle.word_spec.specs.Profiles.{V4}
use Rattle.machine_spec.specs.StateText.{Layout, arm_layout, StateRegisterFault, StateByteFault, StateEndFault, StateLineFault}
use Rattle.frame_spec.specs.Frames.{InvariantFails}
use Rattle.frame_texts_spec.specs.FrameTexts.{FramedText, NotInductiveBy, FramedTurns, head_line, framed_lines, no_checks, OfPart, HeadFault, FramedTold, FramedIs, FramedRefused, framed_told}

abbrev layout : Layout
layout = arm_layout Big V4

abbrev zeros : List ℕ
zeros = 0 ∷ 0 ∷ 0 ∷ 0 ∷ 0 ∷ 0 ∷ 0 ∷ 0 ∷ 0 ∷ 0 ∷ 0 ∷ 0 ∷ 0 ∷ 0 ∷ 0 ∷ []

abbrev entry : List (ℕ × ℕ) → Written
entry bytes = record { regs = zeros; flags = 9; bytes = bytes; choices = [] }

-- not inductive invariant 4 at 0x00010000 step 2, from a head with one return address: 1 + 1 + 19 + 1 lines, the head's, the stack's, and 19 + 1 + 1 + 1 more
abbrev sample : FramedText
sample = record {
  named = NotInductiveBy (InvariantFails 4) 0x10000 2;
  start = entry ((0x20000, 1) ∷ []);
  head = Some (record {
    at = 0x10000;
    stack = 0x10008 ∷ [];
    start = record (entry ((0x20004, 7) ∷ [])) { choices = (1, 3) ∷ [] };
  });
}

abbrev texts : List (List ℕ)
texts = framed_lines layout sample

-- with lines in the place of those from a number to another
abbrev with_lines : ℕ → ℕ → List (List ℕ) → List (List ℕ)
with_lines first last ls = take (first - 1) texts ++ (ls ++ drop last texts)

abbrev told : List (List ℕ) → FramedTold
told = framed_told layout no_checks

pub whole : told texts ≡ FramedIs sample
unfolding digits
whole = refl

-- the number of backward transfers before a head part
pub turned : told (with_lines 1 1 (codes "unknown unroll 64 at 0x00010000 step 2" ∷ [])) ≡ FramedIs (record sample { named = FramedTurns 64 0x10000 2 })
unfolding digits
turned = refl

-- no head part, whatever the ending names
pub headless : told (take 22 texts ++ codes "end" ∷ []) ≡ FramedIs (record sample { head = None })
unfolding digits
headless = refl

pub no_head : told (with_lines 23 23 []) ≡ FramedRefused 23 HeadFault
unfolding digits
no_head = refl

pub choice_before : told (with_lines 23 22 (codes "choice 0 1" ∷ [])) ≡ FramedRefused 24 HeadFault
unfolding digits
choice_before = refl

pub end_before : told (with_lines 23 22 (codes "end" ∷ [])) ≡ FramedRefused 24 (OfPart StateEndFault)
unfolding digits
end_before = refl

pub two_heads : told (with_lines 24 23 (head_line 0x10000 ∷ [])) ≡ FramedRefused 24 (OfPart StateRegisterFault)
unfolding digits
two_heads = refl

pub late_head : told (with_lines 45 44 (head_line 0x10000 ∷ [])) ≡ FramedRefused 45 HeadFault
unfolding digits
late_head = refl

pub head_behind : told (texts ++ head_line 0x10000 ∷ []) ≡ FramedRefused 47 (OfPart StateEndFault)
unfolding digits
head_behind = refl

pub early_head : told (with_lines 12 11 (head_line 0x10000 ∷ [])) ≡ FramedRefused 12 (OfPart StateRegisterFault)
unfolding digits
early_head = refl

pub no_words : told (with_lines 23 23 (codes "head 0x10000" ∷ [])) ≡ FramedRefused 23 (OfPart StateLineFault)
unfolding digits
no_words = refl

pub cut_short : told (take 24 texts) ≡ FramedRefused 25 (OfPart StateRegisterFault)
unfolding digits
cut_short = refl

pub without_end : told (take 45 texts) ≡ FramedRefused 46 (OfPart StateEndFault)
unfolding digits
without_end = refl

pub no_such_head : framed_told layout (record no_checks { heads = λ a. a == 4 }) texts ≡ FramedRefused 23 HeadFault
unfolding digits
no_such_head = refl

pub no_return : framed_told layout (record no_checks { returns = λ a. a == 4 }) texts ≡ FramedRefused 24 HeadFault
unfolding digits
no_return = refl

-- a byte that is known at entry, and one that is kept
pub known_byte : framed_told layout (record no_checks { known = λ a. a == 0x20000 }) texts ≡ FramedRefused 22 (OfPart StateByteFault)
unfolding digits
known_byte = refl

pub kept_byte : framed_told layout (record no_checks { kept = λ a. a == 0x20004 }) texts ≡ FramedRefused 44 (OfPart StateByteFault)
unfolding digits
kept_byte = refl
