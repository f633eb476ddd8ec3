-- What a whole text says.
use Rattle.std.proofs.Common.{◌≡◌, ℕ, ap, sym, ◌∙◌, List, ◌∷◌, Option, length}
use Rattle.std.specs.Prelude.{Result, Ok, Err, IfErr, IfOk}
use Rattle.std.specs.Option.{option_map}
use Rattle.word_spec.specs.Texts.{split_lines}
use Rattle.machine_spec.specs.StateText.{Layout, StateRegisterFault}
use Rattle.frame_texts_spec.specs.FrameTexts.{Checks, FramedEnding, FramedIs, FramedRefused, FramedTold, OfPart, ending_of, framed_of, framed_told, no_checks, part_of, told_behind}
use Rattle.state_text.proofs.Keeping.{no_text}
use Rattle.frame_text.specs.Texts.{framed_text_of}
use Rattle.frame_text.specs.Readings.{IsFramedRefused, IsRefusedAs, IsToldAs, frame_fault_of, judged_head, seen_head}
use Rattle.frame_text.specs.declared.text.FramedText.{FramedText}
use Rattle.frame_text.specs.declared.fault.FramedFault.{FramedFault}
use Rattle.frame_text.specs.declared.fault.FramedFault.TheVariants.{Refused, Memory}
use Rattle.frame_text.proofs.Tests.{untested}

-- an empty text
pub framed_empty : (layout : Layout) (c : Checks) (text : List ℕ) → length text ≡ 0 → framed_of layout c text ≡ FramedRefused 1 (OfPart StateRegisterFault)
unfolding framed_of
framed_empty layout c text e = ap (λ t. framed_told layout c (split_lines t)) (no_text text e)

-- a text by its first line
pub framed_first : (layout : Layout) (c : Checks) (text first rest : List ℕ) (o : Option FramedEnding) → split_lines text ≡ first ∷ split_lines rest →
    o ≡ ending_of layout first → told_behind layout c o (part_of layout (split_lines rest)) ≡ framed_of layout c text
unfolding framed_of
framed_first layout c text first rest o e is =
    ap (λ n. told_behind layout c n (part_of layout (split_lines rest))) is ∙ sym (ap (framed_told layout c) e)

-- a reader without tests
untold : (layout : Layout) (told : FramedTold) (t : FramedText) → IsToldAs layout no_checks told t → told ≡ FramedIs (framed_text_of t)
untold layout told t e =
    e ∙ untested layout (framed_text_of t).start.bytes (option_map judged_head (framed_text_of t).head) (FramedIs (framed_text_of t))

pub unrefused : (layout : Layout) (told : FramedTold) (fault : FramedFault) → IsRefusedAs layout no_checks told fault → IsFramedRefused told fault
unrefused layout told (Refused line f seen) e =
    e ∙ untested layout seen.bytes.items (option_map seen_head seen.head) (FramedRefused line (frame_fault_of f))
unrefused layout told Memory e = tt

pub all_untold : (layout : Layout) (told : FramedTold) (r : Result FramedText FramedFault) → IfOk r (IsToldAs layout no_checks told) →
    IfOk r (λ t. told ≡ FramedIs (framed_text_of t))
all_untold layout told (Ok t) h = untold layout told t h
all_untold layout told (Err fault) h = tt

pub all_unrefused : (layout : Layout) (told : FramedTold) (r : Result FramedText FramedFault) → IfErr r (IsRefusedAs layout no_checks told) →
    IfErr r (IsFramedRefused told)
all_unrefused layout told (Ok t) h = tt
all_unrefused layout told (Err fault) h = unrefused layout told fault h
