-- What lines in the blocks say.
use Rattle.std.proofs.Common.{◌≡◌, ℕ, suc, ◌+◌, ◌≤◌, ◌<◌, zero, refl, ap, sym, ◌∙◌, arith, Bool, true, false, List, [], ◌∷◌, ◌++◌, Option, Some, None, length, drop, get_or, All, AllPairs, ◌≢◌, ◌*◌, ◌%◌, ◌^◌, append_assoc, append-nil}
use Rattle.std.specs.Option.{option_map}
use Rattle.machine_spec.specs.StateText.{Layout, StateLine, NamedLine, MachineLine, RegisterLine, ByteLine, ChoiceLine, EndLine}
use Rattle.frame_spec.specs.FrameReports.{WrittenCall}
use Rattle.std.specs.Prelude.{nat_le}
use Rattle.frame_texts_spec.specs.FrameTexts.{FrameFault, Mark}
use Rattle.frame_texts_spec.specs.CallTexts.{AfterEnd, BeginsBlock, OfFramed, fault_after, flags_by, BlockLine, BlocksAre, BlocksRefused, BlocksTold, Changes, InBlocks, OfHead, OfStart, Stage, block_line_by, block_line_of, begins_by, blocks_told, places, told_in_blocks, with_byte, with_call, with_value}
use Rattle.start_value.specs.Starts.{layout_of}
use Rattle.start_value.specs.declared.layout.Layout.{Layout as Machine}
use Rattle.start_value.specs.declared.layout.Layout.TheVariants.{Rv32, Arm}
use Rattle.frame_texts_spec.proofs.BitsSaid.{Bits, below}
use Rattle.state_text.specs.Lines.{capped_line}
use Rattle.call_text.specs.Lines.{capped_block}
use Rattle.call_text.specs.Blocks.{IsBlocksRefused, acted, call_fault_of, made_call, prepended, told_from, whole_told}
use Rattle.call_text.specs.declared.blocks.Act.{Act}
use Rattle.call_text.specs.declared.blocks.BlocksFault.{BlocksFault}
use Rattle.call_text.specs.declared.blocks.BlocksFault.TheVariants.{Refused, Memory}

-- a line that begins no block and is none of a start
pub head_alone : (m : Mark) (c : Option (ℕ × ℕ)) (l : Option StateLine) (o : Option Mark) → None ≡ c → None ≡ option_map capped_line l → Some m ≡ o →
    Some (OfHead m) ≡ option_map capped_block (block_line_by c l o)
head_alone m c (Some l) o none e f = let z : ◌≡◌ {A = Option StateLine} None (Some (capped_line l)) = e in absurd (cc)
head_alone m c None o none e f =
    ap (λ x. option_map capped_block (block_line_by None None x)) f ∙ ap (λ x. option_map capped_block (block_line_by x None o)) none

-- a choice above 3 is refused as any other is
pub capped_told : (layout : Layout) (changes : ℕ → Option Changes) (n step : ℕ) (due : List ℕ) (byte : ℕ) (l : Option BlockLine) (later : Stage → BlocksTold) →
    told_in_blocks layout changes n step due byte (option_map capped_block l) later ≡ told_in_blocks layout changes n step due byte l later
capped_told layout changes n step due byte None later = refl
capped_told layout changes n step due byte (Some (BeginsBlock s a)) later = refl
capped_told layout changes n step due byte (Some (OfHead m)) later = refl
capped_told layout changes n step due byte (Some (OfStart (NamedLine e))) later = refl
capped_told layout changes n step due byte (Some (OfStart MachineLine)) later = refl
capped_told layout changes n step due byte (Some (OfStart (RegisterLine i v))) later = refl
capped_told layout changes n step due byte (Some (OfStart (ByteLine a v))) later = refl
capped_told layout changes n step due byte (Some (OfStart (ChoiceLine s k))) later = refl
capped_told layout changes n step due byte (Some (OfStart EndLine)) later = refl

-- one more value, one more byte
pub value_prepended : (values : List ℕ) (bytes : List (ℕ × ℕ)) (v : ℕ) (told : BlocksTold) →
    prepended values bytes (with_value v told) ≡ prepended (values ++ v ∷ []) bytes told
value_prepended values bytes v (BlocksAre vs bs calls) = ap (λ l. BlocksAre l (bytes ++ bs) calls) (sym (append_assoc values (v ∷ []) vs))
value_prepended values bytes v (BlocksRefused n f) = refl

pub byte_prepended : (values : List ℕ) (bytes : List (ℕ × ℕ)) (a v : ℕ) (told : BlocksTold) →
    prepended values bytes (with_byte a v told) ≡ prepended values (bytes ++ (a, v) ∷ []) told
byte_prepended values bytes a v (BlocksAre vs bs calls) = ap (λ l. BlocksAre (values ++ vs) l calls) (sym (append_assoc bytes ((a, v) ∷ []) bs))
byte_prepended values bytes a v (BlocksRefused n f) = refl

pub none_prepended : (told : BlocksTold) → prepended [] [] told ≡ told
none_prepended (BlocksAre vs bs calls) = refl
none_prepended (BlocksRefused n f) = refl

-- what is told from a line on, by what the line says
pub line_told : (layout : Layout) (changes : ℕ → Option Changes) (n step : ℕ) (due : List ℕ) (byte : ℕ) (text : List ℕ) (rest all : List (List ℕ))
    (said : Option BlockLine) (told : BlocksTold) → all ≡ text ∷ rest → said ≡ option_map capped_block (block_line_of layout text) →
    told_in_blocks layout changes n step due byte said (λ next. blocks_told layout changes next (n + 1) rest) ≡ told →
    blocks_told layout changes (InBlocks step due byte) n all ≡ told
line_told layout changes n step due byte text rest all said told split e h =
    ap (blocks_told layout changes (InBlocks step due byte) n) split
    ∙ sym (capped_told layout changes n step due byte (block_line_of layout text) later)
    ∙ ap (λ o. told_in_blocks layout changes n step due byte o later) (sym e) ∙ h
  where
    later : Stage → BlocksTold
    later next = blocks_told layout changes next (n + 1) rest

-- by what it does
pub act_told : (layout : Layout) (changes : ℕ → Option Changes) (n step : ℕ) (due : List ℕ) (byte : ℕ) (text : List ℕ) (rest all : List (List ℕ))
    (said : Option BlockLine) (act does : Act) → all ≡ text ∷ rest → said ≡ option_map capped_block (block_line_of layout text) →
    told_in_blocks layout changes n step due byte said (λ next. blocks_told layout changes next (n + 1) rest)
    ≡ acted layout changes n step due byte act (λ next. blocks_told layout changes next (n + 1) rest) →
    act ≡ does →
    blocks_told layout changes (InBlocks step due byte) n all ≡ acted layout changes n step due byte does (λ next. blocks_told layout changes next (n + 1) rest)
act_told layout changes n step due byte text rest all said act does split e h is =
    line_told layout changes n step due byte text rest all said
    (acted layout changes n step due byte act (λ next. blocks_told layout changes next (n + 1) rest)) split e h
    ∙ ap (λ a. acted layout changes n step due byte a (λ next. blocks_told layout changes next (n + 1) rest)) is

-- why a line after the end is refused
capped_after : (l : Option BlockLine) → fault_after (option_map capped_block l) ≡ fault_after l
capped_after None = refl
capped_after (Some (BeginsBlock s a)) = refl
capped_after (Some (OfHead m)) = refl
capped_after (Some (OfStart (NamedLine e))) = refl
capped_after (Some (OfStart MachineLine)) = refl
capped_after (Some (OfStart (RegisterLine i v))) = refl
capped_after (Some (OfStart (ByteLine a v))) = refl
capped_after (Some (OfStart (ChoiceLine s k))) = refl
capped_after (Some (OfStart EndLine)) = refl

pub after_told : (layout : Layout) (changes : ℕ → Option Changes) (n : ℕ) (text : List ℕ) (rest all : List (List ℕ)) (said : Option BlockLine)
    (f : FrameFault) → all ≡ text ∷ rest → said ≡ option_map capped_block (block_line_of layout text) → f ≡ fault_after said →
    blocks_told layout changes AfterEnd n all ≡ BlocksRefused n (OfFramed f)
after_told layout changes n text rest all said f split e same =
    ap (blocks_told layout changes AfterEnd n) split
    ∙ ap (λ x. BlocksRefused n (OfFramed x)) (sym (same ∙ ap fault_after e ∙ capped_after (block_line_of layout text)))

-- a set of flags below 256
pub sum_fits : (flags values : List ℕ) (r : ℕ) → All (λ f. f < 8) flags → AllPairs (λ x y. y < x) flags → All (λ v. v ≤ 1) values →
    1 ≤ length flags → 1 ≤ length values → get_or values 0 0 ≢ 0 → r ≡ flags_by (drop 1 flags) (drop 1 values) →
    1 * 2 ^ get_or flags 0 0 % 256 + r < 256
sum_fits [] values r few fall bits one other some e = absurd (omega arith)
sum_fits (f ∷ fs) [] r few fall bits one other some e = absurd (omega arith)
sum_fits (f ∷ fs) (v ∷ vs) r few fall bits one other some e =
    by_value v (2 ^ f) (flags_by fs vs) (bits 0 v (omega arith)) some (below 8 (f ∷ fs) (v ∷ vs) few fall (all_bits (v ∷ vs) bits)) e
  where
    all_bits : (xs : List ℕ) → All (λ v. v ≤ 1) xs → Bits xs
    all_bits [] all = tt
    all_bits (x ∷ xs) all = (all 0 x (omega arith), all_bits xs (λ k d h. all (suc k) d (omega arith)))

    by_value : (v p q : ℕ) → v ≤ 1 → v ≢ 0 → v * p + q < 256 → r ≡ q → 1 * p % 256 + r < 256
    by_value zero p q small some low same = absurd (some refl)
    by_value (suc zero) p q small some low same = omega (arith, low, same)
    by_value (suc (suc v)) p q small some low same = absurd (omega (arith, small))

-- no values and no bytes stand before the line that ends a block
abbrev pub IsPlain : BlocksTold → Type 0
IsPlain (BlocksAre values bytes calls) = (values ≡ []) × (bytes ≡ [])
IsPlain (BlocksRefused n f) = Unit {0}

with_call_plain : (step at : ℕ) (x : Changes) (told : BlocksTold) → IsPlain (with_call step at x told)
with_call_plain step at x (BlocksAre values bytes calls) = (refl, refl)
with_call_plain step at x (BlocksRefused n f) = tt

begins_plain : (layout : Layout) (n step at : ℕ) (b : Bool) (o : Option Changes) (later : Stage → BlocksTold) → IsPlain (begins_by layout n step at b o later)
begins_plain layout n step at true (Some x) later = with_call_plain step at x (later (InBlocks (step + 1) (places layout x) 0))
begins_plain layout n step at true None later = tt
begins_plain layout n step at false o later = tt

after_plain : (layout : Layout) (changes : ℕ → Option Changes) (n : ℕ) (ls : List (List ℕ)) → IsPlain (blocks_told layout changes AfterEnd n ls)
after_plain layout changes n [] = (refl, refl)
after_plain layout changes n (text ∷ rest) = tt

pub from_plain : (layout : Layout) (changes : ℕ → Option Changes) (step n : ℕ) (o : Option (ℕ × ℕ)) (rest : List (List ℕ)) →
    IsPlain (told_from layout changes step n o rest)
from_plain layout changes step n None rest = after_plain layout changes (n + 1) rest
from_plain layout changes step n (Some call) rest =
    begins_plain layout n call.0 call.1 (nat_le step call.0) (changes call.1) (λ next. blocks_told layout changes next (n + 1) rest)

-- a whole block before what is told from the line on that ends it
pub call_before : (step at : ℕ) (x : Changes) (values : List ℕ) (bytes : List (ℕ × ℕ)) (told : BlocksTold) → IsPlain told →
    with_call step at x (prepended values bytes told) ≡ whole_told (made_call step at x values bytes ∷ []) told
call_before step at x values bytes (BlocksAre vs bs calls) plain =
    ap (λ l. BlocksAre [] [] (made_call step at x l (bytes ++ bs) ∷ calls)) (ap (λ l. values ++ l) plain.0 ∙ append-nil values)
    ∙ ap (λ l. BlocksAre [] [] (made_call step at x values l ∷ calls)) (ap (λ l. bytes ++ l) plain.1 ∙ append-nil bytes)
call_before step at x values bytes (BlocksRefused n f) plain = refl

-- blocks before blocks
pub whole_then : (calls : List WrittenCall) (c : WrittenCall) (told : BlocksTold) →
    whole_told calls (whole_told (c ∷ []) told) ≡ whole_told (calls ++ c ∷ []) told
whole_then calls c (BlocksAre vs bs later) = ap (λ l. BlocksAre [] [] l) (sym (append_assoc calls (c ∷ []) later))
whole_then calls c (BlocksRefused n f) = refl

-- flags of a layout are few
pub flags_few : (m : Machine) (flags : List ℕ) → All (λ f. f < length (layout_of m).flags) flags → All (λ f. f < 8) flags
flags_few (Rv32 compressed) flags low = λ k d h. let none = low k d h in omega (arith, none)
flags_few (Arm big profile) flags low = λ k d h. let few = low k d h in omega (arith, few)

-- a block that may begin
pub begun : (layout : Layout) (n step at : ℕ) (x : Changes) (b : Bool) (o : Option Changes) (later : Stage → BlocksTold) → b ≡ true → Some x ≡ o →
    begins_by layout n step at b o later ≡ with_call step at x (later (InBlocks (step + 1) (places layout x) 0))
begun layout n step at x b o later may is =
    ap (λ t. begins_by layout n step at t o later) may ∙ ap (λ t. begins_by layout n step at true t later) (sym is)

-- a block that is refused in its lines
pub refused_in : (step at : ℕ) (x : Changes) (fault : BlocksFault) (told : BlocksTold) → IsBlocksRefused told fault →
    IsBlocksRefused (with_call step at x told) fault
refused_in step at x (Refused line kind) told e = ap (with_call step at x) e
refused_in step at x Memory told e = tt

-- values and bytes of which nothing is asked
pub whole_prepended : (values : List ℕ) (bytes : List (ℕ × ℕ)) (told : BlocksTold) → whole_told [] (prepended values bytes told) ≡ whole_told [] told
whole_prepended values bytes (BlocksAre vs bs calls) = refl
whole_prepended values bytes (BlocksRefused n f) = refl

pub refused_after : (values : List ℕ) (bytes : List (ℕ × ℕ)) (told all : BlocksTold) (fault : BlocksFault) → all ≡ prepended values bytes told →
    IsBlocksRefused told fault → IsBlocksRefused all fault
refused_after values bytes told all (Refused line kind) e refused = e ∙ ap (prepended values bytes) refused
refused_after values bytes told all Memory e refused = tt

-- a block of which the first lines are told
pub whole_refused : (calls : List WrittenCall) (told all : BlocksTold) (fault : BlocksFault) → whole_told [] all ≡ whole_told calls told →
    IsBlocksRefused told fault → IsBlocksRefused all fault
whole_refused calls told all (Refused line kind) e refused = by_all all (e ∙ ap (whole_told calls) refused)
  where
    by_all : (all : BlocksTold) → whole_told [] all ≡ BlocksRefused line (call_fault_of kind) → all ≡ BlocksRefused line (call_fault_of kind)
    by_all (BlocksAre vs bs later) e = absurd (let z : BlocksAre [] [] later ≡ BlocksRefused line (call_fault_of kind) = e in cc)
    by_all (BlocksRefused n f) e = e
whole_refused calls told all Memory e refused = tt
