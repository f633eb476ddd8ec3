use Rattle.std.proofs.Common.{◌≡◌, ℕ, ◌+◌, ◌++◌, ◌≤◌, List, Option, length}
use Rattle.word_spec.specs.Texts.{split_lines}
use Rattle.frame_texts_spec.specs.CallTexts.{Changes, InBlocks, blocks_told}
use Rattle.start_value.specs.Starts.{layout_of}
use Rattle.frame_texts_spec.proofs.BlocksBack.{AllFit}
use Rattle.call_text.specs.Blocks.{prepended}
use Rattle.call_text.proofs.blocks.read_block.Given as goal

abbrev pub invariant-loop-due : goal.invariant-loop-due
invariant-loop-due l = record {
  told : (changes : ℕ → Option Changes) (step : ℕ) →
      blocks_told (layout_of l.layout) changes (InBlocks step l.fn.places 0) l.fn.line (split_lines l.fn.text)
      ≡ prepended l.values.items l.bytes.items (blocks_told (layout_of l.layout) changes (InBlocks step l.due l.byte) l.n (split_lines l.rest));
  fit : (more : List ℕ) → AllFit (layout_of l.layout) l.due more → AllFit (layout_of l.layout) l.fn.places (l.values.items ++ more);
  room : l.n + length l.rest ≤ l.fn.line + length l.fn.text;
  shorter : length l.rest ≤ length l.fn.text;
}

abbrev pub decreases-loop-due : goal.decreases-loop-due
decreases-loop-due l = length l.rest
