use Rattle.std.proofs.Common.{◌≡◌, ℕ, ◌+◌, ◌<◌, List, ap, sym, ◌∙◌, subst, arith, length}
use Rattle.std.specs.Global.{Vec}
use Rattle.std.specs.Prelude.{Contains}
use Rattle.start_value.specs.Starts.{written_of}
use Rattle.question_form.specs.FrameQuestions.{heads_of_question}
use Rattle.mem_cells.specs.FrameViews.{frame_cells_of, frame_of_cells}
use Rattle.frame_start.proofs.GiftInputs.{gifts_named, named_at}
use Rattle.frame_start.proofs.WrittenParts.{few_flags, gift_by, gift_one, gift_reads_listed}
use Rattle.frame_start.specs.Files.{AreWrittenBytes}
use Rattle.frame_start.specs.Reads.{gift_reads}
use Rattle.frame_start.proofs.parts.gift_of.Goals as goal

pub written_bytes-requires : goal.written_bytes-requires
written_bytes-requires c =
    let e = c.args.e.now in
    let at = c.in-Some.ensures in
    let inside : c.args.place < length e.reads.gifts.items = omega (arith, c.requires.evaluated.read_count, c.requires.place) in
    let same : c.deref.result.now ≡ gift_reads e.reads.gifts.items c.args.place
    = c.deref.ensures.value ∙ ap (λ (v : Vec (ℕ × ℕ)). v.items) c.index.ensures
    ∙ gift_reads_listed e.reads.gifts.items c.args.place c.index.result.now inside in
    record {
      one = subst (λ (xs : List (ℕ × ℕ)). (m : ℕ → ℕ) × ((x : ℕ × ℕ) → Contains xs x → m x.0 ≡ x.1)) (sym same)
          (gift_one e.celled.now e.values.now c.requires.formed e.places c.requires.evaluated.placed e.reads c.requires.evaluated.reads c.requires.whole
          c.args.place at.0 at.1);
    }

pub written_gift-requires-clause-flags : goal.written_gift-requires-clause-flags
written_gift-requires-clause-flags c =
    let few = few_flags c.args.e.now.celled.now.question.now.passive.now.unrolled.now.form in
    omega (arith, c.requires.evaluated.placed.flags)

pub written_gift-requires-clause-named : goal.written_gift-requires-clause-named
written_gift-requires-clause-named c =
    let e = c.args.e.now in
    let k = e.celled.now in
    named_at (frame_of_cells k) e.places
    (gifts_named (frame_of_cells k) (heads_of_question k.question.now) (frame_cells_of k) e.places c.requires.evaluated.placed) c.args.place
    (c.args.place + 2) (omega arith) c.in-Some.changed c.in-Some.ensures

pub returns-in-None : goal.returns-in-None
returns-in-None c g at = absurd (c.in-None.ensures g at)

pub returns-in_ok-gift-in-Some : goal.returns-in_ok-gift-in-Some
returns-in_ok-gift-in-Some c =
    let e = c.args.e.now in
    let inside : c.args.place < length e.reads.gifts.items = omega (arith, c.requires.evaluated.read_count, c.requires.place) in
    let same : c.deref.result.now ≡ gift_reads e.reads.gifts.items c.args.place
    = c.deref.ensures.value ∙ ap (λ (v : Vec (ℕ × ℕ)). v.items) c.index.ensures
    ∙ gift_reads_listed e.reads.gifts.items c.args.place c.index.result.now inside in
    gift_by e.celled.now e.values.now c.requires.formed e.places c.requires.evaluated.placed e.reads c.requires.evaluated.reads c.requires.whole
    c.args.place (c.args.place + 2) (omega arith) c.in-Some.changed c.in-Some.ensures (written_of c.in_ok-gift-in-Some.gift) c.in_ok-bytes-in-Some.bytes.items
    (subst (λ (xs : List (ℕ × ℕ)). AreWrittenBytes (frame_of_cells e.celled.now) (c.args.place + 2) xs c.in_ok-bytes-in-Some.bytes.items) same c.in_ok-bytes-in-Some.ensures)
    c.in_ok-gift-in-Some.ensures
