use Rattle.std.proofs.Common.{◌≡◌, ◌≤◌, ℕ, Bool, true, List, length, map, refl, ap, sym, ◌∙◌, subst}
use Rattle.frame_laws.specs.FramePrices.{known_of}
use Rattle.term_spec.specs.WalkQuestions.{is_asked}
use Rattle.question_form.specs.Questions.{term_of}
use Rattle.question_form.specs.FrameQuestions.{frame_of_question, is_of_heads}
use Rattle.known_bytes.specs.declared.listing.Known.{Known}
use Rattle.known_bytes.specs.Runs.{run_of, sum_of}
use Rattle.mem_cells.specs.declared.file_bytes.FileByte.{FileByte}
use Rattle.mem_cells.specs.Building.{read_places}
use Rattle.mem_cells.specs.Parts.{lists_of, reads_from}
use Rattle.mem_cells.specs.Ties.{AreTies, Before}
use Rattle.mem_cells.specs.Asked.{head_asks, AreAsked, AreFileBytes, AskedOf}
use Rattle.std.specs.Global.{Vec}
use Rattle.mem_cells.proofs.PartReads.{lists_length}
use Rattle.mem_cells.proofs.Told.{told_words}
use Rattle.mem_cells.proofs.Made.{made_of}
use Rattle.mem_cells.proofs.making.made.Goals as goal

pub returns : goal.returns
returns c =
    let q = c.args.question.now in
    let u = frame_of_question q in
    let t = term_of q in
    let asks = is_asked c.args.added.now u.literals in
    let kept = q.passive.now.unrolled.now.kept.now in
    let heads = c.is_of_heads-of_heads.result in
    let mid = c.lower_all.new.build in
    let tied = c.agreements.new.build in
    let b = c.ask_bytes.new.build in
    let l = c.in_ok-lowered.lowered in
    let e = c.in_ok-lowered.ensures.question in
    let parts = lists_of c.in_ok-parts.parts.items in
    let ts = c.in_ok-agrees.agrees.items in
    let xs = c.in_ok-asked.asked.items in
    let file = c.deref-5.result.now in
    let given =
    subst (λ (z : List FileByte). AreFileBytes u.known (λ a. asks a ≡ true) (head_asks (is_of_heads q) kept) z) (sym c.deref-5.ensures.value)
    (subst (λ (z : Bool). AreFileBytes u.known (λ a. asks a ≡ true) (head_asks z kept) c.in_ok-file.file.items) c.is_of_heads-of_heads.ensures
    (subst (λ (z : List ℕ). AreFileBytes u.known (λ a. is_asked c.args.added.now z a ≡ true) (head_asks heads kept) c.in_ok-file.file.items)
    c.deref-3.ensures.value
    (subst (λ (z : List Known). AreFileBytes (map run_of z) (λ a. is_asked c.args.added.now c.deref-3.result.now a
    ≡ true) (head_asks heads kept) c.in_ok-file.file.items) c.deref-2.ensures.value c.in_ok-file.ensures.are))) in
    let few =
    subst (λ (z : List FileByte). length z ≤ known_of u) (sym c.deref-5.ensures.value)
    (subst (λ (z : List Known). length c.in_ok-file.file.items ≤ sum_of z) c.deref-2.ensures.value c.in_ok-file.ensures.few) in
    let agree =
    subst (λ (z : List (Vec ℕ)). AreTies tied (lists_of z) ts (Before (length (read_places tied)) 0)) c.deref.ensures.value c.in_ok-agrees.ensures.ties in
    let says =
    subst (λ (z : List (Vec ℕ)). AreAsked b (lists_of z) file xs (AskedOf (length (read_places b)) file)) c.deref-4.ensures.value c.in_ok-asked.ensures.asked in
    record {
      of = refl;
      tells = told_words q t (is_of_heads q) asks mid b l.words.items l.numbers.items l.memories.stored.items l.memories.pieces.items parts ts xs file
          c.word-root.result
          (made_of q t (is_of_heads q) asks mid tied b l.words.items l.numbers.items l.memories.stored.items l.memories.pieces.items parts ts xs file
          c.word-root.result
          c.requires.root c.requires.bytes c.requires.gifts (ap (λ z. z.now) e) (ap (λ z. z.now.dag) e) c.in_ok-lowered.ensures.lowered
          (lists_length c.in_ok-parts.parts.items ∙ c.in_ok-parts.ensures.count) c.in_ok-parts.ensures.parts c.in_ok-agrees.ensures.grown c.in_ok-agrees.ensures.kept agree given few
          c.in_ok-asked.ensures.grown c.in_ok-asked.ensures.kept says c.word-root.ensures)
          c.args.words.now c.in_ok-words.words.items c.in_ok-reads.reads.items c.requires.words c.in_ok-words.ensures
          (c.in_ok-reads.ensures ∙ ap (λ z. reads_from 0 (lists_of z)) c.deref-6.ensures.value);
    }
