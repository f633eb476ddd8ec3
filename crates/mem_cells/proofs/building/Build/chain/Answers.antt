use Rattle.std.proofs.Common.{◌≡◌, ◌+◌, ◌<◌, take, length, ap, sym, ◌∙◌, subst, arith, ◌∷◌, [], ◌++◌}
use Rattle.std.specs.Prelude.{sum_by}
use Rattle.std.proofs.lemmas.List.Sums.{sum_by-take-le}
use Rattle.mem_cells.specs.declared.pieces.Piece.TheVariants.{Entry}
use Rattle.mem_cells.specs.declared.building.Build.{Build}
use Rattle.mem_cells.specs.Pieces.{part_read, piece_gates, piece_at}
use Rattle.mem_cells.specs.Building.{Grown}
use Rattle.term_dag.proofs.ListLaws.{longer}
use Rattle.mem_cells.proofs.Growing.{grown_on, grown_more, number_kept}
use Rattle.mem_cells.proofs.Chains.{any_default, piece_here, pieces_kept, split_kept, sum_next, marked_next, unmarked_next, AreLinks}
use Rattle.mem_cells.proofs.building.Build.chain.Goals as goal
use Rattle.mem_cells.proofs.building.Build.chain.Goals.{then-marks-q+in_ok-byte, else-marks-q}

pub step-requires-clause-piece : goal.step-requires-clause-piece
step-requires-clause-piece c =
    let h = c.loop-q.invariant in
    let a = c.args.self.now in
    let m = c.args.memories.now in
    piece_here c.loop-q.self m.stored.items _ m.pieces.items c.loop-q.q _ _
    (pieces_kept a c.loop-q.self _ _ m.stored.items m.pieces.items h.grown c.requires.pieces) (omega arith) c.deref.ensures.value
    (ap length c.deref-then-marks-q.ensures.value ∙ h.count) (c.index.ensures ∙ any_default m.pieces.items c.loop-q.q _ (Entry 0) (omega arith))

pub step-requires-clause-split : goal.step-requires-clause-split
step-requires-clause-split c = split_kept c.args.self.now c.loop-q.self _ _ _ _ _ c.loop-q.invariant.grown c.requires.address.0 c.requires.split

pub step-requires-clause-number : goal.step-requires-clause-number
step-requires-clause-number c p e =
    let ps = c.args.memories.now.pieces.items in
    number_kept c.args.self.now c.loop-q.self _ _ c.args.address.0 c.args.number c.loop-q.invariant.grown
    (c.requires.number c.loop-q.q p (omega arith) c.if-marks-q.true
    (ap (part_read c.args.at) (sym (c.index.ensures ∙ any_default ps c.loop-q.q _ (Entry 0) (omega arith))) ∙ e))

pub loop-q-preserved : goal.loop-q-preserved
loop-q-preserved c =
    let h = c.loop-q.invariant in
    let a = c.args.self.now in
    let m = c.args.memories.now in
    let q = c.loop-q.q in
    let ps = m.pieces.items in
    let l : q < length ps = omega arith in
    let sg = sum_next piece_gates ps q l in
    elim c.if-marks-q.branch [
      | then-marks-q+in_ok-byte w ↦ (
          let e = w.in_ok-byte.ensures in
          let n = w.step.new.self in
          let z = w.index.result.now in
          let ez : z ≡ piece_at ps q = w.index.ensures ∙ any_default ps q _ (Entry 0) l in
          let items : c.push.new.self.items ≡ c.loop-q.chain.items ++ w.in_ok-byte.byte
          ∷ [] = c.in_ok-push.ensures.items ∙ ap (λ b. c.loop-q.chain.items ++ b ∷ []) w.byte-is in
          record {
            grown = subst (λ (s : Build). Grown a s (sum_by piece_gates (take (q + 1) ps)) 0) (sym w.self-is)
                (grown_more a n _ _ _ _ (omega (arith, sg, ap piece_gates ez)) (omega arith)
                (grown_on a c.loop-q.self n _ _ _ _ h.grown e.grown));
            count = omega (arith, h.count, ap length items, longer c.loop-q.chain.items w.in_ok-byte.byte);
            links = subst (λ (s : Build). AreLinks a s m.stored.items ps c.args.marks.now c.args.address.0 (q + 1) c.push.new.self.items) (sym w.self-is)
                (subst (AreLinks a n m.stored.items ps c.args.marks.now c.args.address.0 (q + 1)) (sym items)
                (marked_next a c.loop-q.self n _ _ _ _ m.stored.items w.deref.result.now ps c.args.marks.now c.args.at c.args.address.0 q c.loop-q.chain.items
                w.deref-then-marks-q.result.now z w.in_ok-byte.byte
                c.requires.built c.requires.pieces l c.requires.closed (omega arith) w.if-marks-q.true c.requires.split c.requires.address w.deref.ensures.value
                w.deref-then-marks-q.ensures.value ez h.count h.grown h.links e.grown e.byte));
          })
      | else-marks-q w ↦ (
          let items : c.push.new.self.items ≡ c.loop-q.chain.items ++ c.args.address
          ∷ [] = c.in_ok-push.ensures.items ∙ ap (λ b. c.loop-q.chain.items ++ b ∷ []) w.byte-is in
          record {
            grown = subst (λ (s : Build). Grown a s (sum_by piece_gates (take (q + 1) ps)) 0) (sym w.self-is)
                (grown_more a c.loop-q.self _ _ _ _ (omega (arith, sg)) (omega arith) h.grown);
            count = omega (arith, h.count, ap length items, longer c.loop-q.chain.items c.args.address);
            links = subst (λ (s : Build). AreLinks a s m.stored.items ps c.args.marks.now c.args.address.0 (q + 1) c.push.new.self.items) (sym w.self-is)
                (subst (AreLinks a c.loop-q.self m.stored.items ps c.args.marks.now c.args.address.0 (q + 1)) (sym items)
                (unmarked_next a c.loop-q.self m.stored.items ps c.args.marks.now c.args.address.0 q c.loop-q.chain.items c.args.address w.if-marks-q.false
                h.count h.links));
          })
    ]

pub returns-clause-grown : goal.returns-clause-grown
returns-clause-grown c =
    let h = c.loop-q.invariant in
    let m = c.args.memories.now in
    grown_more c.args.self.now c.loop-q.self _ _ _ _ (sum_by-take-le piece_gates m.pieces.items c.loop-q.q)
    (omega arith) h.grown
