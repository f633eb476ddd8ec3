use Rattle.std.proofs.Common.{◌≡◌, ◌+◌, ◌*◌, [], ◌∷◌, ◌++◌, List, length, refl, ap, sym, ◌∙◌, subst, arith, append_assoc}
use Rattle.word_spec.specs.Memory.{endian}
use Rattle.term_dag.proofs.ListLaws.{longer}
use Rattle.mem_cells.specs.declared.pieces.StoredByte.{StoredByte}
use Rattle.mem_cells.specs.Building.{IsWritten}
use Rattle.mem_cells.proofs.Growing.{grown_on, grown_more}
use Rattle.mem_cells.proofs.StoredWords.{written_next, written_stored, written_puts}
use Rattle.mem_cells.proofs.stores.store.Goals as goal

pub loop-place-preserved : goal.loop-place-preserved
loop-place-preserved c =
    let h = c.loop-place.invariant in
    let a = c.args.build.now in
    let m = c.loop-place.build in
    let t = c.raised.new.build in
    let n = c.stored_byte.new.build in
    let j = c.loop-place.place in
    let y : StoredByte = record { address = c.in_ok-at.at; value = c.in_ok-byte.byte } in
    let old = c.loop-place.memories.stored.items in
    let items : c.push.new.self.items ≡ old ++ y ∷ [] = c.in_ok-push.ensures.items in
    record {
      grown = grown_more a n (j * 64 + (64 + 0)) (0 + (0 + 0)) ((j + 1) * 64) 0 (omega arith) (omega arith)
          (grown_on a m n (j * 64) 0 (64 + 0) (0 + 0) h.grown (grown_on m t n 64 0 0 0 c.in_ok-at.ensures.grown c.in_ok-byte.ensures.grown));
      pieces = h.pieces;
      more = (h.more.0 ++ y ∷ [], items ∙ ap (λ (z : List StoredByte). z ++ y ∷ []) h.more.1 ∙ append_assoc _ h.more.0 (y ∷ []));
      count = omega (arith, ap length items, longer old y, h.count);
      written = subst (λ (z : List StoredByte). IsWritten a n z c.len-first.result (j + 1) c.args.address.0 c.args.value.0 c.args.bytes (endian c.args.big))
          (sym items)
          (written_next a m t n (j * 64) 0 64 0 0 0 old c.len-first.result j c.args.address.0 c.args.value.0 c.args.bytes
          (endian c.args.big) y h.grown c.in_ok-at.ensures.grown c.in_ok-byte.ensures.grown
          c.requires.address c.requires.value h.count h.written c.in_ok-at.ensures.word c.in_ok-byte.ensures.byte);
    }

pub returns-clause-piece : goal.returns-clause-piece
returns-clause-piece c =
    let h = c.loop-place.invariant in
    let a = c.args.build.now in
    let m = c.loop-place.build in
    let n = c.make.new.self in
    let s = c.loop-place.memories.stored.items in
    let f = c.len-first.result in
    let e = endian c.args.big in
    let z : c.loop-place.place ≡ c.args.bytes = omega arith in
    let w = subst (λ k. IsWritten a m s f k c.args.address.0 c.args.value.0 c.args.bytes e) z h.written in (
      refl,
      refl,
      record {
        stored_bytes = written_stored a m n _ _ _ _ s f c.args.address.0 c.args.value.0 c.args.bytes e c.sum_of-at.result h.grown c.in_ok-zero.ensures.grown
            c.requires.address c.requires.bytes.1
            (h.count ∙ ap (λ k. f + k) z) w c.sum_of-at.ensures;
        bytes = written_puts a m n _ _ s f c.args.address.0 c.args.value.0 c.args.bytes e c.requires.built c.in_ok-zero.ensures.grown c.requires.address
            c.requires.bytes.1 w;
      },
    )
