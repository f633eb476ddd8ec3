-- Terms and cells of frames under readings that agree on what they name.
use Rattle.std.proofs.Common.{◌≡◌, ap, arith, ℕ, zero, suc, ◌<◌, List, length, refl, Bool}
use Rattle.std.specs.Prelude.{slice_index}
use Rattle.term_spec.specs.Terms.{TermReading, TermNode, RegisterNode, FlagNode, ChoiceNode, BaseNode, MemoryNode, ConstantNode, BinaryNode, NotNode, SelectNode, ExtractNode, ConcatNode, ExtendNode, LoadNode, StoreNode, JoinNode, TakeNode, TermValue, value_at, word_value, bytes_value, take_bytes, node_at, node_value}
use Rattle.term_spec.specs.Cells.{IsOfWords}
use Rattle.walk_laws.proofs.CellValues.{node_in, same_term}
use Rattle.frame_spec.specs.FrameWalk.{UnrolledProgram}
use Rattle.frame_terms.specs.PassiveFrames.{NamesMemory, IsNamedBelow}
use Rattle.frame_terms.specs.FrameAgreement.{HaveSameInputs, FrameTermsAgree, FrameCellsAgree, FrameAddressesAgree}

-- A node that names the same inputs has the same value, where what it names of base reads and of memories is the same.
pub node_same : (u : UnrolledProgram) (heads : Bool) (reads : ℕ) (x y : TermReading) → HaveSameInputs u heads 0 x y → (vs : List TermValue) (n : TermNode) →
    IsNamedBelow u heads reads n → ((p j : ℕ) → NamesMemory u heads p → j < reads → n ≡ BaseNode p j → x.base p j ≡ y.base p j) →
    ((p : ℕ) → NamesMemory u heads p → (IsOfWords n → ⊥) → x.mem p ≡ y.mem p) → node_value x vs n ≡ node_value y vs n
node_same u heads reads x y a vs (RegisterNode p n) h b m = ap word_value (a.regs p n h)
node_same u heads reads x y a vs (FlagNode p f) h b m = ap word_value (a.flags p f h)
node_same u heads reads x y a vs (ChoiceNode i) h b m = ap word_value (a.choice i h)
node_same u heads reads x y a vs (BaseNode p j) h b m = ap word_value (b p j h.0 h.1 refl)
node_same u heads reads x y a vs (MemoryNode p) h b m = ap bytes_value (m p h (λ w. w))
node_same u heads reads x y a vs (ConstantNode w v) h b m = refl
node_same u heads reads x y a vs (BinaryNode o w c d) h b m = refl
node_same u heads reads x y a vs (NotNode w c) h b m = refl
node_same u heads reads x y a vs (SelectNode w c d e) h b m = refl
node_same u heads reads x y a vs (ExtractNode hi lo c) h b m = refl
node_same u heads reads x y a vs (ConcatNode g l c d) h b m = refl
node_same u heads reads x y a vs (ExtendNode s n e c) h b m = refl
node_same u heads reads x y a vs (LoadNode n e c d) h b m = refl
node_same u heads reads x y a vs (StoreNode n e c d v) h b m = refl
node_same u heads reads x y a vs (JoinNode c d e) h b m = refl
node_same u heads reads x y a vs (TakeNode n c d zero) h b m = absurd h
node_same u heads reads x y a vs (TakeNode n c d (suc zero)) h b m = absurd h
node_same u heads reads x y a vs (TakeNode n c d (suc (suc i))) h b m =
    ap (λ z. bytes_value (take_bytes n (value_at vs d).word (value_at vs c).bytes z)) (m (suc (suc i)) h (λ w. w))

-- readings agree on fewer base reads too
pub no_reads : (u : UnrolledProgram) (heads : Bool) (reads : ℕ) (x y : TermReading) → HaveSameInputs u heads reads x y → HaveSameInputs u heads 0 x y
no_reads u heads reads x y a = record { regs = a.regs; flags = a.flags; choice = a.choice; base = λ p j h l. absurd (omega arith) }

pub frame_terms_agree : FrameTermsAgree
frame_terms_agree u heads reads nodes named x y a m t l =
    same_term x y nodes t
    (λ i le ws. node_same u heads reads x y (no_reads u heads reads x y a) ws (node_at nodes i) (named (node_at nodes i) (node_in nodes i (omega arith)))
    (λ p j h s e. a.base p j h s) (λ p h w. m p h)) l

pub frame_cells_agree : FrameCellsAgree
frame_cells_agree u heads c formed x y a t l =
    same_term x y c.nodes t
    (λ i le ws. (let inside = node_in c.nodes i (omega arith) in
    node_same u heads (length c.addresses) x y (no_reads u heads (length c.addresses) x y a) ws (node_at c.nodes i) (formed.named (node_at c.nodes i) inside)
    (λ p j h s e. a.base p j h s) (λ p h w. absurd (w (formed.words (node_at c.nodes i) inside))))) l

pub frame_addresses_agree : FrameAddressesAgree
frame_addresses_agree u heads c formed x y j l a =
    let at : slice_index c.addresses j < length c.nodes = (formed.addresses j l).0 in
    same_term x y c.nodes (slice_index c.addresses j)
    (λ i le ws. node_same u heads j x y (no_reads u heads j x y a) ws (node_at c.nodes i) (formed.early j i l le)
    (λ p k h s e. a.base p k h s) (λ p h w. absurd (w (formed.words (node_at c.nodes i) (node_in c.nodes i (omega arith)))))) at
