-- The bytes of pieces, one after another.
use Rattle.std.proofs.Common.{◌≡◌, ℕ, zero, suc, ◌+◌, ◌<◌, Bool, true, false, List, [], ◌∷◌, ◌++◌, length, take, get_or, true≢false, refl, ap, sym, ◌∙◌, subst, arith, inl, inr}
use Rattle.std.specs.Prelude.{if◌then◌else◌, sum_by}
use Rattle.std.proofs.lemmas.Bool.{cases_lt}
use Rattle.std.proofs.lemmas.List.{get_or_append_left}
use Rattle.std.proofs.lemmas.List.Sums.{sum_by-append}
use Rattle.word_spec.specs.Words.{add}
use Rattle.word_spec.specs.Memory.{Memory}
use Rattle.term_spec.specs.Terms.{TermReading, InRange, HasWidth, term_word, select}
use Rattle.term_dag.specs.declared.nodes.Term.{Term}
use Rattle.term_dag.proofs.ListLaws.{last}
use Rattle.mem_cells.specs.declared.building.Build.{Build}
use Rattle.mem_cells.specs.declared.pieces.Split.{Split}
use Rattle.mem_cells.specs.declared.pieces.StoredByte.{StoredByte}
use Rattle.mem_cells.specs.declared.pieces.Piece.{Piece}
use Rattle.mem_cells.specs.declared.pieces.Piece.TheVariants.{Entry, Store, Take, Join}
use Rattle.mem_cells.specs.declared.pieces.Taken.{Taken}
use Rattle.mem_cells.specs.Pieces.{puts, put_bytes, piece_byte, piece_at, stored_at, ends_in, bool_at, is_among, link, taken_over, IsSplit, IsTaken, AreBytes, IsStored, IsPiece, ArePieces, IsRising, Needs, AreClosed}
use Rattle.mem_cells.specs.Building.{IsBuilt, Grown, IsByte, IsByteOf}
use Rattle.mem_cells.proofs.Growing.{grown_word, grown_width, gives_before, part_kept}
use Rattle.mem_cells.proofs.Puts.{puts_same, put_within}
use Rattle.mem_cells.proofs.TakenBytes.{take_within}

-- what is kept of pieces as cells grow
pub stored_kept : (a b : Build) (g r : ℕ) (stored : List StoredByte) (s : Split) (f n : ℕ) → Grown a b g r → IsStored a.dag stored s f n →
    IsStored b.dag stored s f n
stored_kept a b g r stored s f n p h = record {
  are = record {
    few = h.are.few;
    within = h.are.within;
    addresses = λ k l. grown_width a b g r 32 (stored_at stored (f + k)).address.0 p (h.are.addresses k l);
    values = λ k l. grown_width a b g r 8 (stored_at stored (f + k)).value.0 p (h.are.values k l);
  };
  base = grown_width a b g r 32 s.base.0 p h.base;
  offset = h.offset;
  places = λ x i k l.
      grown_word a b g r x (stored_at stored (f + k)).address.0 p (h.are.addresses k l).0 ∙ h.places x i k l
      ∙ ap (λ z. add 32 (add 32 z s.offset) k) (sym (grown_word a b g r x s.base.0 p h.base.0));
}

pub split_kept : (a b : Build) (g r t base offset : ℕ) → Grown a b g r → t < length a.dag → IsSplit a.dag t base offset → IsSplit b.dag t base offset
split_kept a b g r t base offset p l h = record {
  place = grown_width a b g r 32 base p h.place;
  below = h.below;
  value = λ x i. grown_word a b g r x t p l ∙ h.value x i ∙ ap (λ z. add 32 z offset) (sym (grown_word a b g r x base p h.place.0));
}

pub taken_kept : (a b : Build) (g r : ℕ) (t : Taken) → Grown a b g r → IsTaken a t → IsTaken b t
taken_kept a b g r t p h = record {
  part = part_kept a b t.part p.question h.part;
  some = h.some;
  few = h.few;
  first = grown_width a b g r 32 t.first.0 p h.first;
  second = λ e. (
    grown_width a b g r 32 t.second.0 p (h.second e).0,
    λ x i. grown_word a b g r x t.second.0 p (h.second e).0.0 ∙ (h.second e).1 x i ∙ ap (λ z. add 32 z 1) (sym (grown_word a b g r x t.first.0 p h.first.0)),
  );
  split = split_kept a b g r t.first.0 t.at.base.0 t.at.offset p h.first.0 h.split;
}

pub piece_kept : (a b : Build) (g r : ℕ) (stored : List StoredByte) (q : ℕ) (z : Piece) → Grown a b g r → IsPiece a stored q z → IsPiece b stored q z
piece_kept a b g r stored q (Entry part) p h = part_kept a b part p.question h
piece_kept a b g r stored q (Store m s f n) p h = (h.0, stored_kept a b g r stored s f n p h.1)
piece_kept a b g r stored q (Take m t) p h = (h.0, taken_kept a b g r t p h.1)
piece_kept a b g r stored q (Join c m n) p h = (grown_width a b g r 1 c.0 p h.0, h.1, h.2)

pub pieces_kept : (a b : Build) (g r : ℕ) (stored : List StoredByte) (pieces : List Piece) → Grown a b g r → ArePieces a stored pieces →
    ArePieces b stored pieces
pieces_kept a b g r stored pieces p h q l = piece_kept a b g r stored q (piece_at pieces q) p (h q l)

-- pieces rise
pub piece_rises : (b : Build) (stored : List StoredByte) (q : ℕ) (z : Piece) → IsPiece b stored q z → IsRising q z
piece_rises b stored q (Entry p) h = tt
piece_rises b stored q (Store m s f n) h = h.0
piece_rises b stored q (Take m t) h = h.0
piece_rises b stored q (Join c m n) h = (h.1, h.2)

-- stored bytes have their words as cells grow
bytes_same : (a b : Build) (g r : ℕ) (x : TermReading) (stored : List StoredByte) (f n t y : ℕ) → Grown a b g r → AreBytes a.dag stored f n → t < length a.dag →
    put_bytes (term_word x b.dag) stored f n t y ≡ put_bytes (term_word x a.dag) stored f n t y
bytes_same a b g r x stored f n t y p h l =
    ap (λ z. puts z (λ k. term_word x b.dag (stored_at stored (f + k)).address.0)
    (λ k. term_word x b.dag (stored_at stored (f + k)).value.0) n y) (grown_word a b g r x t p l)
    ∙ puts_same (term_word x a.dag t) _ _ _ _ n y
    (λ k m. grown_word a b g r x (stored_at stored (f + k)).address.0 p (h.addresses k m).0)
    (λ k m. grown_word a b g r x (stored_at stored (f + k)).value.0 p (h.values k m).0)

-- the byte of a piece over terms that have the bytes of the pieces that it needs
pub piece_agrees : (a b : Build) (g r : ℕ) (x : TermReading) (stored : List StoredByte) (q : ℕ) (z : Piece) (at : Split) (t : ℕ) (chain : List Term)
    (bytes : ℕ → ℕ) (marks : List Bool) →
    IsBuilt a → Grown a b g r → InRange x → IsPiece a stored q z → HasWidth a.dag 32 t → IsSplit a.dag t at.base.0 at.offset → Needs marks at z →
    ((p : ℕ) → p < q → bool_at marks p ≡ true → term_word x b.dag (link chain p) ≡ bytes p) →
    piece_byte (term_word x b.dag) x.mem (λ p. term_word x b.dag (link chain p)) stored z (term_word x b.dag t)
    ≡ piece_byte (term_word x a.dag) x.mem bytes stored z (term_word x a.dag t)
piece_agrees a b g r x stored q (Entry part) at t chain bytes marks c p i h w s n e = ap (x.mem part) (grown_word a b g r x t p w.0)
piece_agrees a b g r x stored q (Store m to f k) at t chain bytes marks c p i h w s n e =
    bytes_same a b g r x stored f k t (term_word x b.dag (link chain m)) p h.1.are w.0 ∙ below (ends_in at to k) refl
  where
    below : (y : Bool) → ends_in at to k ≡ y → put_bytes (term_word x a.dag) stored f k t (term_word x b.dag (link chain m))
        ≡ put_bytes (term_word x a.dag) stored f k t (bytes m)
    below true y = put_within a stored at to f k t x _ _ c i h.1 s y
    below false y = ap (put_bytes (term_word x a.dag) stored f k t) (e m h.0 (n y))
piece_agrees a b g r x stored q (Take m k) at t chain bytes marks c p i h w s n e =
    ap (taken_over (term_word x b.dag) x.mem k (term_word x b.dag (link chain m))) (grown_word a b g r x t p w.0)
    ∙ ap (λ z. if is_among z k.bytes (term_word x a.dag t) then x.mem k.part (term_word x a.dag t) else term_word x b.dag (link chain m))
    (grown_word a b g r x k.first.0 p h.1.first.0)
    ∙ below (ends_in at k.at k.bytes) refl
  where
    below : (y : Bool) → ends_in at k.at k.bytes ≡ y → taken_over (term_word x a.dag) x.mem k (term_word x b.dag (link chain m)) (term_word x a.dag t)
        ≡ taken_over (term_word x a.dag) x.mem k (bytes m) (term_word x a.dag t)
    below true y = take_within a k at t x _ _ c i h.1 s y
    below false y = ap (λ z. taken_over (term_word x a.dag) x.mem k z (term_word x a.dag t)) (e m h.0 (n y))
piece_agrees a b g r x stored q (Join d m o) at t chain bytes marks c p i h w s n e =
    ap (λ z. select z (term_word x b.dag (link chain m)) (term_word x b.dag (link chain o))) (grown_word a b g r x d.0 p h.0.0)
    ∙ ap (λ z. select (term_word x a.dag d.0) z (term_word x b.dag (link chain o))) (e m h.1 n.0)
    ∙ ap (select (term_word x a.dag d.0) (bytes m)) (e o h.2 n.1)

-- the byte of a piece stays one as cells grow
pub byte_later : (a b d : Build) (g r h s : ℕ) (stored : List StoredByte) (pieces : List Piece) (q t y : ℕ) → IsBuilt b → Grown b d h s →
    IsByteOf a b stored pieces q t y → IsByteOf a d stored pieces q t y
byte_later a b d g r h s stored pieces q t y c p k = record {
  place = grown_width b d h s 8 y p k.place;
  value = λ x i v bytes f. grown_word b d h s x y p k.place.0 ∙ k.value x i (gives_before b d h s x c p v) bytes f;
}

-- the links of a chain with one more
pub linked : (chain : List Term) (t : Term) (q : ℕ) → q < length chain → link (chain ++ t ∷ []) q ≡ link chain q
linked chain t q l = ap (λ z. z.0) (get_or_append_left chain (t ∷ []) (record { 0 = 0 }) q l)

pub linked_last : (chain : List Term) (t : Term) (q : ℕ) → q ≡ length chain → link (chain ++ t ∷ []) q ≡ t.0
linked_last chain t q e = ap (link (chain ++ t ∷ [])) e ∙ ap (λ z. z.0) (last chain t (record { 0 = 0 }))

-- sums over one more piece
take_next : (zs : List Piece) (q : ℕ) → q < length zs → take (suc q) zs ≡ take q zs ++ piece_at zs q ∷ []
take_next [] q l = absurd (omega arith)
take_next (z ∷ zs) zero l = refl
take_next (z ∷ zs) (suc q) l = ap (λ k. z ∷ k) (take_next zs q (omega arith))

pub sum_next : (f : Piece → ℕ) (pieces : List Piece) (q : ℕ) → q < length pieces →
    sum_by f (take (q + 1) pieces) ≡ sum_by f (take q pieces) + f (piece_at pieces q)
sum_next f pieces q l =
    ap (λ k. sum_by f (take k pieces)) (let e : q + 1 ≡ suc q = omega arith
    in e) ∙ ap (sum_by f) (take_next pieces q l) ∙ sum_by-append f (take q pieces) (piece_at pieces q ∷ [])
    ∙ (let e : sum_by f (take q pieces) + (0 + f (piece_at pieces q)) ≡ sum_by f (take q pieces) + f (piece_at pieces q) = omega arith in e)

-- an element within a list does not hang on what stands for one behind it
pub any_default : {X : Type 0} → (xs : List X) (i : ℕ) (d e : X) → i < length xs → get_or xs i d ≡ get_or xs i e
any_default [] i d e l = absurd (omega arith)
any_default (x ∷ xs) zero d e l = refl
any_default (x ∷ xs) (suc i) d e l = any_default xs i d e (omega arith)

-- a piece of a list, as a call has it
pub piece_here : (b : Build) (stored other : List StoredByte) (pieces : List Piece) (q n : ℕ) (z : Piece) → ArePieces b stored pieces →
    q < length pieces → other ≡ stored → n ≡ q →
    z ≡ piece_at pieces q → IsPiece b other n z
piece_here b stored other pieces q n z h l e f g =
    subst (λ (s : List StoredByte). IsPiece b s n z) (sym e) (subst
    (λ (k : ℕ). IsPiece b stored k z) (sym f) (subst (IsPiece b stored q) (sym g) (h q l)))

-- the links up to a number
abbrev pub AreLinks : (old new : Build) → List StoredByte → List Piece → List Bool → (address : ℕ) → (q : ℕ) → List Term → Type 0
AreLinks old new stored pieces marks t q chain = (p : ℕ) → p < q → bool_at marks p ≡ true → IsByteOf old new stored pieces p t (link chain p)

-- one more link, of a marked piece
pub marked_next : (old mid new : Build) (g r h s : ℕ) (stored other : List StoredByte) (pieces : List Piece) (marks : List Bool) (at : Split) (t q : ℕ)
    (chain same : List Term) (z : Piece) (y : Term) →
    IsBuilt old → ArePieces old stored pieces → q < length pieces → AreClosed marks pieces at 0 → q < length marks → bool_at marks q ≡ true →
    IsSplit old.dag t at.base.0 at.offset →
    HasWidth old.dag 32 t → other ≡ stored → same ≡ chain → z ≡ piece_at pieces q → length chain ≡ q → Grown old mid g r →
    AreLinks old mid stored pieces marks t q chain → Grown mid new h s →
    IsByte new y.0 (λ x. piece_byte (term_word x mid.dag) x.mem (λ p. term_word x mid.dag (link same p)) other z (term_word x mid.dag t)) →
    AreLinks old new stored pieces marks t (q + 1) (chain ++ y ∷ [])
marked_next old mid new g r h s stored other pieces marks at t q chain same z y c d l e m k i w eo es ez n p f v b p' lp mp = elim (cases_lt p' q) [
  | inl j ↦ subst (IsByteOf old new stored pieces p' t) (sym (linked chain y p' (omega (arith, n, j))))
      (byte_later old mid new g r h s stored pieces p' t (link chain p') p.built v (f p' j mp))
  | inr j ↦ (
      let a : p' ≡ q = omega (arith, lp, j) in
      let one : IsByte new y.0 (λ x. piece_byte (term_word x mid.dag) x.mem
      (λ p. term_word x mid.dag (link chain p)) stored (piece_at pieces q) (term_word x mid.dag t)) =
      subst (λ (u : List StoredByte). IsByte new y.0 (λ x. piece_byte (term_word x mid.dag) x.mem
      (λ p. term_word x mid.dag (link chain p)) u (piece_at pieces q) (term_word x mid.dag t))) eo
      (subst (λ (u : List Term). IsByte new y.0 (λ x. piece_byte (term_word x mid.dag) x.mem
      (λ p. term_word x mid.dag (link u p)) other (piece_at pieces q) (term_word x mid.dag t))) es
      (subst (λ (u : Piece). IsByte new y.0 (λ x. piece_byte (term_word x mid.dag) x.mem
      (λ p. term_word x mid.dag (link same p)) other u (term_word x mid.dag t))) ez b)) in
      subst (IsByteOf old new stored pieces p' t) (sym (linked_last chain y p' (a ∙ sym n)))
      (subst (λ (u : ℕ). IsByteOf old new stored pieces u t y.0) (sym a) (record {
        place = one.place;
        value = λ x ir gv bytes fp.
            one.value x ir gv
            ∙ piece_agrees old mid g r x stored q (piece_at pieces q) at t chain bytes marks c p ir (d q l) w i (e q (omega arith) m k)
            (λ o lo mo. (f o lo mo).value x ir (gives_before mid new h s x p.built v gv) bytes fp)
            ∙ sym (fp q l);
      })))
]

-- a piece that is not marked needs no link
pub unmarked_next : (old new : Build) (stored : List StoredByte) (pieces : List Piece) (marks : List Bool) (t q : ℕ) (chain : List Term) (y : Term) →
    bool_at marks q ≡ false → length chain ≡ q →
    AreLinks old new stored pieces marks t q chain → AreLinks old new stored pieces marks t (q + 1) (chain ++ y ∷ [])
unmarked_next old new stored pieces marks t q chain y k n f p lp mp = elim (cases_lt p q) [
  | inl j ↦ subst (IsByteOf old new stored pieces p t) (sym (linked chain y p (omega (arith, n, j)))) (f p j mp)
  | inr j ↦ (let a : p ≡ q = omega (arith, lp, j) in absurd (true≢false (sym mp ∙ ap (bool_at marks) a ∙ k)))
]

-- the byte of a piece over terms that were there before
pub piece_words : (a b : Build) (g r : ℕ) (x : TermReading) (m : ℕ → Memory) (stored : List StoredByte) (q : ℕ) (z : Piece) (bytes : ℕ → ℕ) (i : ℕ) →
    Grown a b g r → IsPiece a stored q z →
    piece_byte (term_word x b.dag) m bytes stored z i ≡ piece_byte (term_word x a.dag) m bytes stored z i
piece_words a b g r x m stored q (Entry part) bytes i p h = refl
piece_words a b g r x m stored q (Store d to f k) bytes i p h =
    puts_same i _ _ _ _ k (bytes d)
    (λ n l. grown_word a b g r x (stored_at stored (f + n)).address.0 p (h.1.are.addresses n l).0)
    (λ n l. grown_word a b g r x (stored_at stored (f + n)).value.0 p (h.1.are.values n l).0)
piece_words a b g r x m stored q (Take d k) bytes i p h =
    ap (λ z. if is_among z k.bytes i then m k.part i else bytes d) (grown_word a b g r x k.first.0 p h.1.first.0)
piece_words a b g r x m stored q (Join c d e) bytes i p h = ap (λ z. select z (bytes d) (bytes e)) (grown_word a b g r x c.0 p h.0.0)

-- the byte of a piece at the address of a term that was there before
pub byte_before : (a b d : Build) (g r : ℕ) (stored : List StoredByte) (pieces : List Piece) (q n t y : ℕ) → Grown a b g r → ArePieces a stored pieces →
    t < length a.dag → n ≡ q →
    IsByteOf b d stored pieces n t y → IsByteOf a d stored pieces q t y
byte_before a b d g r stored pieces q n t y p h l e k = subst (λ (z : ℕ). IsByteOf a d stored pieces z t y) e (record {
  place = k.place;
  value = λ x i v bytes f. k.value x i v bytes (λ j m.
      f j m
      ∙ ap (piece_byte (term_word x a.dag) x.mem bytes stored (piece_at pieces j)) (sym (grown_word a b g r x t p l))
      ∙ sym (piece_words a b g r x x.mem stored j (piece_at pieces j) bytes (term_word x b.dag t) p (h j m)));
})
