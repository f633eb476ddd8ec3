-- What rows load, by the parts of an instruction.
use Rattle.std.proofs.Common.{◌≡◌, ℕ, ◌*◌, ◌%◌, refl, ap, sym, subst, ◌∙◌, Bool, true, false, Option, Some, None, length}
use Rattle.std.specs.Prelude.{◌==◌, ◌&&◌, not}
use Rattle.word_spec.specs.Memory.{Endian}
use Rattle.word_spec.specs.State.{State}
use Rattle.machine_spec.specs.Arm.{holds, when_stored, is_load, is_byte, is_unaligned, is_even, field_d, access_of, transfer_address, halfword_address, halfword_size, block_start, listed, single_transfer, halfword, block}

-- LDR to register 15
unaligned_is : (w : ℕ) (s : State) (rd a : ℕ) → rd ≡ field_d w → a ≡ transfer_address w s → ((rd == 15) && not (a % 4 == 0)) ≡ is_unaligned w s
unaligned_is w s rd a d e = ap (λ z. (z == 15) && not (a % 4 == 0)) d ∙ ap (λ z. (field_d w == 15) && not (z % 4 == 0)) e

pub refused : (w : ℕ) (s : State) (load u : Bool) (rd a : ℕ) → load ≡ is_load w → load ≡ true → rd ≡ field_d w → a ≡ transfer_address w s →
    u ≡ ((rd == 15) && not (a % 4 == 0)) → u ≡ true →
    None ≡ when_stored (is_load w && not (is_unaligned w s)) (access_of (is_byte w) (transfer_address w s))
refused w s load u rd a l it_loads d e is t =
    none (is_load w) (is_unaligned w s) (sym l ∙ it_loads) (sym (unaligned_is w s rd a d e) ∙ sym is ∙ t)
  where
    none : (l u : Bool) → l ≡ true → u ≡ true → None ≡ when_stored (l && not u) (access_of (is_byte w) (transfer_address w s))
    none l u p q = rw (p, q) refl

pub word_loaded : (w : ℕ) (s : State) (load u byte : Bool) (rd a : ℕ) (p : ℕ × ℕ) → load ≡ is_load w → load ≡ true → rd ≡ field_d w →
    a ≡ transfer_address w s → u ≡ ((rd == 15) && not (a % 4 == 0)) → u ≡ false → byte ≡ is_byte w → p ≡ access_of byte a →
    Some p ≡ when_stored (is_load w && not (is_unaligned w s)) (access_of (is_byte w) (transfer_address w s))
word_loaded w s load u byte rd a p l it_loads d e is f b at =
    let un : is_unaligned w s ≡ false = sym (unaligned_is w s rd a d e) ∙ sym is ∙ f in
    let it : is_load w ≡ true = sym l ∙ it_loads in
    let place : p ≡ access_of (is_byte w) (transfer_address w s) = at ∙ ap (λ z. access_of z a) b ∙ ap (λ z. access_of (is_byte w) z) e in
    ap (λ z. Some z) place ∙ loads (is_load w) (is_unaligned w s) it un
  where
    loads : (l u : Bool) → l ≡ true → u ≡ false →
        Some (access_of (is_byte w) (transfer_address w s)) ≡ when_stored (l && not u) (access_of (is_byte w) (transfer_address w s))
    loads l u p q = rw (p, q) refl

-- LDM
pub block_loaded : (w : ℕ) (s : State) (a k : ℕ) → is_load w ≡ true → a ≡ block_start w s → k ≡ length (listed w) →
    Some (a, 4 * k) ≡ when_stored (is_load w) (block_start w s, 4 * length (listed w))
block_loaded w s a k l ea ek = rw l (ap (λ a. Some (a, 4 * k)) ea ∙ ap (λ k. Some (block_start w s, 4 * k)) ek)

-- rows whose condition holds
pub transfer_row : (e : Endian) (w : ℕ) (s : State) (o : Option (ℕ × ℕ)) → holds w s ≡ true →
    o ≡ when_stored (is_load w && not (is_unaligned w s)) (access_of (is_byte w) (transfer_address w s)) → o ≡ (single_transfer e w).loaded s
transfer_row e w s o h k = rw h k

pub halfword_row : (e : Endian) (w : ℕ) (s : State) (o : Option (ℕ × ℕ)) → holds w s ≡ true →
    o ≡ when_stored (is_load w && is_even w s) (halfword_address w s, halfword_size w) → o ≡ (halfword e w).loaded s
halfword_row e w s o h k = rw h k

pub block_row : (e : Endian) (w : ℕ) (s : State) (o : Option (ℕ × ℕ)) → holds w s ≡ true →
    o ≡ when_stored (is_load w) (block_start w s, 4 * length (listed w)) → o ≡ (block e w).loaded s
block_row e w s o h k = rw h k
