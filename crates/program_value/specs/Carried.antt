-- What a program carries has one proof at most.
use Rattle.std.specs.Prelude.{ℕ, ◌≡◌, ◌≤◌, Bool, true, false, List, get_or}
use Rattle.std.specs.List.{All}
use Rattle.std.specs.Coded.{Coded, Coded-set, coded_bool, code_by, ×_prop, Π_prop, →_prop, Unit-prop, le_prop}
use mathlib.Core.Path.{refl}
use Rattle.word_spec.specs.Memory.{Endian, Little, Big, endian}
use Rattle.bilv_spec.specs.Notes as notes
use Rattle.bilv_spec.specs.Notes.{Expr, Number, Register, Flag, Pc, Bound, Memory, Old, Not, Binary}
use Rattle.notes_value.specs.FrameViews.{contract_of}
use Rattle.notes_value.specs.Reads.{AreOver, AreReadable, IsOver, IsReadable, IsReadableContract}
use Rattle.notes_value.specs.declared.notes.Contract.{Contract}
use Rattle.frame_spec.specs.Frames as frames

abbrev is_big : Endian → Bool
is_big Little = false
is_big Big = true

endian_is : (e : Endian) → endian (is_big e) ≡ e
endian_is Little = refl
endian_is Big = refl

coded_endian : Coded Endian
coded_endian = code_by Bool coded_bool is_big endian endian_is

-- two byte orders are equal in one way at most
pub same_order : {x y : Endian} → IsProp (x ≡ y)
same_order {x} {y} = Coded-set coded_endian x y

true-prop : {b : Bool} → IsProp (b ≡ true)
true-prop {b} = Coded-set coded_bool b true

IsReadable-prop : (h : ℕ → Bool) (e : Expr) → IsProp (IsReadable h e)
IsReadable-prop h (Number n) = Unit-prop
IsReadable-prop h (Register r) = true-prop
IsReadable-prop h (Flag f) = le_prop
IsReadable-prop h Pc = Unit-prop
IsReadable-prop h Bound = Unit-prop
IsReadable-prop h (Memory n a) = IsReadable-prop h a
IsReadable-prop h (Old a) = IsReadable-prop h a
IsReadable-prop h (Not a) = IsReadable-prop h a
IsReadable-prop h (Binary op a b) = ×_prop (IsReadable-prop h a) (IsReadable-prop h b)

IsOver-prop : (h g : ℕ → Bool) (e : Expr) → IsProp (IsOver h g e)
IsOver-prop h g (Number n) = le_prop
IsOver-prop h g (Register r) = true-prop
IsOver-prop h g (Flag f) = true-prop
IsOver-prop h g Pc = Unit-prop
IsOver-prop h g Bound = Unit-prop
IsOver-prop h g (Memory n a) = λ x y i. (le_prop x.0 y.0 i, le_prop x.1 y.1 i, IsOver-prop h g a x.2 y.2 i)
IsOver-prop h g (Old a) = IsOver-prop h g a
IsOver-prop h g (Not a) = IsOver-prop h g a
IsOver-prop h g (Binary op a b) = ×_prop (IsOver-prop h g a) (IsOver-prop h g b)

All-prop : {X : Type 0} {P : X → Type 0} (xs : List X) → ((x : X) → IsProp (P x)) → IsProp (All P xs)
All-prop xs each = Π_prop (λ k. Π_prop (λ d. Π_prop (λ _. each (get_or xs k d))))

-- lines can be read in one way at most
pub AreReadable-prop : {h : ℕ → Bool} {n : notes.Notes} → IsProp (AreReadable h n)
AreReadable-prop {h} {n} x y = λ i. record {
  requires = All-prop n.requires (λ l. IsReadable-prop h l.says) x.requires y.requires i;
  ensures = All-prop n.ensures (λ l. IsReadable-prop h l.says) x.ensures y.ensures i;
  asserts = All-prop n.asserts (λ l. IsReadable-prop h l.says) x.asserts y.asserts i;
}

-- and are over a machine in one way at most
pub AreOver-prop : {h g : ℕ → Bool} {n : notes.Notes} → IsProp (AreOver h g n)
AreOver-prop {h} {g} {n} x y = λ i. record {
  requires = All-prop n.requires (λ l. IsOver-prop h g l.says) x.requires y.requires i;
  ensures = All-prop n.ensures (λ l. IsOver-prop h g l.says) x.ensures y.ensures i;
  asserts = All-prop n.asserts (λ l. IsOver-prop h g l.says) x.asserts y.asserts i;
}

IsReadableContract-prop : (h : ℕ → Bool) (c : frames.Contract) → IsProp (IsReadableContract h c)
IsReadableContract-prop h c x y = λ i. record {
  needs = All-prop c.needs (λ l. IsReadable-prop h l.says) x.needs y.needs i;
  gives = All-prop c.gives (λ l. IsReadable-prop h l.says) x.gives y.gives i;
  writes = All-prop c.writes (λ w. IsReadable-prop h w.says) x.writes y.writes i;
  registers = λ r is. true-prop (x.registers r is) (y.registers r is) i;
}

-- so can contracts
pub AreReadableContracts-prop : (h : ℕ → Bool) (cs : List Contract) → IsProp (All (λ x. IsReadableContract h (contract_of x)) cs)
AreReadableContracts-prop h cs = All-prop cs (λ x. IsReadableContract-prop h (contract_of x))
