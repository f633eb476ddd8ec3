-- What is said of addresses, of what is loaded and stored, and of the write-back, without their values.
use Rattle.std.proofs.Common.{◌≡◌, ℕ, ◌+◌, ◌<◌, ◌≤◌, Bool, true, false, refl, arith}
use Rattle.word_spec.specs.Memory.{Endian}
use Rattle.machine_spec.specs.Bil.{RRegisters, Mem, Expression, Statements, Assign}
use Rattle.machine_spec.specs.Bil as bil
use Rattle.machine_spec.specs.BilMeaning.{evaluate}
use Rattle.machine_spec.specs.BilCounts.{reads_flag}
use Rattle.machine_spec.specs.BilStores.{list_stored}
use Rattle.machine_spec.specs.Arm.{writes_back}
use Rattle.arm_decode.specs.declared.parts.Indexing.{Indexing}
use Rattle.arm_decode.specs.declared.parts.Indexing.TheVariants as indexing
use Rattle.arm_decode.specs.Parts.{HasIndexing}
use Rattle.arm_lift_alu.specs.Operands.{own}
use Rattle.arm_lift_alu.proofs.Plain.{IsPlain, nothing_chosen, own_register, number_plain, constant_plain, binary_plain, cast_plain, concat_plain, lighter}
use Rattle.arm_lift_mem.specs.Accesses as lifts
use Rattle.arm_lift_mem.specs.Accesses.{unless}
use Rattle.arm_lift_alu.proofs.Fetches.{IsFetch, fetch, load_fetch, cast_fetch, roomier}
use Rattle.arm_lift_mem.proofs.Fetches.{word_fetch}
use Rattle.arm_lift_alu.proofs.Lists.{then_nothing}
use Rattle.arm_lift_alu.proofs.Accesses.{IsAccess, allowed_test, spare, register_access, store_access}

pub moved_plain : (up : Bool) (v : ℕ) (r : ℕ → Bool) (a b : Expression) → IsPlain 32 0 r a → IsPlain 32 v r b → IsPlain 32 (v + 64) r (lifts.moved up a b)
moved_plain true v r a b p q = binary_plain bil.Plus 32 0 v (v + 64) r a b p q refl (omega arith)
moved_plain false v r a b p q = binary_plain bil.Minus 32 0 v (v + 64) r a b p q refl (omega arith)

pub address_plain : (k : Indexing) (up : Bool) (v : ℕ) (r : ℕ → Bool) (a b : Expression) → IsPlain 32 0 r a → IsPlain 32 v r b →
    IsPlain 32 (v + 64) r (lifts.address k up a b)
address_plain indexing.Offset up v r a b p q = moved_plain up v r a b p q
address_plain indexing.Pre up v r a b p q = moved_plain up v r a b p q
address_plain indexing.Post up v r a b p q = lighter 32 0 (v + 64) r a p (omega arith)

pub again_plain : (k : Indexing) (up : Bool) (v : ℕ) (r : ℕ → Bool) (a b : Expression) → IsPlain 32 0 r a → IsPlain 32 v r b →
    IsPlain 32 (v + 64) r (lifts.address_again k up a b)
again_plain indexing.Offset up v r a b p q = moved_plain up v r a b p q
again_plain indexing.Pre up v r a b p q = lighter 32 0 (v + 64) r a p (omega arith)
again_plain indexing.Post true v r a b p q = moved_plain false v r a b p q
again_plain indexing.Post false v r a b p q = moved_plain true v r a b p q

-- the write-back before a list
pub written_access : (w : ℕ) (k : Indexing) (up : Bool) (n v x l t u : ℕ) (r : ℕ → Bool) (b : Expression) (rest : Statements) → HasIndexing w k →
    (writes_back w ≡ true → n < 15) → IsPlain 32 v r b → IsAccess x l t u r rest → IsAccess (v + 128 + x) l t u r (lifts.written_back k up n b rest)
written_access w k up n v x l t u r b rest has small q p = by k has
  where
    done : n < 15 → IsAccess (v + 128 + x) l t u r (Assign (bil.Register RRegisters n) (lifts.moved up (own n) b) rest)
    done h =
        spare (v + 128 + x) (0 + l) t (0 + u) (v + 128 + x) l t u r _
        (register_access n (v + 64) x 0 l t 0 u (v + 128 + x) r _ rest h (fetch 32 (v + 64) r _ (moved_plain up v r (own n) b (own_register n r h) q)) p
        (omega arith))
        (omega arith) (omega arith) (omega arith) (omega arith)

    by : (k : Indexing) → HasIndexing w k → IsAccess (v + 128 + x) l t u r (lifts.written_back k up n b rest)
    by indexing.Offset h = spare x l t u (v + 128 + x) l t u r rest p (omega arith) (omega arith) (omega arith) (omega arith)
    by indexing.Pre h = done (small h.1)
    by indexing.Post h = done (small h.1)

pub aligned_plain : (v : ℕ) (r : ℕ → Bool) (a : Expression) → IsPlain 32 v r a → IsPlain 32 (v + 32) r (lifts.aligned a)
aligned_plain v r a p = binary_plain bil.And 32 v 0 (v + 32) r a _ p (number_plain 0xfffffffc r (omega arith)) refl (omega arith)

pub turn_plain : (v : ℕ) (r : ℕ → Bool) (a : Expression) → IsPlain 32 v r a → IsPlain 64 (v + 0) r (lifts.turn a)
turn_plain v r a p =
    cast_plain bil.Unsigned 64 5 (v + 0) r _ (concat_plain 2 3 v 0 r _ _ (cast_plain bil.Low 2 32 v r a p refl) (constant_plain 3 0 r refl) refl) refl

-- how many bytes an access has
abbrev pub bytes_of : Bool → ℕ
bytes_of true = 1
bytes_of false = 4

pub loaded_fetch : (b : Bool) (o : Endian) (v : ℕ) (r : ℕ → Bool) (a : Expression) → IsPlain 32 v r a →
    IsFetch 32 (v + v + 544) (bytes_of b) 0 r (lifts.loaded b o a)
loaded_fetch true o v r a p =
    roomier 32 v 1 0 (v + v + 544) 1 0 r _ (cast_fetch bil.Unsigned 32 8 v 1 0 r _ (load_fetch 8 v o r a p refl) refl) (omega arith) (omega arith) (omega arith)
loaded_fetch false o v r a p =
    roomier 32 (v + 32 + (v + 0) + 512) 4 0 (v + v + 544) 4 0 r _
    (word_fetch (v + 32) (v + 0) o r _ _ (aligned_plain v r a p) (turn_plain v r a p)) (omega arith) (omega arith) (omega arith)

-- a store before a list
pub stored_access : (b : Bool) (o : Endian) (v y w l k t u z : ℕ) (r : ℕ → Bool) (a e : Expression) (rest : Statements) → IsPlain 32 v r a →
    IsFetch 32 y l u r e →
    IsAccess w k t z r rest → IsAccess (v + 32 + y + w) (l + k) (bytes_of b + t) (u + z) r (Assign Mem (lifts.stored b o a e) rest)
stored_access true o v y w l k t u z r a e rest p q s =
    store_access 8 v y w l k t u z (v + 32 + y + w) o r a _ rest p (cast_fetch bil.Low 8 32 y l u r e q refl) s (omega arith) refl refl (omega arith)
stored_access false o v y w l k t u z r a e rest p q s =
    store_access 32 (v + 32) y w l k t u z (v + 32 + y + w) o r _ e rest (aligned_plain v r a p) q s (omega arith) refl refl (omega arith)

-- an exception where a bit is set, and else a list
pub unless_access : (n v w l t u x : ℕ) (r : ℕ → Bool) (e : Expression) (rest : Statements) → IsPlain 1 v r e → IsAccess w l t u r rest → 8 + v + w ≤ x →
    IsAccess x l t u r (unless e n rest)
unless_access n v w l t u x r e rest p s h = record {
  typed = λ at. rw (p.typed (at + 1)) (s.typed _);
  no_loop = s.no_loop;
  no_special = s.no_special;
  nests = let i = s.nests in omega arith;
  names = λ m. rw (p.names m) (s.names m);
  unknowns = let i = p.unknowns in let j = s.unknowns in omega arith;
  picks = let i = p.picks in let j = s.picks in omega arith;
  steady = let i = p.steady in let j = s.steady in omega arith;
  weight = let i = p.weight in let j = s.weight in omega arith;
  loads = let i = p.loads in let j = s.loads in omega arith;
  stores = let i = p.stores in let j = s.stores in omega arith;
  assigns = s.assigns;
  reads = λ f a i g. rw (allowed_test (reads_flag f e) (r f) a (p.reads f) g) (s.reads f a i g);
  reads_first = s.reads_first;
  stored = λ z c b. rw (p.stored c b.env, nothing_chosen (evaluate e c b.env)) (then_nothing _ (list_stored rest c) (s.stored z c));
}
