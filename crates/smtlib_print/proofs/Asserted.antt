-- What is asserted of the bytes of the file one after another, and of the question.
use Rattle.std.proofs.Common.{◌≡◌, ℕ, zero, suc, ◌+◌, ◌^◌, ◌<◌, ◌≤◌, refl, ap, ◌∙◌, arith, true, false, Bool, List, [], ◌∷◌, Option, Some, None}
use Rattle.std.specs.Prelude.{◌==◌, ◌&&◌, codes, if◌then◌else◌, slice_index}
use Rattle.bilv_spec.specs.SmtLib.{Sexp, Atom, Cons, SmtValue, TruthValue, WordValue, ArrayValue, atom_value, term_value, binds, truth_of}
use Rattle.walk_spec.specs.Unrolled.{AddressRun, ByteRun}
use Rattle.smtlib_print.specs.Commands.{memory_name, term_name, term, definition, assertion, is_of_part, has_byte, byte_assertions, run_assertions, head_assertions, held_bytes, held_runs, held_head, is_one}
use Rattle.smtlib_print.specs.Scripted.{FitsMemory, FitMemory}
use Rattle.smtlib_print.specs.Written.{one, two, before}
use Rattle.smtlib_print.proofs.Constants.{hex_constant}
use Rattle.smtlib_print.proofs.Declared.{before-append}
use Rattle.smtlib_print.proofs.Defined.{Stands, IsNamed, named_value, define_step}
use Rattle.smtlib_print.proofs.Names.{term_symbol, symbol_value}

-- the truth of a term
pub term_truth : (symbols : List ℕ → Option SmtValue) (at : ℕ) (b : Bool) → at < 2 ^ 64 → symbols (term_name at) ≡ Some (TruthValue b) →
    atom_value symbols (term_name at) ≡ Some (TruthValue b)
term_truth symbols at b s h = symbol_value symbols (term_name at) (term_symbol at s) ∙ h

module _ (model symbols : List ℕ → Option SmtValue) (names : List (List ℕ)) (p : ℕ) (kept : List AddressRun) (mem : ℕ → ℕ)
    (memory : IsNamed model names (memory_name p) (ArrayValue mem)) (at : ℕ) (stands : Stands model symbols names at) where
  byte_truth : (a v : ℕ) → a < 2 ^ 32 → v < 256 → term_value symbols (has_byte p a v) ≡ Some (TruthValue (mem a == v))
  byte_truth a v small fits =
      rw (
        named_value model symbols names at _ _ stands memory,
        hex_constant symbols 8 a (omega arith) small,
        hex_constant symbols 2 v (omega arith) fits,
      ) refl

  -- a byte that is asserted or not
  assert_byte : (asked : Bool) (a v : ℕ) (cs : List Sexp) (rest : Sexp) (b : Bool) → a < 2 ^ 32 → v < 256 → truth_of model symbols (before cs rest) ≡ Some b →
      truth_of model symbols (before (if asked then assertion (has_byte p a v) ∷ cs else cs) rest) ≡ Some (if asked then (mem a == v) && b else b)
  assert_byte true a v cs rest b small fits h = rw (byte_truth a v small fits, h) refl
  assert_byte false a v cs rest b small fits h = h

  -- what is asserted of the bytes of a run, and what comes after it
  assert_bytes : (r : ByteRun) → FitsMemory r → (n i : ℕ) → i + n ≤ r.count → (rest : Sexp) (b : Bool) → truth_of model symbols rest ≡ Some b →
      truth_of model symbols (before (byte_assertions p kept r i n) rest) ≡ Some (held_bytes p kept mem r i n b)
  assert_bytes r fits zero i l rest b h = h
  assert_bytes r fits (suc n) i l rest b h =
      assert_byte (is_of_part p kept (r.at + i)) (r.at + i) (slice_index r.bytes i) (byte_assertions p kept r (suc i) n) rest
      (held_bytes p kept mem r (suc i) n b) (omega (arith, fits.within, l)) (fits.bytes i (omega (arith, l)))
      (assert_bytes r fits n (suc i) (omega (arith, l)) rest b h)

  -- and of the bytes of runs
  pub assert_runs : (rs : List ByteRun) → FitMemory rs → (rest : Sexp) (b : Bool) → truth_of model symbols rest ≡ Some b →
      truth_of model symbols (before (run_assertions p kept rs) rest) ≡ Some (held_runs p kept mem rs b)
  assert_runs [] fit rest b h = h
  assert_runs (r ∷ rs) fit rest b h =
      ap (truth_of model symbols) (before-append (byte_assertions p kept r 0 r.count) (run_assertions p kept rs) rest)
      ∙ assert_bytes r fit.0 r.count 0 (omega arith) (before (run_assertions p kept rs) rest) (held_runs p kept mem rs b) (assert_runs rs fit.1 rest b h)

-- of the bytes of the file, of which the head's memory has some if it is asked
pub assert_head : (model symbols : List ℕ → Option SmtValue) (names : List (List ℕ)) (kept : List AddressRun) (mem : ℕ → ℕ) (at : ℕ) →
    Stands model symbols names at → (asked : Bool) → (asked ≡ true → IsNamed model names (memory_name 1) (ArrayValue mem)) → (rs : List ByteRun) →
    FitMemory rs → (rest : Sexp) (b : Bool) → truth_of model symbols rest ≡ Some b →
    truth_of model symbols (before (head_assertions asked kept rs) rest) ≡ Some (held_head asked kept mem rs b)
assert_head model symbols names kept mem at stands false memory rs fit rest b h = h
assert_head model symbols names kept mem at stands true memory rs fit rest b h =
    assert_runs model symbols names 1 kept mem (memory refl) at stands rs fit rest b h

-- the assertion and the check behind it
pub assertion_truth : (model symbols : List ℕ → Option SmtValue) (at : ℕ) (b : Bool) → at < 2 ^ 64 → symbols (term_name at) ≡ Some (TruthValue b) →
    truth_of model symbols (two (assertion (term at)) (one (Atom (codes "check-sat")))) ≡ Some (b && true)
assertion_truth model symbols at b s h = rw (term_truth symbols at b s h) refl

-- the definition that a bit is 1
pub root_step : (model symbols : List ℕ → Option SmtValue) (at t v : ℕ) (rest : Sexp) → symbols (term_name at) ≡ None →
    atom_value symbols (term_name t) ≡ Some (WordValue 1 v) →
    truth_of model symbols (Cons (definition at (Atom (codes "Bool")) (is_one t)) rest)
    ≡ truth_of model (binds symbols (term_name at) (TruthValue (v == 1))) rest
root_step model symbols at t v rest f h = define_step model symbols at (Atom (codes "Bool")) (is_one t) rest (TruthValue (v == 1)) f (rw h refl) refl
