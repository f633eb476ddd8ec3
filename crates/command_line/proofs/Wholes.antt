-- What the getters of `clap` read.
use Rattle.std.proofs.Common.{◌≡◌, ℕ, Bool, true, false, List, Option, Some, None, Result, Ok, Err, refl, ap, arith}
use Rattle.std.specs.Str.Parse.{ParsesUnsigned}
use Rattle.clap.specs.Matches.{ReadsOne}
use Rattle.clap.specs.ValueTests.{is_unsigned_in}
use Rattle.clap.specs.Values.{IsUnsignedIn}
use Rattle.clap.proofs.ValueTestLemmas.{accepts-Accepts, Accepts-accepts}
use Rattle.clap.specs.declared.builder.value_parser.ValueParser.TheVariants as vp
use Rattle.command_line.specs.Lines.{◌>>=◌, whole_number}

-- the numbers below 2^64
abbrev last : ℕ
last = 18446744073709551615

some_number : (E : Type 0) (t : List ℕ) (v : ℕ) → ParsesUnsigned {E = E} 64 10 t (Ok v) → Some v ≡ whole_number t
some_number E t v h =
    let passes : IsUnsignedIn 0 last t = (h.0.0, h.0.1, omega arith, omega (arith, h.0.1)) in
    rw (Accepts-accepts false (vp.Unsigned 0 last) t passes) (ap Some h.1)

no_number : (E : Type 0) (t : List ℕ) (e : E) → ParsesUnsigned {E = E} 64 10 t (Err e) → None ≡ whole_number t
no_number E t e h = go (is_unsigned_in 0 last t) refl
  where
    go : (b : Bool) → is_unsigned_in 0 last t ≡ b → None ≡ whole_number t
    go false is = rw is refl
    go true is =
        let passes = accepts-Accepts false (vp.Unsigned 0 last) t is in
        absurd (h (passes.0, passes.1))

-- a number that is read by its type's own reader
pub whole_read : (E : Type 0) (G : List ℕ → Result ℕ E → Type 0) (found : Option (List ℕ)) (r : Option ℕ) → (found ≡ None → r ≡ None)
    → ((t : List ℕ) → found ≡ Some t → ReadsOne G t r) → ((t : List ℕ) (x : Result ℕ E) → G t x → ParsesUnsigned 64 10 t x) → r ≡ (found >>= whole_number)
whole_read E G None r none some only = none refl
whole_read E G (Some t) r none some only = go r (some t refl)
  where
    go : (o : Option ℕ) → ReadsOne G t o → o ≡ whole_number t
    go (Some v) h = some_number E t v (only t (Ok v) h)
    go None h = no_number E t h.0 (only t (Err h.0) h.1)
