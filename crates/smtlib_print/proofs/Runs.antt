-- The bytes of the file run by run.
use Rattle.std.proofs.Common.{◌≡◌, ℕ, suc, ◌+◌, ◌-◌, ◌<◌, ◌≤◌, List, [], ◌∷◌, ◌++◌, length, map, get_or, drop, refl, ap, sym, ◌∙◌, subst, inl, inr, arith, append_assoc, add-one}
use Rattle.std.specs.Prelude.{slice_index}
use Rattle.std.proofs.Math.Seq.{drop-cons}
use Rattle.std.proofs.lemmas.Bool.{cases_lt}
use Rattle.walk_spec.specs.Unrolled.{AddressRun, ByteRun}
use Rattle.known_bytes.specs.declared.listing.Known.{Known}
use Rattle.known_bytes.specs.Runs.{run_of, AreRuns}
use Rattle.smtlib_print.specs.Commands.{byte_assertions, run_assertions}
use Rattle.smtlib_print.specs.Scripted.{AreBehind, FitsMemory, FitMemory}
use Rattle.smtlib_print.specs.Written.{commands_text}
use Rattle.smtlib_print.proofs.Appended.{text-append}

-- the bytes of a run before a distance are bytes
abbrev pub AreBytesTo : ByteRun → ℕ → Type 0
AreBytesTo r n = (i : ℕ) → i < n → slice_index r.bytes i < 256

pub byte_below : (r : ByteRun) (n v : ℕ) → AreBytesTo r n → v < 256 → v ≡ slice_index r.bytes n → AreBytesTo r (n + 1)
byte_below r n v h s e i l = elim (cases_lt i n) [
  | inl k ↦ h i k
  | inr k ↦ (let same : i ≡ n = omega (arith, l, k) in subst (λ (z : ℕ). slice_index r.bytes z < 256) (sym same) (subst (λ (z : ℕ). z < 256) e s))
]

-- the runs from a place on
abbrev pub runs_from : List Known → ℕ → List ByteRun
runs_from runs i = map run_of (drop i runs)

-- the runs before a place are written
pub record AreRunsWritten (p : ℕ) (kept : List AddressRun) (runs : List Known) (old : List ℕ) (i : ℕ) (out : List ℕ) : Type 0 where
  pub text : out ++ commands_text (run_assertions p kept (runs_from runs i)) ≡ old ++ commands_text (run_assertions p kept (map run_of runs))
  pub fit : FitMemory (runs_from runs i) → FitMemory (map run_of runs)

-- the runs behind one
rest_runs : (r : Known) (rs : List Known) → AreRuns (r ∷ rs) → AreRuns rs
rest_runs r rs are = record {
  some = λ i d l. are.some (suc i) d (omega (arith, l));
  rising = λ i j d l k. are.rising (suc i) (suc j) d (omega (arith, l)) (omega (arith, k));
}

behind_all : (low : ℕ) (rs : List Known) → AreRuns rs → ((d : Known) → 0 < length rs → low ≤ (get_or rs 0 d).first) → AreBehind low (map run_of rs)
behind_all low [] are h = tt
behind_all low (r ∷ rs) are h = (
  h r (omega arith),
  behind_all (r.first + (r.last - r.first + 1)) rs (rest_runs r rs are)
      (λ d l. let s : r.first ≤ r.last = are.some 0 d (omega arith) in
      let b : r.last < (get_or rs 0 d).first = are.rising 0 1 d (omega arith) (omega (arith, l)) in omega (arith, s, b)),
)

pub behind_runs : (rs : List Known) → AreRuns rs → AreBehind 0 (map run_of rs)
behind_runs rs are = behind_all 0 rs are (λ d l. omega arith)

pub runs_begin : (p : ℕ) (kept : List AddressRun) (runs : List Known) (old : List ℕ) → AreRunsWritten p kept runs old 0 old
runs_begin p kept runs old = record { text = refl; fit = λ f. f }

-- one run more
pub run_more : (p : ℕ) (kept : List AddressRun) (runs : List Known) (i : ℕ) (r d : Known) (old out new : List ℕ) → i < length runs →
    r ≡ get_or runs i d → FitsMemory (run_of r) → new ≡ out ++ commands_text (byte_assertions p kept (run_of r) 0 (run_of r).count) →
    AreRunsWritten p kept runs old i out → AreRunsWritten p kept runs old (i + 1) new
run_more p kept runs i r default old out new l e fits step inv =
    let d : runs_from runs i ≡ run_of r ∷ runs_from runs (suc i) =
    ap (map run_of) (drop-cons runs i default l ∙ ap (λ (m : Known). m ∷ drop (suc i) runs) (sym e)) in
    let rest = runs_from runs (suc i) in
    let text : new ++ commands_text (run_assertions p kept rest) ≡ old ++ commands_text (run_assertions p kept (map run_of runs)) =
    ap (λ t. t ++ commands_text (run_assertions p kept rest)) step
    ∙ append_assoc out (commands_text (byte_assertions p kept (run_of r) 0 (run_of r).count)) (commands_text (run_assertions p kept rest))
    ∙ ap (λ t. out ++ t) (sym (text-append (byte_assertions p kept (run_of r) 0 (run_of r).count) (run_assertions p kept rest)))
    ∙ ap (λ z. out ++ commands_text (run_assertions p kept z)) (sym d) ∙ inv.text in
    rw add-one (record { text = text; fit = λ f. inv.fit (subst (λ (z : List ByteRun). FitMemory z) (sym d) (fits, f)) })
