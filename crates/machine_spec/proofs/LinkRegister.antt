-- What the calls of a row do to the link register.
use Rattle.std.proofs.Common.{◌≡◌, ℕ, true, false}
use Rattle.word_spec.specs.Words.{add}
use Rattle.word_spec.specs.State.{State}
use Rattle.machine_spec.specs.Machine.{On, Direct, DirectCall, Indirect, IndirectCall, Outcome, Goes, Raises, Row, Successors}
use Rattle.machine_spec.specs.MachineLaws.{IsLawful, IfGoes, IsSuccessor, IsCall, LinksIn, KeepsLink}

-- a row links where it says so, and else leaves the link register as it was
pub record Linking (link : ℕ) (row : Row) : Type 0 where
  pub linked : row.links ≡ true → LinksIn link row
  pub unlinked : row.links ≡ false → KeepsLink link row

-- a row whose successors are of no call never calls
pub never : (x : Successors) (o : Outcome) (claim : State → Type 0) → x.call ≡ false → IsSuccessor x o → IfGoes o (λ how new. IsCall how → claim new)
never x (Goes On new) claim e h = λ call. absurd call
never x (Goes Direct new) claim e h = λ call. absurd call
never x (Goes DirectCall new) claim e h = let yes = h.1 in cc
never x (Goes Indirect new) claim e h = λ call. absurd call
never x (Goes IndirectCall new) claim e h = let yes = h.1 in cc
never x (Raises e) claim f h = tt

pub without_calls : (link : ℕ) (row : Row) → IsLawful row → ((at : ℕ) → (row.successors at).call ≡ false) → Linking link row
without_calls link row law none = record {
  linked = λ l s c is.
      never (row.successors s.pc) (row.effect s c) (λ new. new.regs link ≡ add 32 s.pc row.length) (none s.pc) (law.successors s c is);
  unlinked = λ l s c is. never (row.successors s.pc) (row.effect s c) (λ new. new.regs link ≡ s.regs link) (none s.pc) (law.successors s c is);
}
