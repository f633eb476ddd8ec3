-- Marks that take one more line.
use Rattle.std.proofs.Common.{◌≡◌, ℕ, zero, suc, ◌<◌, ◌≤◌, ◌+◌, ◌-◌, true, false, List, [], ◌∷◌, Option, Some, None, refl, arith, sym, ap, subst, ◌∙◌, inl, inr, length, take, get_or, add-one, vec_len, vec_capacity}
use Rattle.std.specs.Prelude.{nat_le}
use Rattle.std.proofs.lemmas.Bool.{cases_Bool}
use Rattle.std.proofs.lemmas.List.{get_or-map, length-map}
use Rattle.clause_spec.specs.Clauses.{Clause, Cnf}
use Rattle.clause_spec.specs.Refutation.{Hint, LogLine, Add, Known, known_after, known_after_line, judge_added, some_above}
use Rattle.std.specs.Option.{is_some}
use Rattle.cnf_form.specs.declared.form.Log.{Log}
use Rattle.cnf_form.specs.declared.form.LogLine.{LogLine as DeclaredLine}
use Rattle.cnf_form.specs.Views.{line_of, lines_of}
use Rattle.refutation_checker.specs.declared.slots.Slot.{Slot}
use Rattle.refutation_checker.specs.declared.marks.Marks.{Marks}
use Rattle.refutation_checker.specs.Known.{known_of, known_through, known_behind, IsGood, HaveSlots, HaveTaken}
use Rattle.refutation_checker.specs.Slots.{AreUpTo, IsWithin}

pub known_through-more : (ls : List LogLine) (k : Known) (i : ℕ) (d : LogLine) → i < length ls →
    known_through k (take (i + 1) ls) ≡ known_after (known_through k (take i ls)) (get_or ls i d)
known_through-more [] k i d lt = absurd (omega arith)
known_through-more (l ∷ ls) k zero d lt = refl
known_through-more (l ∷ ls) k (suc i) d lt =
    let n : take (suc i + 1) (l ∷ ls) ≡ l ∷ take (i + 1) ls = rw (add-one, add-one) refl in
    ap (known_through k) n ∙ known_through-more ls (known_after k l) i d (omega arith)

pub taken-next : (old new : Marks) (cnf : Cnf) (log : List LogLine) (line : ℕ) (l : LogLine) → 1 ≤ line → line ≤ length log → get_or log (line - 1) l ≡ l →
    HaveTaken old cnf log (line - 1) → IsGood new → new.names.items ≡ old.names.items → length new.slots.items ≡ length old.slots.items →
    known_of new ≡ known_after (known_of old) l → AreUpTo line new.slots.items →
    vec_len new.entries ≤ vec_len old.entries + 1 → vec_capacity old.entries ≤ vec_capacity new.entries → HaveTaken new cnf log line
taken-next old new cnf log line l from to is taken good names size known up len cap =
    let q : (line - 1) + 1 ≡ line = omega arith in
    let room = taken.room in
    record {
      good = good;
      known = known ∙ ap (λ (k : Known). known_after k l) taken.known
          ∙ sym (ap (λ n. known_behind cnf.clauses log n) (sym q) ∙ known_through-more log _ (line - 1) l (omega arith) ∙ ap
          (known_after (known_behind cnf.clauses log (line - 1))) is);
      slots = up;
      ready = subst (λ (xs : List ℕ). HaveSlots cnf.variables xs (length new.slots.items) log) (sym names) (subst
          (λ n. HaveSlots cnf.variables old.names.items n log) (sym size) taken.ready);
      room = omega arith;
    }

-- the marks' line of a log
pub line-at : (log : Log) (i : ℕ) (l : DeclaredLine) → i < length log.lines.items → l ≡ get_or log.lines.items i l →
    get_or (lines_of log) i (line_of l) ≡ line_of l
line-at log i l lt is = get_or-map line_of log.lines.items i l (line_of l) lt ∙ ap line_of (sym is)

pub length-lines : (log : Log) → length (lines_of log) ≡ length log.lines.items
length-lines log = length-map log.lines.items line_of

-- the clause that a line adds has slots
pub line-ready : (n size : ℕ) (names : List ℕ) (log : Log) (i id : ℕ) (c : Clause) (hints : List Hint) (l : DeclaredLine) →
    HaveSlots n names size (lines_of log) → i < length log.lines.items →
    l ≡ get_or log.lines.items i l → line_of l ≡ Add id c hints → some_above n c ≡ false → IsWithin names size c
line-ready n size names log i id c hints l ready lt at is low = ready i (rw (length-lines log) lt) id c hints (rw (← is) (line-at log i l lt at)) low

pub ended-after : (k : Known) (l : LogLine) → k.ended ≡ true → k ≡ known_after k l
ended-after k l h = rw h refl

pub not_ended-after : (k : Known) (l : LogLine) → k.ended ≡ false → known_after_line k l ≡ known_after k l
not_ended-after k l h = rw h refl

pub up-more : (i j : ℕ) (slots : List Slot) → i ≤ j → AreUpTo i slots → AreUpTo j slots
up-more i j slots le up k = let h = up k in omega arith

pub accepted : (n : ℕ) (k : Known) (id : ℕ) (c : Clause) (hs : List Hint) → judge_added n k id c hs ≡ None → some_above n c ≡ false
accepted n k id c hs h = elim (cases_Bool (nat_le id k.last)) [
  | inl e ↦ absurd (let g = rw e at h in cc)
  | inr e ↦ elim (cases_Bool (some_above n c)) [
    | inl f ↦ absurd (let g = rw (e, f) at h in cc)
    | inr f ↦ f
  ]
]

pub none_from : {X : Type 0} (o : Option X) → is_some o ≡ false → o ≡ None
none_from None h = refl
none_from (Some x) h = absurd (cc)
