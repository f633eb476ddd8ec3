-- What an outcome tells of a check.
use Rattle.std.proofs.Common.{◌≡◌, ◌≢◌, ℕ, ◌≤◌, Bool, true, false, cond, List, [], ◌∷◌, Some, codes, string_bytes, min, refl, sym, arith}
use Rattle.std.specs.Str.{bytes_eq}
use Rattle.call_spec.specs.Outside.{Held, Absent, Bytes}
use Rattle.call_spec.specs.Calls.{Evidence}
use Rattle.answer_spec.specs.Outcomes.{IsOutcome, whole, cut, no_memory}
use Rattle.command_line.specs.Lines.{lawful_command}
use Rattle.io_edges.specs.Met.{met, seen}
use Rattle.io_edges.specs.Files.{held_by, or_empty}
use Rattle.io_edges.specs.declared.files.MemFile.{MemFile}
use Rattle.suite_top.specs.Verified.{IsTold, over, two_files}

-- where no write failed and memory sufficed, the whole answer was written
outcome_told : (held : List ℕ → Held) (words : List (List ℕ)) (report : List ℕ) (status : ℕ) (e : Evidence) → status ≢ 8 →
    IsOutcome (over held report) (lawful_command words) status e → IsTold held words status report
outcome_told held words report status e ran (whole a due written is ev) =
    let same : report ≡ a.text = cc in
    record { answer = a; due = due; status_is = is; report_is = same }
outcome_told held words report status e ran (cut a n due short written risen is ev) =
    let r : min 1 18446744073709551615 ≤ 0 = risen in
    absurd (omega arith)
outcome_told held words report status e ran (no_memory written is ev) = absurd (ran is)

pub told_whole : (held : List ℕ → Held) (words : List (List ℕ)) (before after report : List ℕ) (faults_before faults_after status : ℕ) (e : Evidence) →
    before ≡ [] → after ≡ report → faults_before ≡ 0 → faults_after ≡ 0 → status ≢ 8 →
    IsOutcome (met (seen held (λ n. 0) (λ n. 0)) (Some before) (Some after) faults_before faults_after) (lawful_command words) status e →
    IsTold held words status report
told_whole held words before after report faults_before faults_after status e none all calm_before calm_after ran outcome =
    let first = rw none at outcome in
    let second = rw all at first in
    let third = rw calm_before at second in
    let fourth = rw calm_after at third in
    outcome_told held words report status e ran fourth

-- what a shelf of two files tells, where it has an empty file under each other name
pub held_cases : (b c : Bool) (x y : List ℕ) → or_empty (cond b (Bytes x) (cond c (Bytes y) Absent)) ≡ cond b (Bytes x) (cond c (Bytes y) (Bytes []))
held_cases true c x y = refl
held_cases false true x y = refl
held_cases false false x y = refl

told_at : (s t p q x y n : List ℕ) → s ≡ codes "elf" → t ≡ codes "notes" → p ≡ x → q ≡ y →
    or_empty (cond (bytes_eq s n) (Bytes p) (cond (bytes_eq t n) (Bytes q) Absent)) ≡ two_files x y n
told_at s t p q x y n first second one two = rw (first, second, one, two) (held_cases (bytes_eq (codes "elf") n) (bytes_eq (codes "notes") n) x y)

pub files_told : (a b : MemFile) (x y n : List ℕ) → string_bytes a.name ≡ codes "elf" → string_bytes b.name ≡ codes "notes" → a.bytes.items ≡ x →
    b.bytes.items ≡ y → or_empty (held_by (a ∷ b ∷ []) n) ≡ two_files x y n
files_told a b x y n first second one two = told_at (string_bytes a.name) (string_bytes b.name) a.bytes.items b.bytes.items x y n first second one two
