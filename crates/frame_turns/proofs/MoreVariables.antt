-- A refutation over some variables is one over more.
use Rattle.std.proofs.Common.{◌≡◌, ap, ◌∙◌, arith, ℕ, ◌+◌, ◌≤◌, ◌<◌, List, [], ◌∷◌, Option, None, Some, Bool, true, false, refl}
use Rattle.std.specs.Prelude.{nat_le, nat_lt, ◌||◌, not, if◌then◌else◌}
use Rattle.std.proofs.lemmas.Bool.Decides.{nat_tests}
use Rattle.clause_spec.specs.Clauses.{Clause}
use Rattle.clause_spec.specs.Refutation.{LogLine, Add, Delete, Bad, Cause, IdNotAbove, VariableAbove, NotOfGrammar, Known, Hint, some_above, first_of_two, judge, judge_added, judge_of_grammar, is_of_grammar, after_judge, known_after, known_at_start, first_refusal, IsRefutation}

-- more variables refuse no line that fewer accept
above_by : (n m v : ℕ) → n ≤ m → (a b rest more : Bool) → nat_lt n v ≡ a → nat_lt m v ≡ b → (rest ≡ false → more ≡ false) → (a || rest) ≡ false →
    (b || more) ≡ false
above_by n m v h true b rest more f g next e = absurd (cc)
above_by n m v h false true rest more f g next e =
    let low : v ≤ n = grind (arith, nat_tests) in let high : m < v = grind (arith, nat_tests) in absurd (omega (arith, low, high, h))
above_by n m v h false false rest more f g next e = next e

none_above : (n m : ℕ) → n ≤ m → (c : Clause) → some_above n c ≡ false → some_above m c ≡ false
none_above n m h [] e = refl
none_above n m h (l ∷ ls) e =
    above_by n m l.variable h (nat_lt n l.variable) (nat_lt m l.variable) (some_above n ls) (some_above m ls) refl refl (none_above n m h ls) e

unless : (b : Bool) (e : Cause) (rest : Option Cause) → first_of_two b e rest ≡ None → (b ≡ false) × (rest ≡ None)
unless true e rest h = absurd (cc)
unless false e rest h = (refl, h)

neither : (b : Bool) (e : Cause) (rest : Option Cause) → b ≡ false → rest ≡ None → first_of_two b e rest ≡ None
neither true e rest h g = absurd (cc)
neither false e rest h g = g

added_more : (n m : ℕ) → n ≤ m → (k : Known) (id : ℕ) (c : Clause) (hints : List Hint) → judge_added n k id c hints ≡ None → judge_added m k id c hints ≡ None
added_more n m h k id c hints e =
    let outer = unless (nat_le id k.last) IdNotAbove _ e in
    let inner = unless (some_above n c) VariableAbove _ outer.1 in
    neither (nat_le id k.last) IdNotAbove _ outer.0 (neither (some_above m c) VariableAbove _ (none_above n m h c inner.0) inner.1)

ended_or : (b : Bool) (x y : Option Cause) → (x ≡ None → y ≡ None) → (if b then None else x) ≡ None → (if b then None else y) ≡ None
ended_or true x y f e = refl
ended_or false x y f e = f e

line_more : (n m : ℕ) → n ≤ m → (k : Known) (l : LogLine) → judge_of_grammar n k l ≡ None → judge_of_grammar m k l ≡ None
line_more n m h k (Add id c hints) e = ended_or k.ended (judge_added n k id c hints) (judge_added m k id c hints) (added_more n m h k id c hints) e
line_more n m h k (Delete id ids) e = refl
line_more n m h k Bad e = refl

judged_more : (n m : ℕ) → n ≤ m → (k : Known) (l : LogLine) → judge n k l ≡ None → judge m k l ≡ None
judged_more n m h k l e =
    let q = unless (not (is_of_grammar l)) NotOfGrammar (judge_of_grammar n k l) e in
    neither (not (is_of_grammar l)) NotOfGrammar (judge_of_grammar m k l) q.0 (line_more n m h k l q.1)

both_none : (x : Option Cause) (line : ℕ) (rest : Option (ℕ × Cause)) → after_judge x line rest ≡ None → (x ≡ None) × (rest ≡ None)
both_none None line rest h = (refl, h)
both_none (Some e) line rest h = absurd (cc)

lines_more : (n m : ℕ) → n ≤ m → (k : Known) (line : ℕ) (ls : List LogLine) → first_refusal n k line ls ≡ None → first_refusal m k line ls ≡ None
lines_more n m h k line [] e = e
lines_more n m h k line (l ∷ ls) e =
    let q = both_none (judge n k l) line (first_refusal n (known_after k l) (line + 1) ls) e in
    ap (λ z. after_judge z line (first_refusal m (known_after k l) (line + 1) ls)) (judged_more n m h k l q.0)
    ∙ lines_more n m h (known_after k l) (line + 1) ls q.1

pub refutes_more : (n m : ℕ) → n ≤ m → (cs : List Clause) (ls : List LogLine) → IsRefutation n cs ls → IsRefutation m cs ls
refutes_more n m h cs ls e = lines_more n m h (known_at_start cs) 1 ls e
