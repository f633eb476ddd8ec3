use Rattle.std.proofs.Common.{◌≡◌, ℕ, ◌+◌, ◌-◌, ◌*◌, ◌%◌, ◌^◌, ◌<◌, ◌≤◌, ap, sym, subst, ◌∙◌, arith}
use Rattle.std.proofs.Math.Nat.{mod-eq_of_lt, mod-lt}
use Rattle.std.proofs.Math.Pow.{pow_mono}
use Rattle.std.proofs.lemmas.Nat.{pow_pos}
use Rattle.weakest_pre.proofs.KnownWords.{parts_below, word_whole}
use Rattle.weakest_pre.proofs.folding.whole.Goals as goal

-- the word in the code's shifts
shifted : (a b p : ℕ) → p ≤ 32 → a < 2 ^ (32 - p) → a * 2 ^ p % 18446744073709551616 + b % (1 * 2 ^ p % 18446744073709551616) ≡ a * 2 ^ p + b % 2 ^ p
shifted a b p few h =
    let all = parts_below a 0 p few h (pow_pos p) in
    let most : 2 ^ p ≤ 2 ^ 32 = pow_mono few in
    let one : 1 * 2 ^ p % 18446744073709551616 ≡ 2 ^ p = ap (λ n. n % 18446744073709551616) (omega arith) ∙ mod-eq_of_lt (omega arith) in
    let up : a * 2 ^ p % 18446744073709551616 ≡ a * 2 ^ p = mod-eq_of_lt (omega arith) in
    let low : b % (1 * 2 ^ p % 18446744073709551616) ≡ b % 2 ^ p = ap (λ n. b % n) one in
    omega arith

pub overflow_cast-result : goal.overflow_cast-result
overflow_cast-result c =
    let r = c.args.runs in
    record {
      fits = subst (λ (n : ℕ). n < 2 ^ 32) (sym (shifted r.above r.below r.place c.requires.place c.requires.above))
          (parts_below r.above (r.below % 2 ^ r.place) r.place c.requires.place c.requires.above (mod-lt r.below (pow_pos r.place)));
    }

pub returns-clause-some : goal.returns-clause-some
returns-clause-some c = λ w h.
    let r = c.args.runs in
    word_whole r w c.if-runs.false h ∙ sym (shifted r.above r.below r.place c.requires.place c.requires.above)
