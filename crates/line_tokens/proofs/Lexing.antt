-- The tokens of a line, one after another.
use Rattle.std.proofs.Common.{◌≡◌, ℕ, subst, zero, suc, ◌-◌, ◌≤◌, refl, ap, sym, ◌∙◌, arith, Bool, true, false, List, [], ◌∷◌, drop}
use Rattle.std.specs.Prelude.{◌==◌, map}
use Rattle.std.specs.List.{prefix_len}
use Rattle.line_tokens.proofs.Numbers.{one_more, none_more}
use Rattle.line_tokens.specs.Tokens.{capped}
use Rattle.word_spec.specs.Tokens as grammar
use Rattle.word_spec.specs.Tokens.{tokens_of, tokens_after, token_at, token_length}
use Rattle.word_spec.specs.Texts.{is_blank}

-- what stands behind bytes of the token before
pub skipped : (n : ℕ) (text : List ℕ) → tokens_after n text ≡ tokens_of (drop n text)
skipped zero text = refl
skipped (suc n) [] = refl
skipped (suc n) (b ∷ text) = skipped n text

-- blanks at the front are no tokens
pub behind_blanks : (text : List ℕ) → tokens_of (drop (prefix_len is_blank text) text) ≡ tokens_of text
behind_blanks [] = refl
behind_blanks (b ∷ text) = by_test (is_blank b) refl (behind_blanks text)
  where
    here : (n : ℕ) → prefix_len is_blank (b ∷ text) ≡ n → tokens_of (drop (prefix_len is_blank (b ∷ text)) (b ∷ text)) ≡ tokens_of (drop n (b ∷ text))
    here n e = ap (λ k. tokens_of (drop k (b ∷ text))) e

    blank : is_blank b ≡ true → tokens_of text ≡ tokens_of (b ∷ text)
    blank e = rw e

    by_test : (x : Bool) → is_blank b ≡ x → tokens_of (drop (prefix_len is_blank text) text) ≡ tokens_of text →
        tokens_of (drop (prefix_len is_blank (b ∷ text)) (b ∷ text)) ≡ tokens_of (b ∷ text)
    by_test true e rest = here (suc (prefix_len is_blank text)) (one_more is_blank b text e) ∙ rest ∙ blank e
    by_test false e rest = here 0 (none_more is_blank b text e)

-- behind the blanks no blank is first
pub none_blank : (text rest : List ℕ) (b : ℕ) → drop (prefix_len is_blank text) text ≡ b ∷ rest → is_blank b ≡ false
none_blank [] rest b is = absurd cc
none_blank (c ∷ text) rest b is = by_test (is_blank c) refl (none_blank text rest b)
  where
    here : (n : ℕ) → prefix_len is_blank (c ∷ text) ≡ n → drop n (c ∷ text) ≡ b ∷ rest
    here n e = ap (λ k. drop k (c ∷ text)) (sym e) ∙ is

    same : c ∷ text ≡ b ∷ rest → c ≡ b
    same e = cc

    by_test : (x : Bool) → is_blank c ≡ x → (drop (prefix_len is_blank text) text ≡ b ∷ rest → is_blank b ≡ false) → is_blank b ≡ false
    by_test true e later = later (here (suc (prefix_len is_blank text)) (one_more is_blank c text e))
    by_test false e later = ap is_blank (sym (same (here 0 (none_more is_blank c text e)))) ∙ e

drop_one : (b n : ℕ) (rest : List ℕ) → 1 ≤ n → drop n (b ∷ rest) ≡ drop (n - 1) rest
drop_one b zero rest some = absurd (omega arith)
drop_one b (suc n) rest some = ap (λ k. drop k rest) (omega arith)

-- a token and those behind it
pub first_of : (b n : ℕ) (rest : List ℕ) → is_blank b ≡ false → (b == 35) ≡ false → n ≡ token_length b (b ∷ rest) → 1 ≤ n →
    tokens_of (b ∷ rest) ≡ token_at b (b ∷ rest) ∷ tokens_of (drop n (b ∷ rest))
first_of b n rest blank comment long some = rw (blank, comment, sym long) (ap
    (λ ts. token_at b (b ∷ rest) ∷ ts) (skipped (n - 1) rest ∙ ap tokens_of (sym (drop_one b n rest some))))

-- the next token and those behind it
pub next_left : (text all others : List ℕ) (first n : ℕ) (token : grammar.Token) → tokens_of all ≡ tokens_of text → all ≡ first ∷ others →
    is_blank first ≡ false →
    (first == 35) ≡ false → token ≡ capped (token_at first all) → n ≡ token_length first all → 1 ≤ n →
    map capped (tokens_of text) ≡ token ∷ map capped (tokens_of (drop n all))
next_left text all others first n token same is blank sharp one long some = ap (map capped) (sym same ∙ along) ∙ ap
    (λ t. t ∷ map capped (tokens_of (drop n all))) (sym one)
  where
    along : tokens_of all ≡ token_at first all ∷ tokens_of (drop n all)
    along =
        let P : List ℕ → Type 0 = λ l. n ≡ token_length first l → tokens_of l ≡ token_at first l ∷ tokens_of (drop n l) in
        subst P (sym is) (λ h. first_of first n others blank sharp h some) long
