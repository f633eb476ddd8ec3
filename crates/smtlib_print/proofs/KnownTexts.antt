-- The text of the assertion of a byte of the file.
use Rattle.std.proofs.Common.{◌≡◌, ℕ, ap, sym, ◌∙◌, List, ◌∷◌, ◌++◌, append_assoc}
use Rattle.std.specs.Prelude.{codes}
use Rattle.state_text.proofs.Appends.{seven}
use Rattle.smtlib_print.specs.Commands.{address, assertion, byte, has_byte, memory_name}
use Rattle.smtlib_print.specs.Written.{written}

-- brackets that close one after another
byte_text : (m b c t : List ℕ) → ((m ++ (32 ∷ (b ++ codes ")"))) ++ (32 ∷ (c ++ codes ")"))) ++ t ≡ m ++ (32 ∷ (b ++ (codes ") " ++ (c ++ (41 ∷ t)))))
byte_text m b c t =
    append_assoc (m ++ (32 ∷ (b ++ codes ")"))) (32 ∷ (c ++ codes ")")) t
    ∙ append_assoc m (32 ∷ (b ++ codes ")")) (32 ∷ ((c ++ codes ")") ++ t))
    ∙ ap (λ l. m ++ (32 ∷ l)) (append_assoc b (codes ")") (32 ∷ ((c ++ codes ")") ++ t)) ∙ ap (λ l. b ++ (codes ") " ++ l)) (append_assoc c (codes ")") t))

pub known_added : (start first second third fourth fifth sixth all : List ℕ) (p a v : ℕ) → first ≡ start ++ codes "(assert (= (select " →
    second ≡ first ++ memory_name p → third ≡ second ++ codes " " → fourth ≡ third ++ written (address a) → fifth ≡ fourth ++ codes ") " →
    sixth ≡ fifth ++ written (byte v) → all ≡ sixth ++ codes "))\n" →
    all ≡ start ++ (written (assertion (has_byte p a v)) ++ codes "\n")
known_added start first second third fourth fifth sixth all p a v e f g h i j k =
    seven start first second third fourth fifth sixth all (codes "(assert (= (select ") (memory_name p) (codes " ") (written (address a)) (codes ") ")
    (written (byte v)) (codes "))\n") e f g h i j k
    ∙ ap (λ t. start ++ (codes "(assert (= (select " ++ t)) (sym (closing (memory_name p) (written (address a)) (written (byte v))))
  where
    closing : (m b c : List ℕ) →
        (((m ++ (32 ∷ (b ++ codes ")"))) ++ (32 ∷ (c ++ codes ")"))) ++ codes ")") ++ codes "\n" ≡ m ++ (32 ∷ (b ++ (codes ") " ++ (c ++ codes "))\n"))))
    closing m b c =
        append_assoc ((m ++ (32 ∷ (b ++ codes ")"))) ++ (32 ∷ (c ++ codes ")"))) (codes ")") (codes "\n") ∙ byte_text m b c (codes ")\n")
