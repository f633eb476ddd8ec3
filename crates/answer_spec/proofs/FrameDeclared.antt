-- The symbols that are declared for an answer to be read are those of scripts.
use Rattle.std.proofs.Common.{◌≡◌, ℕ, ◌+◌, Bool, true, false, List, [], ◌∷◌, ◌++◌, Option, Some, None, map, append_assoc, refl, ap, sym, ◌∙◌}
use Rattle.std.specs.Prelude.{codes, if◌then◌else◌}
use Rattle.std.proofs.lemmas.List.{map-append}
use Rattle.machine_spec.specs.StateText.{Layout, value_names}
use Rattle.frame_spec.specs.Frames.{Contract, Frame, contract_at}
use Rattle.frame_spec.specs.FramePoints.{Point, has_heads}
use Rattle.frame_spec.specs.FrameScripts.{changed_flags, changed_registers, frame_drawn_names, given_at, given_symbols, head_symbols, of_given, of_head, writes_some, written_memory}
use Rattle.model_spec.specs.ModelText.{Declared}
use Rattle.answer_spec.specs.FrameAnswerLaws.{DeclaredAreOfScripts}
use Rattle.answer_spec.specs.FrameModels.{all_given_declared, entry_declared, given_declared, head_declared, memories_named, words_named}

-- the names of declared symbols
abbrev names_in : List Declared → List (List ℕ)
names_in ds = map (λ d. d.name) ds

of_words : (n : ℕ) (names : List (List ℕ)) → names_in (words_named n names) ≡ names
of_words n [] = refl
of_words n (w ∷ names) = ap (λ (z : List (List ℕ)). w ∷ z) (of_words n names)

of_memories : (names : List (List ℕ)) → names_in (memories_named names) ≡ names
of_memories [] = refl
of_memories (w ∷ names) = ap (λ (z : List (List ℕ)). w ∷ z) (of_memories names)

-- those of words of 32 bits, of one bit, and of memories, one behind the other
of_three : (rs fs ms : List (List ℕ)) → names_in (words_named 32 rs ++ (words_named 1 fs ++ memories_named ms)) ≡ rs ++ (fs ++ ms)
of_three rs fs ms =
    map-append (λ (d : Declared). d.name) (words_named 32 rs) (words_named 1 fs ++ memories_named ms)
    ∙ ap (λ (z : List (List ℕ)). z ++ names_in (words_named 1 fs ++ memories_named ms)) (of_words 32 rs)
    ∙ ap (λ (z : List (List ℕ)). rs ++ z) (map-append (λ (d : Declared). d.name) (words_named 1 fs) (memories_named ms)
    ∙ ap (λ (z : List (List ℕ)). z ++ names_in (memories_named ms)) (of_words 1 fs) ∙ ap (λ (z : List (List ℕ)). fs ++ z) (of_memories ms))

of_head_state : (layout : Layout) (heads : Bool) → names_in (head_declared layout heads) ≡ head_symbols layout heads
of_head_state layout false = refl
of_head_state layout true =
    of_three (map of_head layout.registers) (map of_head layout.flags) (of_head (codes "mem") ∷ [])
    ∙ sym (append_assoc (map of_head layout.registers) (map of_head layout.flags) (of_head (codes "mem") ∷ []))
    ∙ ap (λ (z : List (List ℕ)). z ++ of_head (codes "mem") ∷ []) (sym (map-append of_head layout.registers layout.flags))

of_step : (layout : Layout) (n : ℕ) (x : Option Contract) → names_in (given_declared layout n x) ≡ given_at layout n x
of_step layout n None = refl
of_step layout n (Some x) =
    let rs = changed_registers x.registers layout.first layout.registers in
    let fs = changed_flags x.flags layout.flags in
    let ms = written_memory (writes_some x.writes) in
    of_three (map (of_given n) rs) (map (of_given n) fs) (map (of_given n) ms)
    ∙ sym (map-append (of_given n) rs (fs ++ ms) ∙ ap (λ (z : List (List ℕ)). map (of_given n) rs ++ z) (map-append (of_given n) fs ms))

of_steps : (f : Frame) (layout : Layout) (n : ℕ) (points : List Point) → names_in (all_given_declared f layout n points) ≡ given_symbols f layout n points
of_steps f layout n [] = refl
of_steps f layout n (q ∷ rest) =
    map-append (λ (d : Declared). d.name) (if q.contract then given_declared layout n (contract_at f.stepped q.at) else []) (all_given_declared f layout (n + 1)
    rest)
    ∙ ap (λ (z : List (List ℕ)). z ++ names_in (all_given_declared f layout (n + 1) rest)) (by q.contract)
    ∙ ap (λ (z : List (List ℕ)). (if q.contract then given_at layout n (contract_at f.stepped q.at) else []) ++ z) (of_steps f layout (n + 1) rest)
  where
    by : (b : Bool) → names_in (if b then given_declared layout n (contract_at f.stepped q.at) else [])
        ≡ (if b then given_at layout n (contract_at f.stepped q.at) else [])
    by true = of_step layout n (contract_at f.stepped q.at)
    by false = refl

pub declared_are_of_scripts : DeclaredAreOfScripts
declared_are_of_scripts f layout points =
    let heads = head_declared layout (has_heads f) in
    let choices = words_named 2 (frame_drawn_names f 0 points) in
    let steps = all_given_declared f layout 0 points in
    let name = λ (d : Declared). d.name in
    let behind : names_in (heads ++ (choices ++ steps)) ≡ head_symbols layout (has_heads f) ++ (frame_drawn_names f 0 points ++ given_symbols f layout 0 points) =
    map-append name heads (choices ++ steps)
    ∙ ap (λ (z : List (List ℕ)). z ++ names_in (choices ++ steps)) (of_head_state layout (has_heads f))
    ∙ ap (λ (z : List (List ℕ)). head_symbols layout (has_heads f) ++ z) (map-append name choices steps
    ∙ ap (λ (z : List (List ℕ)). z ++ names_in steps) (of_words 2 (frame_drawn_names f 0 points))
    ∙ ap (λ (z : List (List ℕ)). frame_drawn_names f 0 points ++ z) (of_steps f layout 0 points)) in
    let all = head_symbols layout (has_heads f) ++ (frame_drawn_names f 0 points ++ given_symbols f layout 0 points) in
    map-append name (entry_declared layout) (heads ++ (choices ++ steps))
    ∙ ap (λ (z : List (List ℕ)). z ++ names_in (heads ++ (choices ++ steps))) (of_three layout.registers layout.flags (codes "mem" ∷ []))
    ∙ ap (λ (z : List (List ℕ)). (layout.registers ++ (layout.flags ++ codes "mem" ∷ [])) ++ z) behind
    ∙ ap (λ (z : List (List ℕ)). z ++ all) (sym (append_assoc layout.registers layout.flags (codes "mem" ∷ [])))
    ∙ append_assoc (value_names layout) (codes "mem" ∷ []) all
    ∙ sym (append_assoc (value_names layout) (codes "mem" ∷ head_symbols layout (has_heads f)) (frame_drawn_names f 0 points ++ given_symbols f layout 0 points))
