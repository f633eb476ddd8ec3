-- Codes that are listed one by one.
use Rattle.std.proofs.Common.{◌≡◌, ◌<◌, ◌≤◌, inl, inr, refl, ap, sym, ◌∙◌, subst, arith, ℕ, ◌+◌, List, [], ◌∷◌, ◌++◌, length, get_or, take}
use Rattle.std.proofs.lemmas.Bool.{cases_lt}
use Rattle.std.proofs.lemmas.List.{get_or-map}
use Rattle.machine_spec.specs.Bil.{Bank}
use Rattle.bilv_spec.specs.Run.{Program}
use Rattle.std.specs.Prelude.{Contains}
use Rattle.flag_live.specs.Contracted.{IsKeptWith, LiveStayWith}
use Rattle.graph_nodes.specs.Graphs.{IsGraph, IsNode}
use Rattle.graph_nodes.specs.declared.nodes.Graph.{Graph}
use Rattle.graph_nodes.specs.declared.nodes.Node.{Node}
use Rattle.frame_spec.specs.Frames as frames
use Rattle.notes_value.specs.declared.notes.Contract.{Contract}
use Rattle.notes_value.specs.FrameViews.{contract_of}
use Rattle.program_points.proofs.Lists.{or_left, or_last, grown as push_length, nothing_more, regroup, take_whole}
use Rattle.question_form.specs.declared.unrolled.Code.{Code}
use Rattle.question_form.specs.FrameViews.{no_contract}
use Rattle.unroller.specs.Keys.{place_in}
use Rattle.unroller.specs.Places.{IsCodeOf, AreCodes, step_code}
use Rattle.unroller.specs.Steps.{contract_by, step_codes}
use Rattle.unroller.proofs.Adding.{take_none}
use Rattle.unroller.proofs.Ordered.{map_more}

pub codes_none : (p : Program) (bank : Bank) (noted : List frames.Contract) (addresses : List ℕ) (asserts : List (ℕ × ℕ)) (codes : List Code) → codes ≡ [] →
    AreCodes p bank noted addresses asserts 0 codes
codes_none p bank noted addresses asserts codes e = record { count = ap length e; each = λ i d w. absurd (omega arith) }

pub codes_more : (p : Program) (bank : Bank) (noted : List frames.Contract) (addresses : List ℕ) (asserts : List (ℕ × ℕ)) (i : ℕ) (codes more : List Code) (c : Code) →
    AreCodes p bank noted addresses asserts i codes →
    more ≡ codes ++ c ∷ [] → IsCodeOf p bank noted (get_or addresses i 0) asserts c → AreCodes p bank noted addresses asserts (i + 1) more
codes_more p bank noted addresses asserts i codes more c are is of = record {
  count = (let a = push_length codes more c is in let b = are.count in omega arith);
  each = λ j d w. elim (cases_lt j i) as (λ _. IsCodeOf p bank noted (get_or addresses j 0) asserts (get_or more j d)) [
    | inl low ↦
        let count = are.count in
        let same : get_or more j d ≡ get_or codes j d = ap (λ (l : List Code). get_or l j d) is ∙ or_left codes (c ∷ []) j d (omega arith) in
        subst (λ (z : Code). IsCodeOf p bank noted (get_or addresses j 0) asserts z) (sym same) (are.each j d low)
    | inr high ↦
        let here : j ≡ i = omega arith in
        let last : get_or more i d ≡ c = ap (λ (l : List Code). get_or l i d) is ∙ ap
        (λ (z : ℕ). get_or (codes ++ c ∷ []) z d) (sym are.count) ∙ or_last codes c d in
        subst (λ (z : ℕ). IsCodeOf p bank noted (get_or addresses z 0) asserts (get_or more z d)) (sym here) (subst
        (λ (z : Code). IsCodeOf p bank noted (get_or addresses i 0) asserts z) (sym last) of)
  ];
}

-- a node of a graph says what the program has
pub of_nodes : (p : Program) (g : Graph) (n : Node) → IsGraph p g → Contains g.nodes.items n → IsNode p n
of_nodes p g n is (i, w, e) = subst (IsNode p) e (is.nodes i n w)

-- and keeps the assignments that are live, where the graph does
pub kept_of_nodes : (p : Program) (noted : List frames.Contract) (g : Graph) (n : Node) → LiveStayWith p noted g → Contains g.nodes.items n → IsKeptWith p noted n
kept_of_nodes p noted g n live (i, w, e) = subst (IsKeptWith p noted) e (live i n w)

-- codes of contract steps
pub steps_none : (contracts : List Contract) (stepped steps : List ℕ) (codes : List Code) → codes ≡ codes ++ step_codes contracts stepped (take 0 steps)
steps_none contracts stepped steps codes =
    nothing_more codes ∙ sym (ap (λ (l : List ℕ). codes ++ step_codes contracts stepped l) (take_none steps))

pub steps_more : (contracts : List Contract) (stepped steps : List ℕ) (i : ℕ) (d : Contract) (old codes more : List Code) → i < length steps →
    place_in stepped (get_or steps i 0) < length contracts → codes ≡ old ++ step_codes contracts stepped (take i steps) →
    more ≡ codes ++ step_code (contract_of (get_or contracts (place_in stepped (get_or steps i 0)) d)) ∷ [] →
    more ≡ old ++ step_codes contracts stepped (take (i + 1) steps)
steps_more contracts stepped steps i d old codes more w inside is e =
    let by : ℕ → Code = λ a. step_code (contract_by contracts (place_in stepped a)) in
    let at = get_or steps i 0 in
    let before = step_codes contracts stepped (take i steps) in
    e
    ∙ ap (λ (x : frames.Contract). codes ++ step_code x ∷ []) (sym (get_or-map contract_of contracts (place_in stepped at) d no_contract inside))
    ∙ ap (λ (l : List Code). l ++ by at ∷ []) is ∙ regroup old before (by at ∷ [])
    ∙ ap (λ (l : List Code). old ++ l) (map_more by steps i 0 before (before ++ by at ∷ []) w refl refl)

pub steps_whole : (contracts : List Contract) (stepped steps : List ℕ) (i : ℕ) (old codes : List Code) → length steps ≤ i →
    codes ≡ old ++ step_codes contracts stepped (take i steps) → codes ≡ old ++ step_codes contracts stepped steps
steps_whole contracts stepped steps i old codes le is =
    is ∙ ap (λ (l : List ℕ). old ++ step_codes contracts stepped l) (take_whole steps i le)
