-- Without invariants and contracts the script of a question of a frame is that of the question of its program.
use Rattle.std.proofs.Common.{◌≡◌, inl, inr, ℕ, zero, suc, ◌+◌, ◌<◌, refl, ap, sym, ◌∙◌, subst, arith, Bool, true, false, List, [], ◌∷◌, ◌++◌, Option, Some, None, map, length, get_or, append_assoc}
use Rattle.std.specs.Prelude.{◌||◌, ◌&&◌, ◌↔◌, AllPairs, Contains, codes, if◌then◌else◌, is_some, slice_get, option_map}
use Rattle.std.specs.Str.{bytes_eq}
use Rattle.std.proofs.lemmas.List.{append-nil, get_or-map, length-map}
use Rattle.std.proofs.lemmas.List.Elements.{Contains-append_cases}
use Rattle.std.proofs.lemmas.Option.{slice_get-map}
use Rattle.machine_spec.specs.StateText.{Layout, place_in, value_names}
use Rattle.machine_spec.proofs.Spelling.{same_text}
use Rattle.call_spec.specs.Calls as calls
use Rattle.bilv_spec.specs.Points as points
use Rattle.bilv_spec.specs.Questions as questions
use Rattle.bilv_spec.specs.Run.{Program}
use Rattle.bilv_spec.specs.Scripts as scripts
use Rattle.bilv_spec.specs.Scripts.{AreNumbered, IsScript, choice_at, choice_name, choice_names, choice_value, drawn_names, named_value, symbols_of, values_of}
use Rattle.bilv_spec.specs.SmtLib.{commands_truth, declared_symbols}
use Rattle.bilv_spec.proofs.AskedBytes.{true_over}
use Rattle.frame_spec.specs.Frames.{Frame}
use Rattle.frame_spec.specs.FramePoints.{Point, triple}
use Rattle.frame_spec.specs.FrameQuestions.{Reading}
use Rattle.frame_spec.specs.FrameScripts as frames
use Rattle.frame_spec.specs.FrameScripts.{AreFrameNumbered, IsFrameScript, choice_of, entry_value, frame_drawn_names, frame_symbols_of, frame_values_of, given_by, given_symbols, given_value, head_symbols, head_value, is_frame_point_below, is_same_triple, of_given, of_head, point_choice}
use Rattle.frame_spec.specs.FrameQuestions.{GivenPart, part_of}
use Rattle.frame_spec.specs.Theorems.{headless}
use Rattle.frame_spec.proofs.OfSegments.{entry_of}
use Rattle.frame_laws.specs.HeadlessLaws.{as_point, as_question}
use Rattle.frame_laws.proofs.HeadlessPoints.{are_flat, flat_list, headless_heads}
use Rattle.frame_laws.proofs.HeadlessReads.{full_reading, is_full, true_from, true_to}
use Rattle.frame_verdict.specs.PlainVerdicts.{PlainScripts}
use Rattle.frame_verdict.proofs.PlainBudgets.{more_from, more_to, price_from, within_from}
use Rattle.frame_verdict.proofs.PlainTruth.{commands_same}

-- ---- the places of names

-- a name is found among those that it is one of
first : (b : Bool) (o : Option ℕ) → b ≡ true → (i : ℕ) × ((if b then Some 0 else option_map (λ m. m + 1) o) ≡ Some i)
first true o is = (0, refl)
first false o is = absurd (cc)

later : (b : Bool) (o : Option ℕ) → (i : ℕ) × (o ≡ Some i) → (i : ℕ) × ((if b then Some 0 else option_map (λ m. m + 1) o) ≡ Some i)
later true o it = (0, refl)
later false o it = (it.0 + 1, ap (option_map (λ m. m + 1)) it.1)

placed : (names : List (List ℕ)) (w : List ℕ) → Contains names w → (i : ℕ) × (place_in names w ≡ Some i)
placed [] w c = absurd (let l = c.1 in omega arith)
placed (n ∷ names) w (zero, l, e) =
    first (bytes_eq w n) (place_in names w) (let same : n ≡ w = cc in subst (λ z. bytes_eq w z ≡ true) (sym same) (same_text w))
placed (n ∷ names) w (suc i, l, e) = later (bytes_eq w n) (place_in names w) (placed names w (i, (let m = l in omega arith), e))

-- no choice has the name of a register, a flag or a memory of the head, or of what a contract step is given
unheaded : (names : List (List ℕ)) (w : List ℕ) → place_in (map of_head names) (99 ∷ w) ≡ None
unheaded [] w = refl
unheaded (n ∷ names) w = ap (option_map (λ m. m + 1)) (unheaded names w)

ungiven : (n : ℕ) (names : List (List ℕ)) (w : List ℕ) → place_in (map (of_given n) names) (99 ∷ w) ≡ None
ungiven n [] w = refl
ungiven n (m ∷ names) w = ap (option_map (λ i. i + 1)) (ungiven n names w)

no_gift : (layout : Layout) (r : Reading) (n : ℕ) (list : List Point) (w : List ℕ) → given_value layout r n list (99 ∷ w) ≡ None
no_gift layout r n [] w = refl
no_gift layout r n (q ∷ list) w =
    ap (λ o. given_by layout (part_of r (GivenPart q)) o false (given_value layout r (n + 1) list (99 ∷ w))) (ungiven n (value_names layout) w)
    ∙ no_gift layout r (n + 1) list w

-- a choice that is drawn has the name of a choice
drawn_name : (p : Program) (n : ℕ) (list : List points.Point) (w : List ℕ) → Contains (drawn_names p n list) w → (m : ℕ) × (w ≡ choice_name m)
drawn_name p n [] w c = absurd (let l = c.1 in omega arith)
drawn_name p n (x ∷ list) w c = named_or (scripts.draws (points.file_row p x.at)) n (drawn_names p (n + 1) list) w (drawn_name p (n + 1) list w) c
  where
    among : (n : ℕ) (rest : List (List ℕ)) (w : List ℕ) → (Contains rest w → (m : ℕ) × (w ≡ choice_name m)) → Contains (choice_name n ∷ rest) w →
        (m : ℕ) × (w ≡ choice_name m)
    among n rest w behind (zero, l, e) = (n, (let same : w ≡ choice_name n = cc in same))
    among n rest w behind (suc i, l, e) = behind (i, (let m = l in omega arith), e)

    named_or : (b : Bool) (n : ℕ) (rest : List (List ℕ)) (w : List ℕ) → (Contains rest w → (m : ℕ) × (w ≡ choice_name m)) →
        Contains (if b then choice_name n ∷ rest else rest) w → (m : ℕ) × (w ≡ choice_name m)
    named_or true n rest w behind h = among n rest w behind h
    named_or false n rest w behind h = behind h

-- ---- points in their order

or_none : (a c : Bool) → (a || (c && false)) ≡ true → a ≡ true
or_none true c e = refl
or_none false true e = e
or_none false false e = e

pairs_of : {X Y : Type 0} (P : Y → Y → Type 0) (f : X → Y) (xs : List X) → AllPairs P (map f xs) → AllPairs (λ x y. P (f x) (f y)) xs
pairs_of P f xs all i j d less below =
    let early : i < length xs = omega (arith, less, below) in
    subst (λ y. P y (f (get_or xs j d))) (get_or-map f xs i d (f d) early)
    (subst (P (get_or (map f xs) i (f d))) (get_or-map f xs j d (f d) below) (all i j (f d) less (subst (λ n. j < n) (sym (length-map xs f)) below)))

module _ (p : Program) (k : ℕ) (layout : Layout) where
  abbrev f : Frame
  f = headless p

  numbered : (xs : List points.Point) → AreFrameNumbered f k (map as_point xs) → AreNumbered p k xs
  numbered xs (are, below) = (
    are_flat p k xs are,
    (λ i j d less l. or_none _ (is_same_triple (as_point (get_or xs i d)) (as_point (get_or xs j d)))
        (pairs_of (λ x y. is_frame_point_below x y ≡ true) as_point xs below i j d less l)),
  )

  -- ---- the symbols

  drawn_same : (n : ℕ) (xs : List points.Point) → frame_drawn_names f n (map as_point xs) ≡ drawn_names p n xs
  drawn_same n [] = refl
  drawn_same n (x ∷ xs) = ap (λ z. if scripts.draws (points.file_row p x.at) then choice_name n ∷ z else z) (drawn_same (n + 1) xs)

  none_given : (n : ℕ) (xs : List points.Point) → given_symbols f layout n (map as_point xs) ≡ []
  none_given n [] = refl
  none_given n (x ∷ xs) = none_given (n + 1) xs

  symbols_same : (xs : List points.Point) → frame_symbols_of f layout (map as_point xs) ≡ symbols_of p layout xs
  symbols_same xs =
      ap (λ z. value_names layout ++ codes "mem" ∷ head_symbols layout z ++ (frame_drawn_names f 0 (map as_point xs) ++ given_symbols f layout 0 (map as_point xs)))
      (headless_heads p)
      ∙ ap (λ z. value_names layout ++ codes "mem" ∷ [] ++ (z ++ given_symbols f layout 0 (map as_point xs))) (drawn_same 0 xs)
      ∙ ap (λ z. value_names layout ++ codes "mem" ∷ [] ++ (drawn_names p 0 xs ++ z)) (none_given 0 xs)
      ∙ ap (λ z. value_names layout ++ codes "mem" ∷ [] ++ z) (append-nil (drawn_names p 0 xs))
      ∙ append_assoc (value_names layout) (codes "mem" ∷ []) (drawn_names p 0 xs)

  -- ---- their values

  module _ (xs : List points.Point) (r : questions.Reading) where
    abbrev full : Reading
    full = full_reading r

    chosen : (o : Option points.Point) → point_choice full (option_map as_point o) ≡ choice_value r o
    chosen None = refl
    chosen (Some x) = refl

    of_choice : (o : Option ℕ) (w : List ℕ) → choice_of layout (map as_point xs) full o (99 ∷ w) ≡ choice_at xs r o
    of_choice None w = no_gift layout full 0 (map as_point xs) w
    of_choice (Some n) w = ap (point_choice full) (slice_get-map as_point xs n) ∙ chosen (slice_get xs n)

    value_at : (o : Option ℕ) (w : List ℕ) → (i : ℕ) → o ≡ Some i → entry_value layout (map as_point xs) full o w ≡ named_value layout xs r o w
    value_at (Some i) w j e = refl
    value_at None w j e = absurd (cc)

    memory_at : (o : Option ℕ) → entry_value layout (map as_point xs) full o (codes "mem") ≡ named_value layout xs r o (codes "mem")
    memory_at (Some i) = refl
    memory_at None = refl

    choice_same : (o : Option ℕ) (n : ℕ) → entry_value layout (map as_point xs) full o (choice_name n) ≡ named_value layout xs r o (choice_name n)
    choice_same (Some i) n = refl
    choice_same None n =
        ap (λ o. head_value layout (map as_point xs) full o (choice_name n)) (unheaded (value_names layout) _)
        ∙ ap (λ m. choice_of layout (map as_point xs) full (place_in (choice_names m) (choice_name n)) (choice_name n)) (length-map xs as_point)
        ∙ of_choice (place_in (choice_names (length xs)) (choice_name n)) _

    abbrev Same : List ℕ → Type 0
    Same w = frame_values_of layout (map as_point xs) full w ≡ values_of layout xs r w

    behind : (w : List ℕ) → Contains (codes "mem" ∷ drawn_names p 0 xs) w → Same w
    behind w (zero, l, e) = let same : codes "mem" ≡ w = cc in subst Same same (memory_at (place_in (value_names layout) (codes "mem")))
    behind w (suc i, l, e) =
        let it = drawn_name p 0 xs w (i, (let m = l in omega arith), e) in
        subst Same (sym it.1) (choice_same (place_in (value_names layout) (choice_name it.0)) it.0)

    value_same : (w : List ℕ) → Contains (symbols_of p layout xs) w → Same w
    value_same w c =
        elim (Contains-append_cases (value_names layout) (codes "mem" ∷ drawn_names p 0 xs) w c) [
          | inl is ↦ (let it = placed (value_names layout) w is in value_at (place_in (value_names layout) w) w it.0 it.1)
          | inr is ↦ behind w is
        ]

  -- ---- scripts

  module _ (question : calls.Question) (text : List ℕ) where
    flat_script : (xs : List points.Point) (s : IsFrameScript f layout k (as_question question) text) → s.points ≡ map as_point xs →
        IsScript p layout k question text
    flat_script xs s flat =
        let declares : (w : List ℕ) → Contains (declared_symbols s.commands) w ↔ Contains (symbols_of p layout xs) w =
        subst (λ z. (w : List ℕ) → Contains (declared_symbols s.commands) w ↔ Contains z w)
        (ap (frame_symbols_of f layout) flat ∙ symbols_same xs) s.declares in
        let same : (r : questions.Reading) →
        commands_truth (frame_values_of layout s.points (full_reading r)) s.commands ≡ commands_truth (values_of layout xs r) s.commands =
        λ r. (ap (λ z. commands_truth (frame_values_of layout z (full_reading r)) s.commands) flat
        ∙ commands_same (frame_values_of layout (map as_point xs) (full_reading r)) (values_of layout xs r) s.commands
        (λ w c. value_same xs r w ((declares w).0 c))) in
        record {
          points = xs;
          are_numbered = numbered xs (subst (AreFrameNumbered f k) flat s.are_numbered);
          middle = s.middle;
          text_is = s.text_is;
          whole_lines = s.whole_lines;
          plain = s.plain;
          commands = s.commands;
          commands_are = s.commands_are;
          declares = declares;
          defines = s.defines;
          well_formed = λ r is. subst (λ z. is_some z ≡ true) (same r) (s.well_formed (full_reading r) (is_full r is.state is.choice));
          means = λ r is at. (let it = s.means (full_reading r) (is_full r is.state is.choice) at in (
            (λ e. (let t = true_from p k (full_reading r) (points.is_known_at p) question (it.0 (same r ∙ e)) in
                record { choice = is.choice; entry = entry_of p r.state t.entry; ends = t.ends })),
            (λ t. sym (same r) ∙ it.1 (true_to p k (full_reading r) (points.is_known_at p) (is_full r is.state is.choice) question
                (true_over p (points.is_known_at p) k r question (λ a h. h) t))),
          ));
        }

    pub script_from : IsFrameScript f layout k (as_question question) text → IsScript p layout k question text
    script_from s = flat_script (map triple s.points) s (sym (flat_list p k s.points s.are_numbered.0.only))

pub plain_scripts : PlainScripts
plain_scripts p rank layout b question a (frames.too_many_points more is) = scripts.too_many_points (more_from p b more) is
plain_scripts p rank layout b question a (frames.too_large price few is_price above is) =
    scripts.too_large price (λ m. few (more_to p b m)) (price_from p b price is_price) above is
plain_scripts p rank layout b question a (frames.is_printed text within script is) =
    scripts.is_printed text (within_from p b within) (script_from p b.unroll layout question text script) is
