-- Points that are added, each once.
use Rattle.std.proofs.Common.{◌≡◌, ◌≢◌, ◌⊎◌, inl, inr, ℕ, ◌+◌, ◌<◌, ◌≤◌, refl, ap, sym, ◌∙◌, subst, arith, List, [], ◌∷◌, ◌++◌, length, take, drop, get_or, Option, Bool, true, false, if◌then◌else◌}
use Rattle.std.specs.Prelude.{not, slice_get, Contains, nat_lt, ◌↔◌, MatchOption}
use Rattle.std.proofs.Math.ListN.{length-append}
use Rattle.std.specs.Ordering.{is_eq}
use Rattle.std.specs.BTreeSet.{BTreeSet, contains}
use Rattle.std.specs.BTreeMap.{is_at}
use Rattle.std.specs.List.{list_any}
use Rattle.std.proofs.lemmas.Bool.Decides.{nat_tests}
use Rattle.std.proofs.lemmas.List.Elements.{Contains-push, Contains-append_left, Contains-push_cases}
use Rattle.std.proofs.lemmas.Option.{slice_get-get_or}
use Rattle.std.proofs.lemmas.List.{take_more, take-append-drop}
use Rattle.program_points.specs.declared.values.FramePoint.{FramePoint}
use Rattle.program_points.specs.declared.values.End.{End}
use Rattle.program_points.specs.Tables.{Key, key_cmp, key_of, root_key, end, entry_point, head_point, point_to, target, is_among, is_stepped, IsListed, IsAdded, AreAdded, IsWithin}
use Rattle.program_points.specs.Walks.{AreFirst}
use Rattle.program_points.proofs.Keys.{tied_points, key_itself}
use Rattle.program_points.proofs.Lists.{truth, at_in, get_left, at_push, nothing_more, regroup, longer, take_whole}

-- an insertion says whether the key is new
pub was_absent : (added had : Bool) → added ≡ not had → added ≡ true → had ≡ false
was_absent added true e h = absurd (cc)
was_absent added false e h = refl

pub was_there : (added had : Bool) → added ≡ not had → added ≡ false → had ≡ true
was_there added true e h = refl
was_there added false e h = absurd (cc)

once_push : (xs : List FramePoint) (x : FramePoint) → ((i j : ℕ) → i < j → j < length xs → slice_get xs i ≢ slice_get xs j) → ¬ Contains xs x
    → (i j : ℕ) → i < j → j < length (xs ++ x ∷ []) → slice_get (xs ++ x ∷ []) i ≢ slice_get (xs ++ x ∷ []) j
once_push xs x d n i j lt h e =
    let l : length (xs ++ x ∷ []) ≡ length xs + 1 = length-append xs (x ∷ []) in
    elim (truth (nat_lt j (length xs))) [
      | inl t ↦ (let jl : j < length xs = grind (arith, nat_tests) in
          let il : i < length xs = omega arith in
          d i j lt jl (sym (get_left xs (x ∷ []) i il) ∙ e ∙ get_left xs (x ∷ []) j jl))
      | inr f ↦ (let js : j ≡ length xs = grind (arith, nat_tests) in
          let il : i < length xs = omega arith in
          n (at_in xs i x (sym (get_left xs (x ∷ []) i il) ∙ e ∙ ap (slice_get (xs ++ x ∷ [])) js ∙ at_push xs x)))
    ]

module _ (k stacks : ℕ) (points : List FramePoint) (seen more : BTreeSet Key) (x : FramePoint) (is : IsListed k stacks points seen) (fits : IsWithin k stacks x)
    (root : Option (ℕ × ℕ)) (its : root ≡ root_key x.root)
    (told : (q : Key) → contains key_cmp more q
    ≡ (if is_eq (key_cmp (x.turns, x.stack, x.at, x.contract, root) q) then true else contains key_cmp seen q)) where
  updates : (q : Key) → contains key_cmp more q ≡ (if is_eq (key_cmp (key_of x) q) then true else contains key_cmp seen q)
  updates q =
      told q
      ∙ ap (λ (r : Option (ℕ × ℕ)). if is_eq (key_cmp (x.turns, x.stack, x.at, x.contract, r) q) then true else contains key_cmp seen q) its

  abbrev test : FramePoint → Bool
  test q = is_eq (key_cmp (key_of x) (key_of q))

  same : (q : FramePoint) → test q ≡ true → x ≡ q
  same q h = tied_points x q h

  by_test : (q : FramePoint) (b : Bool) → test q ≡ b → contains key_cmp more (key_of q)
      ≡ (if b then true else contains key_cmp seen (key_of q))
  by_test q b e = updates (key_of q) ∙ ap (λ z. if z then true else contains key_cmp seen (key_of q)) e

  -- the point is new
  module _ (absent : contains key_cmp seen (x.turns, x.stack, x.at, x.contract, root) ≡ false) where
    new : contains key_cmp seen (key_of x) ≡ false
    new = ap (λ (r : Option (ℕ × ℕ)). contains key_cmp seen (x.turns, x.stack, x.at, x.contract, r)) (sym its) ∙ absent

    none : ¬ Contains points x
    none h = let t = (is.has x).1 h in let u = new in absurd (cc)

    has_more : (q : FramePoint) → (contains key_cmp more (key_of q) ≡ true) ↔ Contains (points ++ x ∷ []) q
    has_more q = elim (truth (test q)) [
      | inl t ↦ (λ h. subst (λ (z : FramePoint). Contains (points ++ x ∷ []) z) (same q t) (Contains-push points x), λ h. by_test q true t)
      | inr f ↦ (
        λ h. Contains-append_left points (x ∷ []) q ((is.has q).0 (sym (by_test q false f) ∙ h)),
        λ h. elim (Contains-push_cases points x q h) [
          | inl o ↦ by_test q false f ∙ (is.has q).1 o
          | inr e ↦ (let s : test q ≡ true = ap test (sym e) ∙ key_itself (key_of x) in absurd (cc))
        ],
      )
    ]

    within : (q : FramePoint) → Contains (points ++ x ∷ []) q → IsWithin k stacks q
    within q h = elim (Contains-push_cases points x q h) [
      | inl o ↦ is.within q o
      | inr e ↦ subst (λ (z : FramePoint). IsWithin k stacks z) e fits
    ]

    pub add_new : (grown : List FramePoint) → grown ≡ points ++ x ∷ [] → IsListed k stacks grown more × IsAdded x points grown
    add_new grown e = (
      subst (λ (l : List FramePoint). IsListed k stacks l more) (sym e) (record { has = has_more; once = once_push points x is.once none; within = within }),
      subst (λ (l : List FramePoint). IsAdded x points l) (sym e) (record {
        rest = x ∷ [];
        begins = refl;
        has = Contains-push points x;
        only = λ q h. elim (Contains-push_cases points x q h) [ inl o ↦ inl o | inr d ↦ inr (sym d) ];
      }),
    )

  -- the point is found already
  module _ (present : contains key_cmp seen (x.turns, x.stack, x.at, x.contract, root) ≡ true) where
    had : contains key_cmp seen (key_of x) ≡ true
    had = ap (λ (r : Option (ℕ × ℕ)). contains key_cmp seen (x.turns, x.stack, x.at, x.contract, r)) (sym its) ∙ present

    pub add_old : IsListed k stacks points more × IsAdded x points points
    add_old = (
      record {
        has = λ q. elim (truth (test q)) [
          | inl t ↦ (λ h. subst (λ (z : FramePoint). Contains points z) (same q t) ((is.has x).0 had), λ h. by_test q true t)
          | inr f ↦ (λ h. (is.has q).0 (sym (by_test q false f) ∙ h), λ h. by_test q false f ∙ (is.has q).1 h)
        ];
        once = is.once;
        within = is.within;
      },
      record { rest = []; begins = nothing_more points; has = (is.has x).0 had; only = λ q h. inl h },
    )

-- the ends so far, and one more
module _ (target : End → FramePoint) (k max : ℕ) (old : List FramePoint) where
  pub added_none : (none : List End) → length none ≡ 0 → AreAdded target k max none old old
  added_none none z = record {
    rest = [];
    begins = nothing_more old;
    only = λ q h. inl h;
    all = λ e l (i, h, r) w. absurd (omega arith);
  }

  module _ (ends more : List End) (e : End) (one : more ≡ ends ++ e ∷ []) (new : List FramePoint) (is : AreAdded target k max ends old new) where
    still : (x : End) → Contains ends x → Contains more x
    still x h = subst (λ (l : List End). Contains l x) (sym one) (Contains-append_left ends (e ∷ []) x h)

    last : Contains more e
    last = subst (λ (l : List End). Contains l e) (sym one) (Contains-push ends e)

    split : (x : End) → Contains more x → Contains ends x ⊎ (e ≡ x)
    split x h = Contains-push_cases ends e x (subst (λ (l : List End). Contains l x) one h)

    -- the end is no point
    pub added_over : k < (target e).turns → AreAdded target k max more old new
    added_over over = record {
      rest = is.rest;
      begins = is.begins;
      only = λ q h. elim (is.only q h) [ inl o ↦ inl o | inr (x, c, w, z) ↦ inr (x, still x c, w, z) ];
      all = λ x l h w. elim (split x h) [
        | inl o ↦ is.all x l o w
        | inr s ↦ absurd (let z : (target e).turns ≡ (target x).turns = ap (λ (y : End). (target y).turns) s in omega arith)
      ];
    }

    -- the point at the end is added
    pub added_more : (grown : List FramePoint) (next : FramePoint) → next ≡ target e → next.turns ≤ k → length new ≤ length grown → IsAdded next new grown
        → AreAdded target k max more old grown
    added_more grown next here small longer add = record {
      rest = is.rest ++ add.rest;
      begins = add.begins ∙ ap (λ l. l ++ add.rest) is.begins ∙ regroup old is.rest add.rest;
      only = λ q h. elim (add.only q h) [
        | inl o ↦ elim (is.only q o) [ inl z ↦ inl z | inr (x, c, w, z) ↦ inr (x, still x c, w, z) ]
        | inr s ↦ inr (e, last, s ∙ here, subst (λ (z : FramePoint). z.turns ≤ k) (sym s) small)
      ];
      all = λ x l h w. elim (split x h) [
        | inl o ↦ subst (λ (z : List FramePoint). Contains z (target x)) (sym add.begins)
            (Contains-append_left new add.rest (target x) (is.all x (omega arith) o w))
        | inr s ↦ subst (λ (z : FramePoint). Contains grown z) (here ∙ ap (target) s) add.has
      ];
    }

  -- there are more points than may be
  pub added_stop : (ends all : List End) (rest : List End) (new : List FramePoint) → all ≡ ends ++ rest → max < length new → AreAdded target k max ends old new
      → AreAdded target k max all old new
  added_stop ends all rest new e over is = record {
    rest = is.rest;
    begins = is.begins;
    only = λ q h. elim (is.only q h) [
      | inl o ↦ inl o
      | inr (x, c, w, z) ↦ inr (x, subst (λ (l : List End). Contains l x) (sym e) (Contains-append_left ends rest x c), w, z)
    ];
    all = λ x l h w. absurd (omega arith);
  }

module _ (target : End → FramePoint) (k max stacks : ℕ) (old : List FramePoint) (ends : List End) (i : ℕ) (d : End) (fits : i
    < length ends) (new : List FramePoint) (seen : BTreeSet Key)
    (is : IsListed k stacks new seen × AreAdded target k max (take i ends) old new) where
  pub step_over : k < (target (get_or ends i d)).turns → IsListed k stacks new seen × AreAdded target k max (take (i + 1) ends) old new
  step_over over = (is.0, added_over target k max old (take i ends) (take (i + 1) ends) (get_or ends i d) (take_more ends i d fits) new is.1 over)

  pub step_more : (grown : List FramePoint) (more : BTreeSet Key) (next : FramePoint) → next ≡ target (get_or ends i d) → next.turns ≤ k
      → ((e : End) → Contains ends e → e.stack ≤ stacks)
      → ((e : End) → e.stack ≤ stacks → (target e).turns ≤ k → IsWithin k stacks (target e))
      → ((k stacks : ℕ) → IsListed k stacks new seen → IsWithin k stacks next → IsListed k stacks grown more × IsAdded next new grown)
      → IsListed k stacks grown more × AreAdded target k max (take (i + 1) ends) old grown
  step_more grown more next here small low within add =
      let l : (get_or ends i d).stack ≤ stacks = low (get_or ends i d) (at_in ends i (get_or ends i d) (slice_get-get_or ends i d fits)) in
      let w = within (get_or ends i d) l (subst (λ (z : FramePoint). z.turns ≤ k) here small) in
      let r = add k stacks is.0 (subst (λ (z : FramePoint). IsWithin k stacks z) (sym here) w) in (
        r.0,
        added_more target k max old (take i ends) (take (i + 1) ends) (get_or ends i d) (take_more ends i d fits) new is.1 grown next here small
            (longer new r.1.rest grown r.1.begins) r.1,
      )

  pub step_stop : max < length new → IsListed k stacks new seen × AreAdded target k max ends old new
  step_stop over = (is.0, added_stop target k max old (take i ends) ends (drop i ends) new (sym (take-append-drop i ends)) over is.1)

pub steps_end : (target : End → FramePoint) (k max stacks : ℕ) (old : List FramePoint) (ends : List End) (i : ℕ) (new : List FramePoint) (seen : BTreeSet Key) →
    length ends ≤ i
    → IsListed k stacks new seen × AreAdded target k max (take i ends) old new → IsListed k stacks new seen × AreAdded target k max ends old new
steps_end target k max stacks old ends i new seen le is = (is.0, subst (λ (l : List End). AreAdded target k max l old new) (take_whole ends i le) is.1)

pub first_listed : (seen : BTreeSet Key) → seen.keys ≡ [] → (points : List FramePoint) → points ≡ [] → IsListed 0 0 points seen
first_listed seen none points e = subst (λ (l : List FramePoint). IsListed 0 0 l seen) (sym e) (record {
  has = λ q. (λ h. absurd (let z = ap (λ l. list_any (is_at (key_cmp (key_of q))) l) none in cc), λ (i, w, z). absurd (omega arith));
  once = λ i j lt w z. absurd (omega arith);
  within = λ q (i, w, z). absurd (omega arith);
})

-- the entry's first point alone
pub first_one : (heads : List ℕ) (entry : ℕ) (old new : List FramePoint) → old ≡ [] → is_among heads entry ≡ false → IsAdded (entry_point entry) old new →
    AreFirst heads entry new
first_one heads entry old new none other add = record {
  entry_in = add.has;
  head_in = λ h. absurd (cc);
  only = λ q h. elim (add.only q h) [
    | inl o ↦ absurd (let z : length old ≡ 0 = ap length none in let w = o.1 in omega arith)
    | inr e ↦ inl e
  ];
}

-- and with it the one of the root at the entry
pub first_two : (heads : List ℕ) (entry : ℕ) (root : FramePoint) (old mid new : List FramePoint) → root ≡ head_point (end 0 entry) → old ≡ [] →
    is_among heads entry ≡ true → IsAdded (entry_point entry) old mid → IsAdded root mid new → AreFirst heads entry new
first_two heads entry root old mid new same none head add more = record {
  entry_in = subst (λ (l : List FramePoint). Contains l (entry_point entry)) (sym more.begins) (Contains-append_left mid more.rest (entry_point entry) add.has);
  head_in = λ h. subst (λ (q : FramePoint). Contains new q) same more.has;
  only = λ q h. elim (more.only q h) [
    | inl o ↦ elim (add.only q o) [
      | inl p ↦ absurd (let z : length old ≡ 0 = ap length none in let w = p.1 in omega arith)
      | inr e ↦ inl e
    ]
    | inr e ↦ inr (head, e ∙ same)
  ];
}

-- the point at an end has stacks by number
pub target_within : (heads stepped : List ℕ) (linked : Option ℕ) (k stacks : ℕ) (q : FramePoint) → IsWithin k stacks q → (e : End) → e.stack ≤ stacks →
    (target heads stepped linked q e).turns ≤ k → IsWithin k stacks (target heads stepped linked q e)
target_within heads stepped linked k stacks q is e low small = by (is_among heads e.at) small
  where
    by : (b : Bool) → (if b then head_point e else point_to (is_stepped stepped linked e) q e).turns ≤ k →
        IsWithin k stacks (if b then head_point e else point_to (is_stepped stepped linked e) q e)
    by true l = record { stack = low; turns = l; root = low }
    by false l = record { stack = low; turns = l; root = is.root }

-- the point at an end that is a head, and at another
module _ (heads stepped : List ℕ) (linked : Option ℕ) (k : ℕ) (q : FramePoint) (e : End) where
  abbrev by_head : Bool → FramePoint
  by_head b = if b then head_point e else point_to (is_stepped stepped linked e) q e

  pub target_head : (t : FramePoint) → is_among heads e.at ≡ true → t ≡ head_point e → (t ≡ target heads stepped linked q e) × (t.turns ≤ k)
  target_head t h same = (same ∙ sym (ap by_head h), subst (λ (z : FramePoint). z.turns ≤ k) (sym same) (omega arith))

  pub target_on : (r : Option FramePoint) (contract : Bool) → is_among heads e.at ≡ false → contract ≡ is_stepped stepped linked e →
      MatchOption r (k < (point_to contract q e).turns) (λ t. (t ≡ point_to contract q e) × (t.turns ≤ k))
      → MatchOption r (k < (target heads stepped linked q e).turns) (λ t. (t ≡ target heads stepped linked q e) × (t.turns ≤ k))
  target_on r contract h is given =
      subst (λ (z : FramePoint). MatchOption r (k < z.turns) (λ t. (t ≡ z) × (t.turns ≤ k))) (ap (λ b. point_to b q e) is ∙ sym (ap by_head h)) given
