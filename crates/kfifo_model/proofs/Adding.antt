-- One more beginning of an order adds to the next level of the search just what it leads to, each once.
use Rattle.std.proofs.Common.{ℕ, zero, suc, false, ◌≡◌, ◌+◌, ◌<◌, ◌≤◌, ◌⊎◌, ◌↔◌, List, [], ◌∷◌, ◌++◌, length, get_or}
use Rattle.std.proofs.Common.{sym, ◌∙◌, ap, subst, inl, inr, arith, append_assoc, length-append}
use Rattle.std.specs.List.{All, Any, Contains}
use Rattle.std.proofs.lemmas.List.Sums.{count_by-le-length}
use Rattle.std.specs.Result.{OnOk}
use Rattle.std.specs.declared.result.Result.{Result}
use Rattle.std.specs.declared.result.Result.TheVariants.{Ok, Err}
use Rattle.std.proofs.lemmas.Bool.{cases_lt}
use Rattle.std.proofs.lemmas.List.{get_or_append_left, get_or-append-add, get_or_default, append-nil, length-replicate}
use Rattle.std.proofs.lemmas.List.Elements.{All-nil, All-cons, All-append, Contains-append_left, Contains-append_right}
use Rattle.std.proofs.lemmas.List.Elements.{Contains-append_cases}
use Rattle.std.proofs.lemmas.List.Sorted.{Contains-permutation, IsPermutation-sym}
use Rattle.std.specs.List.Sorted.{IsPermutation}
use Rattle.kfifo_model.proofs.Types.{Call}
use Rattle.kfifo_model.specs.Reach.{Reach}
use Rattle.kfifo_model.proofs.Resting.{opening, opening_sound, opening_complete, none_counted}
use Rattle.kfifo_model.specs.Searching.{HasOrder, Extends, IsNoNext, IsFurther, IsAdded, IsLevel, IsNextLevel}
use Rattle.kfifo_model.specs.Searching.{done_count}

pub on_ok_map : {T E : Type 0} (r : Result T E) (P Q : Type 0) → (P → Q) → OnOk r P → OnOk r Q
on_ok_map (Ok x) P Q f h = f h
on_ok_map (Err e) P Q f h = h

pub all_left : {X : Type 0} (P : X → Type 0) (xs ys : List X) → All P (xs ++ ys) → All P xs
all_left P xs ys a =
    λ k d lt. subst P (get_or_append_left xs ys d k lt) (a k d (let e = length-append xs ys in omega arith))

pub all_right : {X : Type 0} (P : X → Type 0) (xs ys : List X) → All P (xs ++ ys) → All P ys
all_right P xs ys a =
    λ k d lt. subst P (get_or-append-add xs ys k d) (a (length xs + k) d (let e = length-append xs ys in omega arith))

pub all_one : {X : Type 0} (P : X → Type 0) (x : X) → P x → All P (x ∷ [])
all_one P x p = All-cons P x [] p (All-nil P)

pub added_none : (k : ℕ) (h : List Call) (r : Reach) (before : List Reach) (Said : Type 0) → Said
    → IsAdded k h r before before Said
added_none k h r before Said s = record {
  added = [];
  is = sym (append-nil before);
  further = All-nil (IsFurther r);
  sound = All-nil (λ t. Extends k h t → Extends k h r);
  complete = λ a. s;
}

pub added_as : (k : ℕ) (h : List Call) (r : Reach) (before after : List Reach) (P Q : Type 0) → (P → Q)
    → IsAdded k h r before after P
    → IsAdded k h r before after Q
added_as k h r before after P Q f a = record {
  added = a.added;
  is = a.is;
  further = a.further;
  sound = a.sound;
  complete = λ c. f (a.complete c);
}

pub added_both : (k : ℕ) (h : List Call) (r : Reach) (before now after : List Reach) (A B C : Type 0) → (A → B → C)
    → IsAdded k h r before now A → IsAdded k h r now after B → IsAdded k h r before after C
added_both k h r before now after A B C f a b = record {
  added = a.added ++ b.added;
  is = b.is ∙ (ap (λ t. t ++ b.added) a.is ∙ append_assoc before a.added b.added);
  further = All-append (IsFurther r) a.added b.added a.further b.further;
  sound = All-append (λ t. Extends k h t → Extends k h r) a.added b.added a.sound b.sound;
  complete = λ c. f (a.complete (all_left (λ t. Extends k h t → ⊥) a.added b.added c))
      (b.complete (all_right (λ t. Extends k h t → ⊥) a.added b.added c));
}

pub no_next_more : (k : ℕ) (h : List Call) (r : Reach) (n : ℕ) → ((j : ℕ) → j < n → IsNoNext k h r j) → IsNoNext k h r n
    → (j : ℕ)
    → j < n + 1 → IsNoNext k h r j
no_next_more k h r n f g j lt =
    elim (cases_lt j n) [
      | inl below ↦ f j below
      | inr le ↦ (let e : j ≡ n = omega arith in let P : ℕ → Type 0 = λ w. IsNoNext k h r w in subst P (sym e) g)
    ]

-- ---- levels

-- what the first i beginnings of a level led to
pub record IsLed (k : ℕ) (h : List Call) (level next : List Reach) (i : ℕ) : Type 0 where
  pub further : (count : ℕ) → IsLevel h count level → IsLevel h (count + 1) next
  pub sound : All (λ r. Extends k h r → HasOrder k h) level → All (λ t. Extends k h t → HasOrder k h) next
  pub complete : All (λ t. Extends k h t → ⊥) next → (j : ℕ) (d : Reach) → j < i → Extends k h (get_or level j d) → ⊥

pub led_none : (k : ℕ) (h : List Call) (level next : List Reach) → next ≡ [] → IsLed k h level next 0
led_none k h level next e =
    let P : List Reach → Type 0 = λ t. IsLed k h level t 0 in
    subst P (sym e) (record {
      further = λ count l. All-nil (λ r. (length r.done ≡ length h) × (done_count r.done ≡ count + 1));
      sound = λ a. All-nil (λ t. Extends k h t → HasOrder k h);
      complete = λ a j d lt. absurd (omega arith);
    })

further_level : (h : List Call) (count : ℕ) (r : Reach) (added : List Reach) → length r.done ≡ length h
    → done_count r.done ≡ count
    → All (IsFurther r) added → IsLevel h (count + 1) added
further_level h count r added sized counted a = λ k d lt.
    let f = a k d lt in
    let p : length (get_or added k d).done ≡ length r.done = f.0 in
    let q : done_count (get_or added k d).done ≡ done_count r.done + 1 = f.1 in
    (p ∙ sized, omega arith)

pub led_more : (k : ℕ) (h : List Call) (level next after : List Reach) (i : ℕ) (r : Reach) → i < length level
    → r ≡ get_or level i r
    → IsLed k h level next i → IsAdded k h r next after (Extends k h r → ⊥) → IsLed k h level after (i + 1)
led_more k h level next after i r lt is led a =
    let P : List Reach → Type 0 = λ t. IsLed k h level t (i + 1) in
    subst P (sym a.is) (record {
      further = λ count l.
          let here = l i r lt in
          let Q : Reach → Type 0 = λ s. (length s.done ≡ length h) × (done_count s.done ≡ count) in
          let at = subst Q (sym is) here in
          All-append (λ s. (length s.done ≡ length h) × (done_count s.done ≡ count + 1)) next a.added
          (led.further count l)
          (further_level h count r a.added at.0 at.1 a.further);
      sound = λ s.
          let Q : Reach → Type 0 = λ t. Extends k h t → HasOrder k h in
          let at = subst Q (sym is) (s i r lt) in
          All-append Q next a.added (led.sound s) (λ j d lj g. at (a.sound j d lj g));
      complete = λ n j d lj.
          elim (cases_lt j i) [
            | inl below ↦ led.complete (all_left (λ t. Extends k h t → ⊥) next a.added n) j d below
            | inr le ↦ (
                let same : j ≡ i = omega arith in
                let Q : Reach → Type 0 = λ t. Extends k h t → ⊥ in
                let W : ℕ → Type 0 = λ w. Extends k h (get_or level w d) → ⊥ in
                let to : get_or level i d ≡ r = get_or_default level i d r lt ∙ sym is in
                subst W (sym same) (subst Q (sym to) (a.complete (all_right Q next a.added n)))
                )
          ];
    })

pub led_all : (k : ℕ) (h : List Call) (level next : List Reach) (i : ℕ) → length level ≤ i → IsLed k h level next i
    → IsNextLevel k h level next
led_all k h level next i le led = record {
  further = led.further;
  sound = led.sound;
  complete = λ n j d lt. led.complete n j d (omega arith);
}

-- ---- the same beginnings

-- what is left of the full list, and what was kept, are its members
abbrev pub AreMembers : List Reach → List Reach → List Reach → Type 0
AreMembers full left kept = (r : Reach) → Contains full r ↔ (Contains left r ⊎ Contains kept r)

not_in_nil : (r : Reach) → Contains [] r → ⊥
not_in_nil r c = let lt : c.0 < 0 = c.1 in absurd (omega arith)

one_member : (x r : Reach) (k : ℕ) → k < 1 → get_or (x ∷ []) k r ≡ r → x ≡ r
one_member x r zero lt e = e
one_member x r (suc k) lt e = absurd (omega arith)

last_or : (rest : List Reach) (x r : Reach) → Contains (rest ++ x ∷ []) r → Contains rest r ⊎ (x ≡ r)
last_or rest x r c = elim (Contains-append_cases rest (x ∷ []) r c) [
  | inl a ↦ inl a
  | inr b ↦ inr (one_member x r b.0 b.1 b.2)
]

has_last : (rest : List Reach) (x r : Reach) → x ≡ r → Contains (rest ++ x ∷ []) r
has_last rest x r e = Contains-append_right rest (x ∷ []) r (0, omega arith, e)

pub members_init : (full left kept : List Reach) → IsPermutation full left → kept ≡ [] → AreMembers full left kept
members_init full left kept p e r =
    let P : List Reach → Type 0 = λ t. Contains t r in (
      λ c. inl (Contains-permutation full left r p c),
      λ c. elim c [
        | inl a ↦ Contains-permutation left full r (IsPermutation-sym full left p) a
        | inr b ↦ absurd (not_in_nil r (subst P e b))
      ],
    )

pub members_pushed : (full left rest kept more : List Reach) (x : Reach) → AreMembers full left kept
    → left ≡ rest ++ x ∷ []
    → more ≡ kept ++ x ∷ [] → AreMembers full rest more
members_pushed full left rest kept more x m e f r =
    let P : List Reach → Type 0 = λ t. Contains t r in (
      λ c. elim ((m r).0 c) [
        | inl a ↦ elim (last_or rest x r (subst P e a)) [
          | inl b ↦ inl b
          | inr q ↦ inr (subst P (sym f) (has_last kept x r q))
        ]
        | inr a ↦ inr (subst P (sym f) (Contains-append_left kept (x ∷ []) r a))
      ],
      λ c. elim c [
        | inl a ↦ (m r).1 (inl (subst P (sym e) (Contains-append_left rest (x ∷ []) r a)))
        | inr a ↦ elim (last_or kept x r (subst P f a))
            [ inl b ↦ (m r).1 (inr b) | inr q ↦ (m r).1 (inl (subst P (sym e) (has_last rest x r q))) ]
      ],
    )

pub members_same : (full left rest kept : List Reach) (x : Reach) → AreMembers full left kept → left ≡ rest ++ x ∷ []
    → Contains kept x
    → AreMembers full rest kept
members_same full left rest kept x m e here r =
    let P : List Reach → Type 0 = λ t. Contains t r in
    let Q : Reach → Type 0 = λ t. Contains kept t in (
      λ c. elim ((m r).0 c) [
        | inl a ↦ elim (last_or rest x r (subst P e a)) [ inl b ↦ inl b | inr q ↦ inr (subst Q q here) ]
        | inr a ↦ inr a
      ],
      λ c. elim c [
        | inl a ↦ (m r).1 (inl (subst P (sym e) (Contains-append_left rest (x ∷ []) r a)))
        | inr a ↦ (m r).1 (inr a)
      ],
    )

pub members_end : (full left kept : List Reach) → AreMembers full left kept → length left ≡ 0 → (r : Reach)
    → Contains full r ↔ Contains kept r
members_end full left kept m e r = (
  λ c. elim ((m r).0 c) [
    | inl a ↦ absurd (let lt : a.0 < length left = a.1 in omega arith)
    | inr b ↦ b
  ],
  λ c. (m r).1 (inr c),
)

-- what holds of the members of one holds of those of the other
pub all_members : (P : Reach → Type 0) (xs ys : List Reach) → ((r : Reach) → Contains ys r → Contains xs r) → All P xs
    → All P ys
all_members P xs ys f a = λ k d lt.
    let r = get_or ys k d in
    let c = f r (k, lt, get_or_default ys k r d lt) in
    subst P c.2 (a c.0 r c.1)

-- ---- from level to level

pub record IsAt (k : ℕ) (h : List Call) (count : ℕ) (level : List Reach) : Type 0 where
  pub sized : IsLevel h count level
  pub sound : All (λ r. Extends k h r → HasOrder k h) level
  pub complete : All (λ r. Extends k h r → ⊥) level → HasOrder k h → ⊥

pub at_start : (k : ℕ) (h : List Call) (level before : List Reach) (r : Reach) → r ≡ opening h → before ≡ []
    → level ≡ before ++ r ∷ []
    → IsAt k h 0 level
at_start k h level before r e none is =
    let P : List Reach → Type 0 = λ t. IsAt k h 0 t in
    subst P (sym (is ∙ (ap (λ t. t ++ r ∷ []) none ∙ ap (λ t. t ∷ []) e))) (record {
      sized = all_one (λ s. (length s.done ≡ length h) × (done_count s.done ≡ 0)) (opening h)
          (length-replicate (length h) false, none_counted (length h));
      sound = all_one (λ s. Extends k h s → HasOrder k h) (opening h) (opening_sound k h);
      complete = λ a o. a 0 (opening h) (omega arith) (opening_complete k h o);
    })

pub at_next : (k : ℕ) (h : List Call) (count : ℕ) (level next kept : List Reach) → IsAt k h count level
    → IsNextLevel k h level next
    → ((r : Reach) → Contains next r ↔ Contains kept r) → IsAt k h (count + 1) kept
at_next k h count level next kept at n m = record {
  sized = all_members (λ s. (length s.done ≡ length h) × (done_count s.done ≡ count + 1)) next kept (λ r. (m r).1)
      (n.further count at.sized);
  sound = all_members (λ s. Extends k h s → HasOrder k h) next kept (λ r. (m r).1) (n.sound at.sound);
  complete = λ a o. at.complete (n.complete (all_members (λ s. Extends k h s → ⊥) kept next (λ r. (m r).0) a)) o;
}

pub at_end : (k : ℕ) (h : List Call) (count : ℕ) (level : List Reach) → IsAt k h count level → length h < count
    → HasOrder k h → ⊥
at_end k h count level at lt o =
    at.complete (λ j d lj g. let s = at.sized j d lj in
    let p : length (get_or level j d).done ≡ length h = s.0 in
    let q : done_count (get_or level j d).done ≡ count = s.1 in
    absurd (omega (arith, count_by-le-length (λ b. b) (get_or level j d).done))) o

pub found_at : (k : ℕ) (h : List Call) (count : ℕ) (level others : List Reach) → others ≡ level → IsAt k h count level
    → Any (Extends k h) others → HasOrder k h
found_at k h count level others e at a =
    let P : List Reach → Type 0 = λ t. Any (Extends k h) t in
    let b = subst P e a in
    let Q : Reach → Type 0 = λ t. Extends k h t in
    at.sound b.0 b.1 b.2 (subst Q (sym b.3) b.4)

pub level_along : (k : ℕ) (h : List Call) (level others next : List Reach) → others ≡ level
    → IsNextLevel k h others next
    → IsNextLevel k h level next
level_along k h level others next e n = let P : List Reach → Type 0 = λ t. IsNextLevel k h t next in subst P e n
