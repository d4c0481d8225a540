-- The lists of free runs after one is added at the end of its list, or taken out with the last in its place.
use Rattle.std.proofs.Common.{◌≡◌, ◌≢◌, ℕ, ◌+◌, ◌-◌, ◌<◌, Bool, cond, List, [], ◌∷◌, ◌++◌, Option, Some, None, length, length-append, set, get_or, refl, sym, ◌∙◌, subst, ap, inl, inr, arith, get_or-set_same, get_or-set_other}
use Rattle.std.proofs.lemmas.Bool.{cases_eq, cases_lt, eq-eqb, ne_eqb}
use Rattle.std.proofs.lemmas.List.{get_or_push, get_or_append_left}
use Rattle.std.proofs.lemmas.List.Sums.{sum_by-set}
use Rattle.std.specs.List.{count_by}
use Rattle.fx_pool.specs.Region.{RunBegins, is_order}
use Rattle.fx_pool.specs.Indexed.{IsIndexed}
use Rattle.fx_pool.proofs.Tables.{none_some, HasRun-below, HasRun-once, set-at, set-other, at-set, at-clear}

-- what an entry adds to a count
abbrev pub weight : Bool → ℕ
weight b = cond b 1 0

pub count-set : (orders : List (Option ℕ)) (s j : ℕ) (v : Option ℕ) → s < length orders → count_by (is_order j) (set orders s v) + weight (is_order j (get_or orders s None)) ≡ count_by (is_order j) orders + weight (is_order j v)
count-set orders s j v h = sum_by-set (λ x. weight (is_order j x)) orders s v None h

module _ (orders : List (Option ℕ)) (places : List ℕ) (old new : ℕ → List ℕ) (s k : ℕ) (h : IsIndexed orders places old) (same : (j : ℕ) → j ≢ k → new j ≡ old j) where
  module _ (below : s < length orders) (fits : length places ≡ length orders) (none : get_or orders s None ≡ None) (more : new k ≡ old k ++ s ∷ []) where
    added_other : (t j : ℕ) → RunBegins orders t j → t ≢ s
    added_other t j x e = none_some j (get_or orders s None) none (subst (λ (w : ℕ). RunBegins orders w j) e x)

    added_free : (i : ℕ) → i < length (old k ++ s ∷ []) → RunBegins (set orders s (Some k)) (get_or (old k ++ s ∷ []) i 0) k
    added_free i lt = elim (cases_lt i (length (old k))) [
      | inl b ↦ subst (λ (w : ℕ). RunBegins (set orders s (Some k)) w k) (sym (get_or_append_left (old k) (s ∷ []) 0 i b))
          (set-other orders s (get_or (old k) i 0) k (Some k) (added_other (get_or (old k) i 0) k (h.free k i b)) (h.free k i b))
      | inr ge ↦ subst (λ (w : ℕ). RunBegins (set orders s (Some k)) w k) (sym (get_or_push (old k) s 0 i (omega (arith, length-append (old k) (s ∷ [])))))
          (set-at orders s k below)
    ]

    added_place : (i : ℕ) → i < length (old k ++ s ∷ []) → get_or (set places s (length (old k))) (get_or (old k ++ s ∷ []) i 0) 0 ≡ i
    added_place i lt = elim (cases_lt i (length (old k))) [
      | inl b ↦ subst (λ (w : ℕ). get_or (set places s (length (old k))) w 0 ≡ i) (sym (get_or_append_left (old k) (s ∷ []) 0 i b))
          (get_or-set_other places s (get_or (old k) i 0) (length (old k)) 0 (added_other (get_or (old k) i 0) k (h.free k i b)) ∙ h.place k i b)
      | inr ge ↦ (let e : length (old k) ≡ i = omega (arith, length-append (old k) (s ∷ [])) in
          subst (λ (w : ℕ). get_or (set places s (length (old k))) w 0 ≡ i) (sym (get_or_push (old k) s 0 i e))
          (get_or-set_same places s (length (old k)) 0 (omega arith) ∙ e))
    ]

    added_counted : (j : ℕ) → length (new j) ≡ count_by (is_order j) (set orders s (Some k))
    added_counted j = elim (cases_eq j k) [
      | inl e ↦ subst (λ (w : ℕ). length (new w) ≡ count_by (is_order w) (set orders s (Some k))) (sym e)
          (omega (arith, ap (λ (l : List ℕ). length l) more, length-append (old k) (s ∷ []), h.counted k, count-set orders s k (Some k) below, ap (λ (x : Option ℕ). weight (is_order k x)) none, ap weight (eq-eqb k k refl)))
      | inr ne ↦ omega (arith, ap (λ (l : List ℕ). length l) (same j ne), h.counted j, count-set orders s j (Some k) below, ap (λ (x : Option ℕ). weight (is_order j x)) none, ap weight (ne_eqb k j (λ q. ne (sym q))))
    ]

    added_found : (t j : ℕ) → RunBegins (set orders s (Some k)) t j → (get_or (set places s (length (old k))) t 0 < length (new j)) × (get_or (new j) (get_or (set places s (length (old k))) t 0) 0 ≡ t)
    added_found t j x = elim (at-set orders s t j k below x) [
      | inl e ↦ (let p : get_or (set places s (length (old k))) t 0 ≡ length (old k) = ap (λ (w : ℕ). get_or (set places s (length (old k))) w 0) e.0 ∙ get_or-set_same places s (length (old k)) 0 (omega arith) in
          let l : new j ≡ old k ++ s ∷ [] = ap (λ (w : ℕ). new w) e.1 ∙ more in (
            omega (arith, ap (λ (l : List ℕ). length l) l, length-append (old k) (s ∷ [])),
            ap (λ (w : ℕ). get_or (new j) w 0) p ∙ ap (λ (l : List ℕ). get_or l (length (old k)) 0) l ∙ get_or_push (old k) s 0 (length (old k)) refl ∙ sym e.0,
          ))
      | inr y ↦ (let p : get_or (set places s (length (old k))) t 0 ≡ get_or places t 0 = get_or-set_other places s t (length (old k)) 0 y.0 in
          let w : get_or places t 0 < length (old j) = h.within t j y.1 in
          let f : get_or (old j) (get_or places t 0) 0 ≡ t = h.found t j y.1 in
          elim (cases_eq j k) [
            | inl e ↦ (let l : new j ≡ old j ++ s ∷ [] = subst (λ (z : ℕ). new z ≡ old z ++ s ∷ []) (sym e) more in (
              omega (arith, ap (λ (l : List ℕ). length l) l, length-append (old j) (s ∷ [])),
              ap (λ (w : ℕ). get_or (new j) w 0) p ∙ ap (λ (l : List ℕ). get_or l (get_or places t 0) 0) l ∙ get_or_append_left (old j) (s ∷ []) 0 (get_or places t 0) w ∙ f,
            ))
            | inr ne ↦ (
              omega (arith, ap (λ (l : List ℕ). length l) (same j ne)),
              ap (λ (w : ℕ). get_or (new j) w 0) p ∙ ap (λ (l : List ℕ). get_or l (get_or places t 0) 0) (same j ne) ∙ f,
            )
          ])
    ]

    other_list : (j i : ℕ) → j ≢ k → i < length (new j) → i < length (old j)
    other_list j i ne lt = subst (λ (l : List ℕ). i < length l) (same j ne) lt

    pub IsIndexed-added : IsIndexed (set orders s (Some k)) (set places s (length (old k))) new
    IsIndexed-added = record {
      free = λ j i lt. elim (cases_eq j k) [
        | inl e ↦ subst (λ (x : ℕ). (i : ℕ) → i < length (new x) → RunBegins (set orders s (Some k)) (get_or (new x) i 0) x) (sym e)
            (subst (λ (l : List ℕ). (i : ℕ) → i < length l → RunBegins (set orders s (Some k)) (get_or l i 0) k) (sym more) added_free) i lt
        | inr ne ↦ (let b : i < length (old j) = other_list j i ne lt in
            subst (λ (l : List ℕ). RunBegins (set orders s (Some k)) (get_or l i 0) j) (sym (same j ne))
            (set-other orders s (get_or (old j) i 0) j (Some k) (added_other (get_or (old j) i 0) j (h.free j i b)) (h.free j i b)))
      ];
      place = λ j i lt. elim (cases_eq j k) [
        | inl e ↦ subst (λ (x : ℕ). (i : ℕ) → i < length (new x) → get_or (set places s (length (old k))) (get_or (new x) i 0) 0 ≡ i) (sym e)
            (subst (λ (l : List ℕ). (i : ℕ) → i < length l → get_or (set places s (length (old k))) (get_or l i 0) 0 ≡ i) (sym more) added_place) i lt
        | inr ne ↦ (let b : i < length (old j) = other_list j i ne lt in
            subst (λ (l : List ℕ). get_or (set places s (length (old k))) (get_or l i 0) 0 ≡ i) (sym (same j ne))
            (get_or-set_other places s (get_or (old j) i 0) (length (old k)) 0 (added_other (get_or (old j) i 0) j (h.free j i b)) ∙ h.place j i b))
      ];
      within = λ t j x. (added_found t j x).0;
      found = λ t j x. (added_found t j x).1;
      counted = added_counted;
    }

  module _ (run : RunBegins orders s k) (fits : length places ≡ length orders) (len : length (new k) + 1 ≡ length (old k))
      (moved : get_or places s 0 + 1 < length (old k) → get_or (new k) (get_or places s 0) 0 ≡ get_or (old k) (length (old k) - 1) 0)
      (kept : (i : ℕ) → i ≢ get_or places s 0 → i + 1 < length (old k) → get_or (new k) i 0 ≡ get_or (old k) i 0) where
    -- the place that is freed, and the run that moves there
    abbrev at : ℕ
    at = get_or places s 0

    abbrev last : ℕ
    last = get_or (old k) (length (old k) - 1) 0

    at_below : at < length (old k)
    at_below = h.within s k run

    last_run : RunBegins orders last k
    last_run = h.free k (length (old k) - 1) (omega (arith, at_below))

    last_place : get_or places last 0 ≡ length (old k) - 1
    last_place = h.place k (length (old k) - 1) (omega (arith, at_below))

    last_below : last < length places
    last_below = omega (arith, HasRun-below orders last k last_run)

    -- a run in another place of the list is another run
    apart : (i : ℕ) → i < length (old k) → i ≢ at → get_or (old k) i 0 ≢ s
    apart i lt ne e = ne (sym (h.place k i lt) ∙ ap (λ (w : ℕ). get_or places w 0) e)

    apart_last : (i : ℕ) → i + 1 < length (old k) → get_or (old k) i 0 ≢ last
    apart_last i lt e = let p : i ≡ length (old k) - 1 = sym (h.place k i (omega arith)) ∙ ap (λ (w : ℕ). get_or places w 0) e ∙ last_place in omega arith

    other_order : (t j : ℕ) → j ≢ k → RunBegins orders t j → (u : ℕ) → RunBegins orders u k → t ≢ u
    other_order t j ne x u y e = ne (HasRun-once orders u j k (subst (λ (w : ℕ). RunBegins orders w j) e x) y)

    taken_free : (i : ℕ) → i < length (new k) → RunBegins (set orders s None) (get_or (new k) i 0) k
    taken_free i lt = elim (cases_eq i at) [
      | inl e ↦ (let more : at + 1 < length (old k) = omega (arith, len) in
          let ns : last ≢ s = apart (length (old k) - 1) (omega (arith, at_below)) (λ q. omega arith) in
          subst (λ (w : ℕ). RunBegins (set orders s None) (get_or (new k) w 0) k) (sym e)
          (subst (λ (w : ℕ). RunBegins (set orders s None) w k) (sym (moved more)) (set-other orders s last k None ns last_run)))
      | inr ne ↦ (let lt' : i < length (old k) = omega (arith, len) in
          subst (λ (w : ℕ). RunBegins (set orders s None) w k) (sym (kept i ne (omega (arith, len))))
          (set-other orders s (get_or (old k) i 0) k None (apart i lt' ne) (h.free k i lt')))
    ]

    taken_place : (i : ℕ) → i < length (new k) → get_or (set places last at) (get_or (new k) i 0) 0 ≡ i
    taken_place i lt = elim (cases_eq i at) [
      | inl e ↦ (let more : at + 1 < length (old k) = omega (arith, len) in
          ap (λ (w : ℕ). get_or (set places last at) w 0) (ap (λ (w : ℕ). get_or (new k) w 0) e ∙ moved more) ∙ get_or-set_same places last at 0 last_below ∙ sym e)
      | inr ne ↦ (let more : i + 1 < length (old k) = omega (arith, len) in
          ap (λ (w : ℕ). get_or (set places last at) w 0) (kept i ne more) ∙ get_or-set_other places last (get_or (old k) i 0) at 0 (apart_last i more) ∙ h.place k i (omega arith))
    ]

    taken_same : (t : ℕ) → t ≢ s → RunBegins orders t k → (get_or (set places last at) t 0 < length (new k)) × (get_or (new k) (get_or (set places last at) t 0) 0 ≡ t)
    taken_same t ns x = elim (cases_eq t last) [
      | inl e ↦ (let p : get_or (set places last at) t 0 ≡ at = ap (λ (w : ℕ). get_or (set places last at) w 0) e ∙ get_or-set_same places last at 0 last_below in
          let ne : at ≢ length (old k) - 1 = λ q. ns (e ∙ ap (λ (w : ℕ). get_or (old k) w 0) (sym q) ∙ h.found s k run) in
          let more : at + 1 < length (old k) = omega (arith, at_below) in
          (omega (arith, len), ap (λ (w : ℕ). get_or (new k) w 0) p ∙ moved more ∙ sym e))
      | inr nl ↦ (let p : get_or (set places last at) t 0 ≡ get_or places t 0 = get_or-set_other places last t at 0 nl in
          let w : get_or places t 0 < length (old k) = h.within t k x in
          let f : get_or (old k) (get_or places t 0) 0 ≡ t = h.found t k x in
          let na : get_or places t 0 ≢ at = λ q. ns (sym f ∙ ap (λ (z : ℕ). get_or (old k) z 0) q ∙ h.found s k run) in
          let nz : get_or places t 0 ≢ length (old k) - 1 = λ q. nl (sym f ∙ ap (λ (z : ℕ). get_or (old k) z 0) q) in
          let more : get_or places t 0 + 1 < length (old k) = omega arith in
          (omega (arith, len), ap (λ (w : ℕ). get_or (new k) w 0) p ∙ kept (get_or places t 0) na more ∙ f))
    ]

    taken_found : (t j : ℕ) → RunBegins (set orders s None) t j → (get_or (set places last at) t 0 < length (new j)) × (get_or (new j) (get_or (set places last at) t 0) 0 ≡ t)
    taken_found t j x =
        let c = at-clear orders s t j (HasRun-below orders s k run) x in
        elim (cases_eq j k) [
          | inl e ↦ subst (λ (w : ℕ). (get_or (set places last at) t 0 < length (new w)) × (get_or (new w) (get_or (set places last at) t 0) 0 ≡ t)) (sym e)
              (taken_same t c.0 (subst (λ (w : ℕ). RunBegins orders t w) e c.1))
          | inr ne ↦ (let p : get_or (set places last at) t 0 ≡ get_or places t 0 = get_or-set_other places last t at 0 (other_order t j ne c.1 last last_run) in (
            omega (arith, ap (λ (l : List ℕ). length l) (same j ne), h.within t j c.1),
            ap (λ (w : ℕ). get_or (new j) w 0) p ∙ ap (λ (l : List ℕ). get_or l (get_or places t 0) 0) (same j ne) ∙ h.found t j c.1,
          ))
        ]

    taken_counted : (j : ℕ) → length (new j) ≡ count_by (is_order j) (set orders s None)
    taken_counted j = elim (cases_eq j k) [
      | inl e ↦ subst (λ (w : ℕ). length (new w) ≡ count_by (is_order w) (set orders s None)) (sym e)
          (omega (arith, len, h.counted k, count-set orders s k None (HasRun-below orders s k run), ap (λ (x : Option ℕ). weight (is_order k x)) run, ap weight (eq-eqb k k refl)))
      | inr ne ↦ omega (arith, ap (λ (l : List ℕ). length l) (same j ne), h.counted j, count-set orders s j None (HasRun-below orders s k run), ap (λ (x : Option ℕ). weight (is_order j x)) run, ap weight (ne_eqb k j (λ q. ne (sym q))))
    ]

    other_taken : (j i : ℕ) → j ≢ k → i < length (new j) → i < length (old j)
    other_taken j i ne lt = subst (λ (l : List ℕ). i < length l) (same j ne) lt

    pub IsIndexed-taken : IsIndexed (set orders s None) (set places last at) new
    IsIndexed-taken = record {
      free = λ j i lt. elim (cases_eq j k) [
        | inl e ↦ subst (λ (x : ℕ). (i : ℕ) → i < length (new x) → RunBegins (set orders s None) (get_or (new x) i 0) x) (sym e) taken_free i lt
        | inr ne ↦ (let b : i < length (old j) = other_taken j i ne lt in
            subst (λ (l : List ℕ). RunBegins (set orders s None) (get_or l i 0) j) (sym (same j ne))
            (set-other orders s (get_or (old j) i 0) j None (other_order (get_or (old j) i 0) j ne (h.free j i b) s run) (h.free j i b)))
      ];
      place = λ j i lt. elim (cases_eq j k) [
        | inl e ↦ subst (λ (x : ℕ). (i : ℕ) → i < length (new x) → get_or (set places last at) (get_or (new x) i 0) 0 ≡ i) (sym e) taken_place i lt
        | inr ne ↦ (let b : i < length (old j) = other_taken j i ne lt in
            subst (λ (l : List ℕ). get_or (set places last at) (get_or l i 0) 0 ≡ i) (sym (same j ne))
            (get_or-set_other places last (get_or (old j) i 0) at 0 (other_order (get_or (old j) i 0) j ne (h.free j i b) last last_run) ∙ h.place j i b))
      ];
      within = λ t j x. (taken_found t j x).0;
      found = λ t j x. (taken_found t j x).1;
      counted = taken_counted;
    }
