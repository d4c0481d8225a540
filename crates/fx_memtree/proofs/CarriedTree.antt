-- A subtree that is moved node by node has moved as a whole.
use Rattle.std.proofs.Common.{◌≡◌, ◌≢◌, ◌⊎◌, inl, inr, ℕ, ◌+◌, ◌-◌, ◌<◌, ◌++◌, List, [], ◌∷◌, length, take, drop, get_or, add-one, refl, sym, ap, subst, ◌∙◌, cond}
use Rattle.std.specs.Prelude.{Bool, true, false, ◌||◌, Option, Some, None, is_some, map, filter}
use Rattle.std.specs.List.{AllByRecursion, list_any}
use Rattle.std.specs.Ordering.{eq_by_cmp}
use Rattle.std.specs.FinMap as finite
use Rattle.std.specs.FinMap.{get, insert, remove, get-insert, get-remove}
use Rattle.std.proofs.Math.Seq.{drop-append_seam, take-suc}
use Rattle.std.proofs.lemmas.List.{take-append-drop}
use Rattle.std.proofs.lemmas.List.Folds.{list_any-append}
use Rattle.fx_plain.specs.Node.{Node, empty_dir}
use Rattle.fx_plain.specs.Tree.{Tree, path_cmp}
use Rattle.fx_plain.proofs.Paths.{paths_total, paths_exact}
use Rattle.fx_steps.specs.Moved.{IsMoved, lies_below, moved, rest_below}
use Rattle.fx_steps.proofs.Below.{Path, below_or_not, cancel, lying, not_lying, path_false, path_itself, path_true, rest_is, same_path}
use Rattle.fx_steps.proofs.MovedTree.{apart, moves}
use Rattle.fx_steps.proofs.Sized.{same_moved}
use Rattle.fx_memtree.specs.Carried.{carried, carried_all, carries_of, carry_of, put_in_place, with_held_places, without_held_places}
use Rattle.fx_memtree.specs.declared.carry.Carry.{Carry}

abbrev starts_at : Path → List Carry → Bool
starts_at q carries = list_any (λ (carry : Carry). eq_by_cmp path_cmp q carry.old) carries

abbrev ends_at : Path → List Carry → Bool
ends_at q carries = list_any (λ (carry : Carry). eq_by_cmp path_cmp q carry.new) carries

-- ---- places at the ends

either_cond : (a b : Bool) (d x : Option Node) → cond a d (cond b d x) ≡ cond (b || a) d x
either_cond true true d x = refl
either_cond true false d x = refl
either_cond false true d x = refl
either_cond false false d x = refl

get-with_held_places : (t : Tree) (carries : List Carry) (q : Path) → get (with_held_places t carries) q ≡ cond (ends_at q carries) (Some empty_dir) (get t q)
get-with_held_places t [] q = refl
get-with_held_places t (carry ∷ carries) q =
    get-with_held_places (insert t carry.new empty_dir) carries q
    ∙ ap (cond (ends_at q carries) (Some empty_dir)) (get-insert paths_total t carry.new empty_dir q)
    ∙ either_cond (ends_at q carries) (eq_by_cmp path_cmp q carry.new) (Some empty_dir) (get t q)

get-without_held_places : (t : Tree) (carries : List Carry) (q : Path) → get (without_held_places t carries) q ≡ cond (ends_at q carries) None (get t q)
get-without_held_places t [] q = refl
get-without_held_places t (carry ∷ carries) q =
    get-without_held_places (remove t carry.new) carries q
    ∙ ap (cond (ends_at q carries) None) (get-remove paths_total t carry.new q)
    ∙ either_cond (ends_at q carries) (eq_by_cmp path_cmp q carry.new) None (get t q)

with_held_places-append : (t : Tree) (xs ys : List Carry) → with_held_places t (xs ++ ys) ≡ with_held_places (with_held_places t xs) ys
with_held_places-append t [] ys = refl
with_held_places-append t (x ∷ xs) ys = with_held_places-append (insert t x.new empty_dir) xs ys

-- one place more
pub one_more_place : (t now : Tree) (carries : List Carry) (i : ℕ) (carry : Carry) → now ≡ with_held_places t (take i carries) → i < length carries → carry ≡ get_or carries i carry
    → insert now carry.new empty_dir ≡ with_held_places t (take (i + 1) carries)
one_more_place t now carries i carry is within at =
    ap (λ z. insert z carry.new empty_dir) is
    ∙ sym (with_held_places-append t (take i carries) (carry ∷ []))
    ∙ ap (λ z. with_held_places t (take i carries ++ z ∷ [])) at
    ∙ ap (with_held_places t) (sym (take-suc carries i carry within) ∙ ap (λ n. take n carries) (sym (add-one i)))

or_none : (a b : Bool) → (a || b) ≡ false → a ≡ false
or_none true b e = absurd (cc e)
or_none false b e = refl

front_none : (q : Path) (carries : List Carry) (n : ℕ) → ends_at q carries ≡ false → ends_at q (take n carries) ≡ false
front_none q carries n e =
    or_none (ends_at q (take n carries)) (ends_at q (drop n carries))
    (sym (list_any-append (λ (carry : Carry). eq_by_cmp path_cmp q carry.new) (take n carries) (drop n carries)) ∙ ap (ends_at q) (take-append-drop n carries) ∙ e)

-- places that were made are taken away, where nothing lay at them before
pub taken_back : (t : Tree) (carries : List Carry) (n : ℕ) → ((q : Path) → ends_at q carries ≡ true → get t q ≡ None) → without_held_places (with_held_places t (take n carries)) carries ≡ t
taken_back t carries n free = finite.same_map paths_total paths_exact _ _ (λ q.
    get-without_held_places (with_held_places t (take n carries)) carries q
    ∙ by q (ends_at q carries) refl)
  where
    by : (q : Path) (b : Bool) → ends_at q carries ≡ b → cond b None (get (with_held_places t (take n carries)) q) ≡ get t q
    by q true e = sym (free q e)
    by q false e = get-with_held_places t (take n carries) q ∙ ap (λ b. cond b (Some empty_dir) (get t q)) (front_none q carries n e)

-- ---- the ways of a subtree

record IsWay (from to : Path) (t : Tree) (carry : Carry) : Type 0 where
  rest : Path
  old_is : carry.old ≡ from ++ rest
  new_is : carry.new ≡ to ++ rest

abbrev AreWays : Path → Path → Tree → List Carry → Type 0
AreWays from to t carries = AllByRecursion (IsWay from to t) carries

abbrev ways_in : Path → Path → List Path → List Carry
ways_in from to ks = map (carry_of from to) (filter (lies_below from) ks)

way_of : (from to k r : Path) (t : Tree) → k ≡ from ++ r → IsWay from to t (carry_of from to k)
way_of from to k r t is = record { rest = r; old_is = is; new_is = ap (λ z. to ++ z) (ap (drop (length from)) is ∙ drop-append_seam from r) }

are_ways : (from to : Path) (t : Tree) (ks : List Path) → AreWays from to t (ways_in from to ks)
are_ways from to t [] = tt
are_ways from to t (k ∷ ks) = by (rest_below from k) refl (are_ways from to t ks)
  where
    by : (o : Option Path) → rest_below from k ≡ o → AreWays from to t (ways_in from to ks) → AreWays from to t (map (carry_of from to) (cond (is_some o) (k ∷ filter (lies_below from) ks) (filter (lies_below from) ks)))
    by None e more = more
    by (Some r) e more = (way_of from to k r t (rest_is from k r e), more)

-- each node below is the start of a way
starts : (from to k r : Path) (ks : List Path) → k ≡ from ++ r → starts_at k (ways_in from to ks) ≡ list_any (eq_by_cmp path_cmp k) ks
starts from to k r [] is = refl
starts from to k r (x ∷ ks) is = by (lies_below from x) refl (starts from to k r ks is)
  where
    by : (b : Bool) → lies_below from x ≡ b → starts_at k (ways_in from to ks) ≡ list_any (eq_by_cmp path_cmp k) ks
        → starts_at k (map (carry_of from to) (cond b (x ∷ filter (lies_below from) ks) (filter (lies_below from) ks))) ≡ (eq_by_cmp path_cmp k x || list_any (eq_by_cmp path_cmp k) ks)
    by true e more = ap (λ b. eq_by_cmp path_cmp k x || b) more
    by false e more = more ∙ ap (λ b. b || list_any (eq_by_cmp path_cmp k) ks) (sym (path_false k x (λ f. cc (sym e ∙ lying from x r (sym f ∙ is)))))

module _ (from to : Path) (into : (r : Path) → to ≢ from ++ r) (onto : (r : Path) → from ≢ to ++ r) where
  same_ends : (t : Tree) (r : Path) (carries : List Carry) → AreWays from to t carries → ends_at (to ++ r) carries ≡ starts_at (from ++ r) carries
  same_ends t r [] ways = refl
  same_ends t r (carry ∷ carries) ways = λ i. by (same_path r ways.0.rest) i || same_ends t r carries ways.1 i
    where
      way : IsWay from to t carry
      way = ways.0

      by : (r ≡ way.rest) ⊎ (r ≢ way.rest) → eq_by_cmp path_cmp (to ++ r) carry.new ≡ eq_by_cmp path_cmp (from ++ r) carry.old
      by (inl e) = path_true (to ++ r) carry.new (ap (λ z. to ++ z) e ∙ sym way.new_is) ∙ sym (path_true (from ++ r) carry.old (ap (λ z. from ++ z) e ∙ sym way.old_is))
      by (inr ne) = path_false (to ++ r) carry.new (λ f. ne (cancel to r way.rest (f ∙ way.new_is))) ∙ sym (path_false (from ++ r) carry.old (λ f. ne (cancel from r way.rest (f ∙ way.old_is))))

  -- no way ends at a path that does not lie below the other
  no_end : (t : Tree) (q : Path) → ((r : Path) → q ≢ to ++ r) → (carries : List Carry) → AreWays from to t carries → ends_at q carries ≡ false
  no_end t q not [] ways = refl
  no_end t q not (carry ∷ carries) ways = (λ i. path_false q carry.new (λ e. not ways.0.rest (e ∙ ways.0.new_is)) i || ends_at q carries) ∙ no_end t q not carries ways.1

  -- ---- on the way

  -- a node that has not moved yet, and has a place; or one that has moved
  abbrev IsBetween : Option Node → Option Node → Option Node → Type 0
  IsBetween old here there = ((here ≡ old) × (is_some there ≡ is_some old)) ⊎ ((here ≡ None) × (there ≡ old))

  record IsMoving (t m : Tree) (left : List Carry) : Type 0 where
    each : (r : Path) → IsBetween (get t (from ++ r)) (get m (from ++ r)) (get m (to ++ r))
    others : (q : Path) → ((r : Path) → q ≢ to ++ r) → ((r : Path) → q ≢ from ++ r) → get m q ≡ get t q
    waits : (r : Path) → is_some (get m (from ++ r)) ≡ true → starts_at (from ++ r) left ≡ true

  begins : (t : Tree) (carries : List Carry) → ((r : Path) → get t (to ++ r) ≡ None) → AreWays from to t carries → ((r : Path) → starts_at (from ++ r) carries ≡ is_some (get t (from ++ r))) → IsMoving t (with_held_places t carries) carries
  begins t carries free ways all = record {
    each = λ r. inl (here r, there r);
    others = λ q not_to not_from. get-with_held_places t carries q ∙ ap (λ b. cond b (Some empty_dir) (get t q)) (no_end t q not_to carries ways);
    waits = λ r e. all r ∙ ap is_some (sym (here r)) ∙ e;
  }
    where
      here : (r : Path) → get (with_held_places t carries) (from ++ r) ≡ get t (from ++ r)
      here r = get-with_held_places t carries (from ++ r) ∙ ap (λ b. cond b (Some empty_dir) (get t (from ++ r))) (no_end t (from ++ r) (λ s e. apart from to into onto s r (sym e)) carries ways)

      placed : (b : Bool) (o : Option Node) → o ≡ None → is_some (cond b (Some empty_dir) o) ≡ b
      placed true o e = refl
      placed false o e = ap is_some e

      there : (r : Path) → is_some (get (with_held_places t carries) (to ++ r)) ≡ is_some (get t (from ++ r))
      there r = ap is_some (get-with_held_places t carries (to ++ r)) ∙ placed (ends_at (to ++ r) carries) (get t (to ++ r)) (free r) ∙ same_ends t r carries ways ∙ all r

  -- one node more has moved
  module _ (t m : Tree) (carry : Carry) (left : List Carry) (way : IsWay from to t carry) (g : IsMoving t m (carry ∷ left)) where
    abbrev s : Path
    s = way.rest

    abbrev next : Option Node → Tree
    next o = put_in_place (remove m carry.old) carry.new o

    -- a path other than both stays
    stays : (q : Path) → q ≢ from ++ s → q ≢ to ++ s → (o : Option Node) → get (next o) q ≡ get m q
    stays q not_old not_new None = get-remove paths_total m carry.old q ∙ ap (λ b. cond b None (get m q)) (path_false q carry.old (λ e. not_old (e ∙ way.old_is)))
    stays q not_old not_new (Some node) = by (is_some (get (remove m carry.old) carry.new))
      where
        removed : get (remove m carry.old) q ≡ get m q
        removed = get-remove paths_total m carry.old q ∙ ap (λ b. cond b None (get m q)) (path_false q carry.old (λ e. not_old (e ∙ way.old_is)))

        by : (b : Bool) → get (cond b (insert (remove m carry.old) carry.new node) (remove m carry.old)) q ≡ get m q
        by true = get-insert paths_total (remove m carry.old) carry.new node q ∙ ap (λ b. cond b (Some node) (get (remove m carry.old) q)) (path_false q carry.new (λ e. not_new (e ∙ way.new_is))) ∙ removed
        by false = removed

    gone_here : (o : Option Node) → get (next o) (from ++ s) ≡ None
    gone_here None = get-remove paths_total m carry.old (from ++ s) ∙ ap (λ b. cond b None (get m (from ++ s))) (path_true (from ++ s) carry.old (sym way.old_is))
    gone_here (Some node) = by (is_some (get (remove m carry.old) carry.new))
      where
        removed : get (remove m carry.old) (from ++ s) ≡ None
        removed = get-remove paths_total m carry.old (from ++ s) ∙ ap (λ b. cond b None (get m (from ++ s))) (path_true (from ++ s) carry.old (sym way.old_is))

        by : (b : Bool) → get (cond b (insert (remove m carry.old) carry.new node) (remove m carry.old)) (from ++ s) ≡ None
        by true = get-insert paths_total (remove m carry.old) carry.new node (from ++ s) ∙ ap (λ b. cond b (Some node) (get (remove m carry.old) (from ++ s))) (path_false (from ++ s) carry.new (λ e. apart from to into onto s s (sym (e ∙ way.new_is)))) ∙ removed
        by false = removed

    -- what lies at the end, before
    end_stays : get (remove m carry.old) carry.new ≡ get m (to ++ s)
    end_stays = ap (get (remove m carry.old)) way.new_is ∙ get-remove paths_total m carry.old (to ++ s) ∙ ap (λ b. cond b None (get m (to ++ s))) (path_false (to ++ s) carry.old (λ e. apart from to into onto s s (e ∙ way.old_is)))

    came : (o : Option Node) → get m carry.old ≡ o → IsBetween (get t (from ++ s)) (get m (from ++ s)) (get m (to ++ s)) → get (next o) (to ++ s) ≡ get t (from ++ s)
    came None e (inl b) =
        get-remove paths_total m carry.old (to ++ s) ∙ ap (λ b. cond b None (get m (to ++ s))) (path_false (to ++ s) carry.old (λ e. apart from to into onto s s (e ∙ way.old_is)))
        ∙ none_there (get m (to ++ s)) (b.1 ∙ ap is_some old_none) ∙ sym old_none
      where
        old_none : get t (from ++ s) ≡ None
        old_none = sym b.0 ∙ ap (get m) (sym way.old_is) ∙ e

        none_there : (there : Option Node) → is_some there ≡ false → there ≡ None
        none_there None h = refl
        none_there (Some x) h = absurd (cc h)
    came None e (inr b) =
        get-remove paths_total m carry.old (to ++ s) ∙ ap (λ b. cond b None (get m (to ++ s))) (path_false (to ++ s) carry.old (λ e. apart from to into onto s s (e ∙ way.old_is)))
        ∙ b.1
    came (Some node) e (inl b) =
        ap (λ x. get (cond x (insert (remove m carry.old) carry.new node) (remove m carry.old)) (to ++ s)) place
        ∙ get-insert paths_total (remove m carry.old) carry.new node (to ++ s)
        ∙ ap (λ b. cond b (Some node) (get (remove m carry.old) (to ++ s))) (path_true (to ++ s) carry.new (sym way.new_is))
        ∙ sym e ∙ ap (get m) way.old_is ∙ b.0
      where
        place : is_some (get (remove m carry.old) carry.new) ≡ true
        place = ap is_some end_stays ∙ b.1 ∙ ap is_some (sym b.0 ∙ ap (get m) (sym way.old_is) ∙ e)
    came (Some node) e (inr b) = absurd (cc (sym e ∙ ap (get m) way.old_is ∙ b.0))

    one_on : IsMoving t (carried m carry) left
    one_on = record {
      each = λ r. each r (same_path r s);
      others = λ q not_to not_from. stays q (not_from s) (not_to s) (get m carry.old) ∙ g.others q not_to not_from;
      waits = λ r e. waits r (same_path r s) e;
    }
      where
        each : (r : Path) → (r ≡ s) ⊎ (r ≢ s) → IsBetween (get t (from ++ r)) (get (carried m carry) (from ++ r)) (get (carried m carry) (to ++ r))
        each r (inl e) = inr (ap (λ z. get (carried m carry) (from ++ z)) e ∙ gone_here (get m carry.old), ap (λ z. get (carried m carry) (to ++ z)) e ∙ came (get m carry.old) refl (g.each s) ∙ ap (λ z. get t (from ++ z)) (sym e))
        each r (inr ne) =
            let here = stays (from ++ r) (λ e. ne (cancel from r s e)) (λ e. apart from to into onto s r (sym e)) (get m carry.old) in
            let there = stays (to ++ r) (λ e. apart from to into onto r s e) (λ e. ne (cancel to r s e)) (get m carry.old) in
            elim (g.each r) [
              | inl b ↦ inl (here ∙ b.0, ap is_some there ∙ b.1)
              | inr b ↦ inr (here ∙ b.0, there ∙ b.1)
            ]

        waits : (r : Path) → (r ≡ s) ⊎ (r ≢ s) → is_some (get (carried m carry) (from ++ r)) ≡ true → starts_at (from ++ r) left ≡ true
        waits r (inl e) some = absurd (cc (sym some ∙ ap is_some (ap (λ z. get (carried m carry) (from ++ z)) e ∙ gone_here (get m carry.old))))
        waits r (inr ne) some =
            let here = stays (from ++ r) (λ e. ne (cancel from r s e)) (λ e. apart from to into onto s r (sym e)) (get m carry.old) in
            sym (ap (λ b. b || starts_at (from ++ r) left) (path_false (from ++ r) carry.old (λ e. ne (cancel from r s (e ∙ way.old_is)))))
            ∙ g.waits r (ap is_some (sym here) ∙ some)

  ends_moving : (t m : Tree) → IsMoving t m [] → IsMoved (get t) (get m) from to
  ends_moving t m g = record {
    inside = λ r. inside r (get m (from ++ r)) (λ e. g.waits r e) refl (g.each r);
    gone = λ r. gone r (get m (from ++ r)) (λ e. g.waits r e) refl;
    others = g.others;
  }
    where
      gone : (r : Path) (o : Option Node) → (is_some (get m (from ++ r)) ≡ true → false ≡ true) → get m (from ++ r) ≡ o → get m (from ++ r) ≡ None
      gone r None h e = e
      gone r (Some x) h e = absurd (cc (h (ap is_some e)))

      none_there : (there : Option Node) → is_some there ≡ false → there ≡ None
      none_there None h = refl
      none_there (Some x) h = absurd (cc h)

      inside : (r : Path) (o : Option Node) → (is_some (get m (from ++ r)) ≡ true → false ≡ true) → get m (from ++ r) ≡ o → IsBetween (get t (from ++ r)) (get m (from ++ r)) (get m (to ++ r)) → get m (to ++ r) ≡ get t (from ++ r)
      inside r (Some x) h e b = absurd (cc (h (ap is_some e)))
      inside r None h e (inl b) = let old : get t (from ++ r) ≡ None = sym b.0 ∙ e in none_there (get m (to ++ r)) (b.1 ∙ ap is_some old) ∙ sym old
      inside r None h e (inr b) = b.1

  all_moved : (t m : Tree) (left : List Carry) → AreWays from to t left → IsMoving t m left → IsMoved (get t) (get (carried_all m left)) from to
  all_moved t m [] ways g = ends_moving t m g
  all_moved t m (carry ∷ left) ways g = all_moved t (carried m carry) left ways.1 (one_on t m carry left ways.0 g)

  -- the whole has moved
  pub carried_is : (t : Tree) → ((r : Path) → get t (to ++ r) ≡ None) → carried_all (with_held_places t (carries_of t from to)) (carries_of t from to) ≡ moved t from to
  carried_is t free =
      let carries = carries_of t from to in
      let ways = are_ways from to t (finite.keys t) in
      let all : (r : Path) → starts_at (from ++ r) carries ≡ is_some (get t (from ++ r)) = λ r. starts from to (from ++ r) r (finite.keys t) refl ∙ sym (finite.contains_key-keys t (from ++ r)) in
      same_moved t _ _ from to (all_moved t (with_held_places t carries) carries ways (begins t carries free ways all)) (moves from to into onto t free)

  -- nothing lies at the end of a way before
  pub free_ends : (t : Tree) → ((r : Path) → get t (to ++ r) ≡ None) → (q : Path) → ends_at q (carries_of t from to) ≡ true → get t q ≡ None
  free_ends t free q e = elim (below_or_not to q) [
    | inl a ↦ ap (get t) a.1 ∙ free a.0
    | inr not ↦ absurd (cc (sym e ∙ no_end t q not (carries_of t from to) (are_ways from to t (finite.keys t))))
  ]
