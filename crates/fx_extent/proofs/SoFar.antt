-- The extents of new blocks, put one behind the other.
use Rattle.std.proofs.Common.{◌≡◌, ℕ, ◌+◌, ◌-◌, ◌<◌, ◌≤◌, ◌==◌, ◌&&◌, Bool, true, false, List, [], ◌∷◌, ◌++◌, map, length, take, drop, Option, Some, None, refl, sym, ap, subst, ◌∙◌, arith, eqb-true}
use Rattle.std.specs.Prelude.{nat_lt}
use Rattle.std.proofs.lemmas.Bool.{ltb-true}
use Rattle.std.proofs.lemmas.List.{append_assoc, append-nil, get_or-drop, get_or-take, length-drop, length-map, length-take-le, map-append}
use Rattle.fx_item.specs.Item.{PlainItem, IsItem, item_of, items_of}
use Rattle.fx_item.specs.declared.item.Item.{Item}
use Rattle.fx_item.specs.Overlay.{Point, Entry, or_older, says}
use Rattle.fx_item.specs.declared.item.TheConstants.{MAX_DEVICE_BLOCKS, MAX_EXTENT_BLOCKS, MAX_FILE_BLOCKS}
use Rattle.fx_item.specs.declared.lock.LockKey.{LockKey}
use Rattle.fx_item.proofs.Covered.{file_upto}
use Rattle.fx_item.proofs.Follow.{follow_holds}
use Rattle.fx_item.proofs.PlaceOrder.{upto_le}
use Rattle.fx_extent.specs.declared.storing.NewBlock.{NewBlock}
use Rattle.fx_extent.specs.Staged.{AreExtentsOf, AreInPlaces, IsLongestRun, are_one_extent, no_block, nth_block, run_item, said_of}
use Rattle.fx_extent.proofs.Chains.{Follows, GoOn, chain_ascending, chain_each, chain_joined, says_append}
use Rattle.fx_extent.proofs.Runs.{rising_at, rising_behind, rising_first, run_from, said_split, says_run}

-- The last item is the extent of a run that ends before the place, and that does not go on with the rest.
pub record IsLastRun (at : LockKey) (least : ℕ) (rest : List NewBlock) (y : PlainItem) : Type 0 where
  pub run : List NewBlock
  pub is : y ≡ run_item at run
  pub good : IsItem (run_item at run)
  pub ends : (nth_block run 0).index + length run ≤ least
  pub apart : 0 < length rest → length run < MAX_EXTENT_BLOCKS → (nth_block rest 0).index ≡ (nth_block run 0).index + length run
      → (nth_block rest 0).block ≡ (nth_block run 0).block + length run → ⊥

abbrev pub EndsBefore : LockKey → ℕ → List NewBlock → Option PlainItem → Type 0
EndsBefore at least rest None = Unit {0}
EndsBefore at least rest (Some y) = IsLastRun at least rest y

-- The items, and then the rest of the blocks, say what all blocks say; and what may stand behind the last
-- item may stand behind all of them.
pub record ExtentsSoFar (at : LockKey) (blocks rest : List NewBlock) (items : List PlainItem) : Type 0 where
  pub least : ℕ
  pub last : Option PlainItem
  pub rising : AreInPlaces least rest
  pub before : EndsBefore at least rest last
  pub chain : (ys : List PlainItem) → GoOn are_one_extent last ys → GoOn are_one_extent None (items ++ ys)
  pub said : (p : Point) → or_older (says items p) (said_of at rest p) ≡ said_of at blocks p

pub extents_begin : (at : LockKey) (blocks : List NewBlock) → AreInPlaces 0 blocks → ExtentsSoFar at blocks blocks []
extents_begin at blocks r = record { least = 0; last = None; rising = r; before = tt; chain = λ ys c. c; said = λ p. refl }

older_assoc : (a b c : Option (Option Entry)) → or_older (or_older a b) c ≡ or_older a (or_older b c)
older_assoc None b c = refl
older_assoc (Some x) b c = refl

pub extents_end : (at : LockKey) (blocks rest : List NewBlock) (items : List PlainItem) → length rest ≡ 0 → ExtentsSoFar at blocks rest items → AreExtentsOf at blocks items
extents_end at blocks [] items e s =
    let chain : GoOn are_one_extent None items = subst (GoOn are_one_extent None) (append-nil items) (s.chain [] tt) in
    record {
      said = λ p. alone (says items p) p ∙ s.said p;
      each = chain_each are_one_extent None items chain;
      ascending = chain_ascending are_one_extent None items chain;
      joined = chain_joined are_one_extent None items chain;
    }
  where
    nothing : (p : Point) → said_of at [] p ≡ None
    nothing p = grind (arith)

    alone : (o : Option (Option Entry)) (p : Point) → o ≡ or_older o (said_of at [] p)
    alone None p = sym (nothing p)
    alone (Some x) p = refl
extents_end at blocks (x ∷ xs) items e s = absurd (omega (arith, e))

-- ---- one more run

module _ (at : LockKey) (rest : List NewBlock) (n : ℕ) (h : IsLongestRun rest n) where
  count : length (take n rest) ≡ n
  count = length-take-le n rest h.within

  first : nth_block (take n rest) 0 ≡ nth_block rest 0
  first = get_or-take n rest 0 no_block h.some

  -- what the call that makes the extent asks for
  pub run_fits : (least : ℕ) → AreInPlaces least rest
      → ((nth_block (take n rest) 0).index + length (take n rest) ≤ MAX_FILE_BLOCKS) × ((nth_block (take n rest) 0).block + length (take n rest) ≤ MAX_DEVICE_BLOCKS)
  run_fits least r =
      let last = rising_at least rest (n - 1) r (omega (arith, h.some, h.within)) in
      let at_last = h.run (n - 1) (omega (arith, h.some)) in
      let i : (nth_block (take n rest) 0).index ≡ (nth_block rest 0).index = ap (λ (x : NewBlock). x.index) first in
      let b : (nth_block (take n rest) 0).block ≡ (nth_block rest 0).block = ap (λ (x : NewBlock). x.block) first in
      (omega (arith, last.0, at_last.0, i, count, h.some), omega (arith, last.1, at_last.1, b, count, h.some))

  behind : (k : ℕ) → k < length (take n rest)
      → ((nth_block (take n rest) k).index ≡ (nth_block (take n rest) 0).index + k) × ((nth_block (take n rest) k).block ≡ (nth_block (take n rest) 0).block + k)
  behind k lt =
      let less : k < n = omega (arith, lt, count) in
      let same : nth_block (take n rest) k ≡ nth_block rest k = get_or-take n rest k no_block less in
      let at_k = h.run k less in (
        ap (λ (x : NewBlock). x.index) same ∙ at_k.0 ∙ ap (λ (x : NewBlock). x.index + k) (sym first),
        ap (λ (x : NewBlock). x.block) same ∙ at_k.1 ∙ ap (λ (x : NewBlock). x.block + k) (sym first),
      )

  says_it : (p : Point) → says (run_item at (take n rest) ∷ []) p ≡ said_of at (take n rest) p
  says_it = says_run at (take n rest) (run_from (take n rest) (nth_block (take n rest) 0).index (nth_block (take n rest) 0).block behind)

  module _ (blocks : List NewBlock) (items : List PlainItem) (good : IsItem (run_item at (take n rest))) (s : ExtentsSoFar at blocks rest items) where
    follows : Follows are_one_extent s.last (run_item at (take n rest))
    follows = by s.last s.before
      where
        i : (nth_block (take n rest) 0).index ≡ (nth_block rest 0).index
        i = ap (λ (x : NewBlock). x.index) first

        b : (nth_block (take n rest) 0).block ≡ (nth_block rest 0).block
        b = ap (λ (x : NewBlock). x.block) first

        from : s.least ≤ (nth_block rest 0).index
        from = rising_first s.least rest s.rising (omega (arith, h.some, h.within))

        by : (last : Option PlainItem) → EndsBefore at s.least rest last → Follows are_one_extent last (run_item at (take n rest))
        by None e = tt
        by (Some y) e = subst (λ z. Follows are_one_extent (Some z) (run_item at (take n rest))) (sym e.is) (
          follow_holds (run_item at e.run).key (run_item at (take n rest)).key e.good.key good.key
              ∙ upto_le (file_upto at.store at.id ((nth_block e.run 0).index + length e.run) (nth_block (take n rest) 0).index (omega (arith, e.ends, from, i))),
          no_join ((nth_block e.run 0).index + length e.run == (nth_block (take n rest) 0).index) ((nth_block e.run 0).block + length (map (λ (x : NewBlock). x.sum) e.run) == (nth_block (take n rest) 0).block) (nat_lt (length (map (λ (x : NewBlock). x.sum) e.run)) MAX_EXTENT_BLOCKS) refl refl refl,
        )
          where
            many : length (map (λ (x : NewBlock). x.sum) e.run) ≡ length e.run
            many = length-map e.run (λ (x : NewBlock). x.sum)

            no_join : (f d l : Bool) → ((nth_block e.run 0).index + length e.run == (nth_block (take n rest) 0).index) ≡ f
                → ((nth_block e.run 0).block + length (map (λ (x : NewBlock). x.sum) e.run) == (nth_block (take n rest) 0).block) ≡ d
                → nat_lt (length (map (λ (x : NewBlock). x.sum) e.run)) MAX_EXTENT_BLOCKS ≡ l → ((f && d) && l) ≡ false
            no_join true true true u v w =
                let file = eqb-true ((nth_block e.run 0).index + length e.run) (nth_block (take n rest) 0).index u in
                let device = eqb-true ((nth_block e.run 0).block + length (map (λ (x : NewBlock). x.sum) e.run)) (nth_block (take n rest) 0).block v in
                let few : length (map (λ (x : NewBlock). x.sum) e.run) < MAX_EXTENT_BLOCKS = ltb-true (length (map (λ (x : NewBlock). x.sum) e.run)) MAX_EXTENT_BLOCKS w in
                absurd (e.apart (omega (arith, h.some, h.within)) (omega (arith, few, many)) (omega (arith, file, i)) (omega (arith, device, b, many)))
            no_join true true false u v w = refl
            no_join true false l u v w = refl
            no_join false d l u v w = refl

    pub extents_more : ExtentsSoFar at blocks (drop n rest) (items ++ run_item at (take n rest) ∷ [])
    extents_more = record {
      least = (nth_block rest 0).index + n;
      last = Some (run_item at (take n rest));
      rising = rising_behind s.least rest n s.rising h.some h.within (λ k lt. (h.run k lt).0);
      before = record {
        run = take n rest;
        is = refl;
        good = good;
        ends = let i : (nth_block (take n rest) 0).index ≡ (nth_block rest 0).index = ap (λ (x : NewBlock). x.index) first in omega (arith, i, count);
        apart = λ more few file device.
            let next : nth_block (drop n rest) 0 ≡ nth_block rest (n + 0) = get_or-drop n rest 0 no_block in
            let here : n + 0 ≡ n = omega arith in
            let left : length (drop n rest) ≡ length rest - n = length-drop n rest in
            let same : nth_block (drop n rest) 0 ≡ nth_block rest n = next ∙ ap (nth_block rest) here in
            h.longest (omega (arith, few, count)) (omega (arith, more, left)) (
              sym (ap (λ (x : NewBlock). x.index) same) ∙ file ∙ (λ j. (first j).index + count j),
              sym (ap (λ (x : NewBlock). x.block) same) ∙ device ∙ (λ j. (first j).block + count j),
            );
      };
      chain = λ ys c. subst (GoOn are_one_extent None) (sym (append_assoc items (run_item at (take n rest) ∷ []) ys)) (s.chain (run_item at (take n rest) ∷ ys) (good, follows, c));
      said = λ p.
          ap (λ o. or_older o (said_of at (drop n rest) p)) (says_append items (run_item at (take n rest) ∷ []) p)
          ∙ older_assoc (says items p) (says (run_item at (take n rest) ∷ []) p) (said_of at (drop n rest) p)
          ∙ ap (λ o. or_older (says items p) (or_older o (said_of at (drop n rest) p))) (says_it p)
          ∙ ap (or_older (says items p)) (sym (said_split at rest n p))
          ∙ s.said p;
    }

-- the same as the loop has it
pub extents_step : (at : LockKey) (blocks rest run after : List NewBlock) (n : ℕ) (old new : List Item) (x : Item) → IsLongestRun rest n
    → run ≡ take n rest → after ≡ drop n rest → new ≡ old ++ x ∷ [] → item_of x ≡ run_item at run → IsItem (run_item at run)
    → ExtentsSoFar at blocks rest (items_of old) → ExtentsSoFar at blocks after (items_of new)
extents_step at blocks rest run after n old new x h front back pushed is good s =
    let more = extents_more at rest n h blocks (items_of old) (subst (λ r. IsItem (run_item at r)) front good) s in
    let items : items_of old ++ run_item at (take n rest) ∷ [] ≡ items_of new =
    (λ j. items_of old ++ sym (is ∙ ap (run_item at) front) j ∷ []) ∙ sym (map-append item_of old (x ∷ [])) ∙ ap items_of (sym pushed) in
    subst (λ r. ExtentsSoFar at blocks r (items_of new)) (sym back) (subst (ExtentsSoFar at blocks (drop n rest)) items more)

pub extents_fit : (at : LockKey) (blocks rest run : List NewBlock) (n : ℕ) (items : List PlainItem) → IsLongestRun rest n → run ≡ take n rest → ExtentsSoFar at blocks rest items
    → ((nth_block run 0).index + length run ≤ MAX_FILE_BLOCKS) × ((nth_block run 0).block + length run ≤ MAX_DEVICE_BLOCKS)
extents_fit at blocks rest run n items h front s =
    subst (λ r. ((nth_block r 0).index + length r ≤ MAX_FILE_BLOCKS) × ((nth_block r 0).block + length r ≤ MAX_DEVICE_BLOCKS)) (sym front) (run_fits at rest n h s.least s.rising)
