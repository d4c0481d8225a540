-- The runs of a node's blocks, found one after another.
use Rattle.std.proofs.Common.{◌≡◌, ◌≢◌, ◌⊎◌, inl, inr, ℕ, ◌+◌, ◌-◌, ◌<◌, ◌≤◌, ◌++◌, List, [], ◌∷◌, length, max, refl, sym, ap, subst, ◌∙◌, arith, Bool, true, false, cond}
use Rattle.std.specs.Prelude.{Option, Some, None, is_some, not, slice_get, ◌==◌, ◌&&◌}
use Rattle.std.proofs.lemmas.Bool.{cases_lt, eqb-true, eq-eqb, and_parts}
use Rattle.std.proofs.lemmas.Option.{slice_get_within}
use Rattle.fx_base.proofs.Lists.{got_kept, got_last, got_split}
use Rattle.fx_item.specs.Item.{PlainKey, ObjectKey, AttributeKey, ExtentKey, ChildKey, GraveKey, AllocationKey, PlainItem, PlainValue, IsKey, Suits}
use Rattle.fx_item.specs.Item.{GoneValue, DirectoryValue, FileValue, AttributeValue, ChildValue, WaitingValue, ExtentValue, TakenValue}
use Rattle.fx_item.specs.Look.{IsFirstLive, is_gone}
use Rattle.fx_item.specs.Overlay.{AtFileBlock, Said, covers, entry_in, live_in}
use Rattle.fx_item.specs.Place.{Upto, Below, begins, ends, file_place}
use Rattle.fx_item.proofs.Between.{numbers_below, numbers_file}
use Rattle.fx_item.proofs.Covered.{file_upto, lies_covers}
use Rattle.fx_item.proofs.PlaceOrder.{either}
use Rattle.fx_namespace.specs.Nodes.{NodeId}
use Rattle.fx_contents.specs.Points.{Points, block_in, device_block}
use Rattle.fx_node.specs.Held.{AreFirstRuns, IsHole, IsInRun, IsNextRun, IsRunOf, extent_run, run_under}
use Rattle.fx_node.specs.declared.holding.BlockRun.{BlockRun}
use Rattle.fx_node.proofs.Near.{near, told_by}

-- ---- the first run, by the first item

pub file_below : (s i a b : ℕ) → a < b → Below (file_place s i a) (file_place s i b)
file_below s i a b h = numbers_below (file_place s i a) (file_place s i b) (record { tree = refl; store = refl; id = refl; kind = refl }) h

module _ (said : Said) (at : NodeId) (from : ℕ) (x : PlainItem) (f : IsFirstLive said (file_place at.store at.id from) x) where
  -- a place from there on at which something stands lies behind where the item begins
  hole_or_up : (n : ℕ) → from ≤ n → IsHole (live_in said) at n ⊎ Upto (begins x.key) (file_place at.store at.id n)
  hole_or_up n le = elim (either (begins x.key) (file_place at.store at.id n)) [
    | inl a ↦ inr a
    | inr a ↦ inl (f.first (AtFileBlock at.store at.id n) (file_upto at.store at.id from n le) a)
  ]

  no_run : ((a b : ℕ) → x.key ≢ ExtentKey at.store at.id a b) → IsNextRun (live_in said) at from None
  no_run other n le = elim (hole_or_up n le) [ inl a ↦ a | inr u ↦ absurd (is_one x.key refl f.reaches u) ]
    where
      is_one : (k : PlainKey) → x.key ≡ k → Below (file_place at.store at.id from) (ends k) → Upto (begins k) (file_place at.store at.id n) → ⊥
      is_one (ObjectKey s i) e r u = let n = near (ObjectKey s i) (file_place at.store at.id from) (file_place at.store at.id n) refl refl refl refl r u in omega (arith, n.kind)
      is_one (AttributeKey s i name) e r u = let n = near (AttributeKey s i name) (file_place at.store at.id from) (file_place at.store at.id n) refl refl refl refl r u in omega (arith, n.kind)
      is_one (ExtentKey s i a b) e r u =
          let n = near (ExtentKey s i a b) (file_place at.store at.id from) (file_place at.store at.id n) refl refl refl refl r u in
          other a b (e ∙ ap (λ z. ExtentKey z i a b) n.store ∙ ap (λ z. ExtentKey at.store z a b) n.id)
      is_one (ChildKey s i name) e r u = let n = near (ChildKey s i name) (file_place at.store at.id from) (file_place at.store at.id n) refl refl refl refl r u in omega (arith, n.kind)
      is_one (GraveKey s i) e r u = let n = near (GraveKey s i) (file_place at.store at.id from) (file_place at.store at.id n) refl refl refl refl r u in omega (arith, n.kind)
      is_one (AllocationKey a b) e r u = let n = near (AllocationKey a b) (file_place at.store at.id from) (file_place at.store at.id n) refl refl refl refl r u in omega (arith, n.tree)

  module _ (start stop block : ℕ) (sums : List ℕ) (e : x.key ≡ ExtentKey at.store at.id start stop) (v : x.value ≡ ExtentValue block sums) where
    good_key : IsKey (ExtentKey at.store at.id start stop)
    good_key = subst IsKey e f.good.key

    suits : Suits (ExtentKey at.store at.id start stop) (ExtentValue block sums)
    suits = subst (λ z. Suits (ExtentKey at.store at.id start stop) z) v (subst (λ k. Suits k x.value) e f.good.value)

    past : from < stop
    past = numbers_file (file_place at.store at.id from) at.store at.id stop (record { tree = refl; store = refl; id = refl; kind = refl }) (subst (λ k. Below (file_place at.store at.id from) (ends k)) e f.reaches)

    held : (n : ℕ) → max start from ≤ n → n < stop → device_block (live_in said) at n ≡ Some (block + (n - start))
    held n low high =
        let a : start ≤ n = omega (arith, low) in
        let b : from ≤ n = omega (arith, low) in
        let c : covers (ExtentKey at.store at.id start stop) (AtFileBlock at.store at.id n) ≡ true
        = lies_covers (ExtentKey at.store at.id start stop) (AtFileBlock at.store at.id n) (file_upto at.store at.id start n a) (file_below at.store at.id n stop high) in
        ap block_in (f.stands (AtFileBlock at.store at.id n) (file_upto at.store at.id from n b) (subst (λ k. covers k (AtFileBlock at.store at.id n) ≡ true) (sym e) c)
        ∙ ap (λ k. entry_in k x.value (AtFileBlock at.store at.id n)) e ∙ ap (λ z. entry_in (ExtentKey at.store at.id start stop) z (AtFileBlock at.store at.id n)) v)

    before : (n : ℕ) → from ≤ n → n < max start from → IsHole (live_in said) at n
    before n le less =
        let h : n < start = omega (arith, le, less) in
        f.first (AtFileBlock at.store at.id n) (file_upto at.store at.id from n le) (subst (λ k. Below (file_place at.store at.id n) (begins k)) (sym e) (file_below at.store at.id n start h))

    shifted : (n : ℕ) → max start from ≤ n → block + (n - start) ≡ block + (max start from - start) + (n - max start from)
    shifted n low = omega (arith, low)

    is_run : IsNextRun (live_in said) at from (Some (record { start = max start from; end = stop; block = block + (max start from - start) }))
    is_run = (
      record {
        some = omega (arith, past, good_key.2.0);
        most = good_key.2.1;
        few = omega (arith, suits.count, suits.most);
        inside = omega (arith, suits.count, suits.inside, past, good_key.2.0);
        held = λ n low high. held n low high ∙ ap Some (shifted n low);
      },
      omega arith,
      before,
    )

  by_test : (s i start stop block : ℕ) (sums : List ℕ) (b : Bool) → x.key ≡ ExtentKey s i start stop → x.value ≡ ExtentValue block sums → (s == at.store && i == at.id) ≡ b
      → IsNextRun (live_in said) at from (cond b (Some (record { start = max start from; end = stop; block = block + (max start from - start) })) None)
  by_test s i start stop block sums true e v t =
      let p = and_parts (s == at.store) (i == at.id) t in
      is_run start stop block sums (e ∙ ap (λ z. ExtentKey z i start stop) (eqb-true s at.store p.0) ∙ ap (λ z. ExtentKey at.store z start stop) (eqb-true i at.id p.1)) v
  by_test s i start stop block sums false e v t = no_run (λ a b q. differs s i t (cc (sym e ∙ q)) (cc (sym e ∙ q)))
    where
      same : (at.store == at.store && at.id == at.id) ≡ true
      same = ap (λ z. z && at.id == at.id) (eq-eqb at.store at.store refl) ∙ eq-eqb at.id at.id refl

      differs : (s i : ℕ) → (s == at.store && i == at.id) ≡ false → s ≡ at.store → i ≡ at.id → ⊥
      differs s i t a b = cc (sym t ∙ ap (λ z. z == at.store && i == at.id) a ∙ ap (λ z. at.store == at.store && z == at.id) b ∙ same)

  by_value : (s i start stop : ℕ) (v : PlainValue) → x.key ≡ ExtentKey s i start stop → x.value ≡ v → Suits (ExtentKey s i start stop) v → is_gone v ≡ false
      → IsNextRun (live_in said) at from (run_under at from (ExtentKey s i start stop) v)
  by_value s i start stop (ExtentValue block sums) e v u a = by_test s i start stop block sums (s == at.store && i == at.id) e v refl
  by_value s i start stop GoneValue e v u a = absurd (cc a)
  by_value s i start stop DirectoryValue e v u a = absurd u
  by_value s i start stop (FileValue len) e v u a = absurd u
  by_value s i start stop (AttributeValue text) e v u a = absurd u
  by_value s i start stop (ChildValue t j) e v u a = absurd u
  by_value s i start stop WaitingValue e v u a = absurd u
  by_value s i start stop TakenValue e v u a = absurd u

  by_key : (k : PlainKey) → x.key ≡ k → IsNextRun (live_in said) at from (run_under at from k x.value)
  by_key (ObjectKey s i) e = no_run (λ a b q. cc (sym e ∙ q))
  by_key (AttributeKey s i name) e = no_run (λ a b q. cc (sym e ∙ q))
  by_key (ExtentKey s i start stop) e = by_value s i start stop x.value e refl (subst (λ k. Suits k x.value) e f.good.value) f.alive
  by_key (ChildKey s i name) e = no_run (λ a b q. cc (sym e ∙ q))
  by_key (GraveKey s i) e = no_run (λ a b q. cc (sym e ∙ q))
  by_key (AllocationKey start stop) e = no_run (λ a b q. cc (sym e ∙ q))

  pub next_run_found : IsNextRun (live_in said) at from (extent_run at from x)
  next_run_found = by_key x.key refl

-- ---- the runs so far

-- the runs of all places before a place
pub record AreRunsBefore (m : Points) (at : NodeId) (from : ℕ) (runs : List BlockRun) : Type 0 where
  pub there : (i : ℕ) (run : BlockRun) → slice_get runs i ≡ Some run → IsRunOf m at run
  pub all : (n : ℕ) → n < from → IsHole m at n ⊎ IsInRun runs n
  pub below : (i : ℕ) (run : BlockRun) → slice_get runs i ≡ Some run → run.end ≤ from
  pub apart : (i j : ℕ) (x y : BlockRun) → i < j → slice_get runs i ≡ Some x → slice_get runs j ≡ Some y → x.end ≤ y.start

pub no_runs_before : (m : Points) (at : NodeId) → AreRunsBefore m at 0 []
no_runs_before m at = record {
  there = λ i run g. absurd (cc g);
  all = λ n l. absurd (omega (arith, l));
  below = λ i run g. absurd (cc g);
  apart = λ i j x y l g h. absurd (cc g);
}

module _ {m : Points} {at : NodeId} {from : ℕ} {runs : List BlockRun} (b : AreRunsBefore m at from runs) where
  module _ (run : BlockRun) (f : IsNextRun m at from (Some run)) where
    among : (n : ℕ) → n < run.end → IsHole m at n ⊎ IsInRun (runs ++ run ∷ []) n
    among n l = elim (cases_lt n from) [
      | inl a ↦ elim (b.all n a) [ inl h ↦ inl h | inr r ↦ inr (r.0, r.1, got_kept runs run r.0 r.1 r.2, r.3, r.4) ]
      | inr a ↦ elim (cases_lt n run.start) [ inl h ↦ inl (f.2 n a h) | inr h ↦ inr (length runs, run, got_last runs run, h, l) ]
    ]

    one_run : AreRunsBefore m at run.end (runs ++ run ∷ [])
    one_run = record {
      there = λ i x g. elim (got_split runs run i x g) [ inl a ↦ b.there i x a | inr a ↦ subst (IsRunOf m at) a.1 f.0 ];
      all = among;
      below = λ i x g. elim (got_split runs run i x g) [
        | inl a ↦ omega (arith, b.below i x a, f.1, f.0.some)
        | inr a ↦ subst (λ (z : BlockRun). z.end ≤ run.end) a.1 (omega arith)
      ];
      apart = λ i j x y l g h. elim (got_split runs run j y h) [
        | inl c ↦ elim (got_split runs run i x g) [ inl a ↦ b.apart i j x y l a c | inr a ↦ absurd (omega (arith, a.0, slice_get_within runs j y c, l)) ]
        | inr c ↦ elim (got_split runs run i x g) [
          | inl a ↦ subst (λ (z : BlockRun). x.end ≤ z.start) c.1 (omega (arith, b.below i x a, f.1))
          | inr a ↦ absurd (omega (arith, a.0, c.0, l))
        ]
      ];
    }

-- ---- one step of the loop, and its ends

module _ {m : Points} {at : NodeId} {from : ℕ} {runs : List BlockRun} (b : AreRunsBefore m at from runs) (found : Option BlockRun) (f : IsNextRun m at from found) where
  pub run_step : (run : BlockRun) (more : List BlockRun) → found ≡ Some run → more ≡ runs ++ run ∷ [] → AreRunsBefore m at run.end more
  run_step run more is same = subst (AreRunsBefore m at run.end) (sym same) (one_run b run (subst (IsNextRun m at from) is f))

  pub runs_all : (most : ℕ) → length runs ≤ most → found ≡ None → AreFirstRuns m at most runs true
  runs_all most few is =
      let none : IsNextRun m at from None = subst (IsNextRun m at from) is f in
      record {
        there = b.there;
        apart = b.apart;
        few = few;
        every = λ q n. elim (cases_lt n from) [ inl a ↦ b.all n a | inr a ↦ inl (none n a) ];
        full = λ q. absurd (cc q);
        left = λ q. absurd (cc q);
      }

  pub runs_end : (most : ℕ) (all : Bool) → length runs ≡ most → is_some found ≡ not all → AreFirstRuns m at most runs all
  runs_end most all full e = by found refl
    where
      by : (o : Option BlockRun) → found ≡ o → AreFirstRuns m at most runs all
      by None is = subst (AreFirstRuns m at most runs) (sym (told_by false all (sym (ap is_some is) ∙ e))) (runs_all most (omega (arith, full)) is)
      by (Some run) is =
          let g : IsNextRun m at from (Some run) = subst (IsNextRun m at from) is f in
          subst (AreFirstRuns m at most runs) (sym (told_by true all (sym (ap is_some is) ∙ e))) (record {
            there = b.there;
            apart = b.apart;
            few = omega (arith, full);
            every = λ q. absurd (cc q);
            full = λ q. full;
            left = λ q. (
              run.start,
              run.block + (run.start - run.start),
              g.0.held run.start (omega arith) g.0.some,
              λ r. absurd (omega (arith, r.4, b.below r.0 r.1 r.2, g.1)),
            );
          })
