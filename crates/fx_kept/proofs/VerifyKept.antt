-- The number that an image keeps is the one that is found from the items of the records alone.
use Rattle.std.proofs.Common.{◌≡◌, ℕ, zero, suc, ◌+◌, ◌-◌, ◌<◌, ◌≤◌, Bool, true, false, if◌then◌else◌, List, [], ◌∷◌, map, take, refl, sym, ap, subst, ◌∙◌, arith, ◌⊎◌, inl, inr, Option, Some, None, IsSome}
use Rattle.std.specs.Prelude.{nat_le, slice_get}
use Rattle.std.specs.List.{Contains, fold}
use Rattle.std.proofs.lemmas.List.{length-map}
use Rattle.std.proofs.lemmas.Bool.{le-leb}
use Rattle.std.proofs.lemmas.Bool.Decides.{leb_tells}
use Rattle.fx_item.specs.Item.{PlainItem}
use Rattle.fx_verify.specs.Kept.{written_by, is_freed_by, after_items, live_sum, Passes, IsKeptNumber}
use Rattle.fx_uses.specs.Live.{Txn, txn_of, AreNumbered, IsPut, put_in, put_over, after_txn, live_from}
use Rattle.fx_kept.specs.Kept.{IsTested, PassesAt, IsKeptUpTo}
use Rattle.fx_uses.proofs.LiveOverLists.{live_beyond, numbered_least, stated_over}

-- ---- what was there before the first transaction that wrote a block does not matter

some_put : (o p q : Option ℕ) → IsSome o → put_over o p ≡ put_over o q
some_put None p q some = absurd (cc)
some_put (Some x) p q some = refl

put_first : (t : Txn) (ts : List Txn) (n b : ℕ) → IsPut ts n b → IsPut (t ∷ ts) n b
put_first t ts n b p = record { at = suc p.at; txn = p.txn; got = p.got; number = p.number; written = p.written }

tested_first : (t : Txn) (ts : List Txn) (k b : ℕ) → IsTested ts k b → IsTested (t ∷ ts) k b
tested_first t ts k b x = record { number = x.number; most = x.most; put = put_first t ts x.number b x.put }

pub written_hides : (b k : ℕ) (ts : List Txn) (old other : Option ℕ) → (i : ℕ) (u : Txn) → slice_get ts i ≡ Some u → u.number ≤ k → IsSome (put_in b u.puts) → live_from b k ts old ≡ live_from b k ts other
written_hides b k [] old other i u got le some = let z : None ≡ Some u = got in absurd (cc)
written_hides b k (t ∷ ts) old other zero u got le some =
    let same : t ≡ u = cc in
    let up : nat_le t.number k ≡ true = le-leb t.number k (subst (λ (v : Txn). v.number ≤ k) (sym same) le) in
    ap (λ (c : Bool). live_from b k ts (if c then after_txn b t old else old)) up
    ∙ ap (live_from b k ts) (some_put (put_in b t.puts) (if t.frees b then None else old) (if t.frees b then None else other) (subst (λ (v : Txn). IsSome (put_in b v.puts)) (sym same) some))
    ∙ sym (ap (λ (c : Bool). live_from b k ts (if c then after_txn b t other else other)) up)
written_hides b k (t ∷ ts) old other (suc i) u got le some = written_hides b k ts (if nat_le t.number k then after_txn b t old else old) (if nat_le t.number k then after_txn b t other else other) i u got le some

-- what is live after them was written by one of them, or was there
pub live_written : (b k : ℕ) (ts : List Txn) (old : Option ℕ) (x : ℕ) → live_from b k ts old ≡ Some x → IsTested ts k b ⊎ (old ≡ Some x)
live_written b k [] old x e = inr e
live_written b k (t ∷ ts) old x e = elim (live_written b k ts (if nat_le t.number k then after_txn b t old else old) x e) [
  | inl tested ↦ inl (tested_first t ts k b tested)
  | inr here ↦ elim (leb_tells t.number k) [
    | inl up ↦ by_put (put_in b t.puts) refl (t.frees b) (sym (ap (λ (c : Bool). if c then after_txn b t old else old) up.0) ∙ here) up.1
    | inr beyond ↦ inr (sym (ap (λ (c : Bool). if c then after_txn b t old else old) beyond.0) ∙ here)
  ]
]
  where
    by_put : (o : Option ℕ) → put_in b t.puts ≡ o → (f : Bool) → put_over o (if f then None else old) ≡ Some x → t.number ≤ k → IsTested (t ∷ ts) k b ⊎ (old ≡ Some x)
    by_put (Some y) q f here le = inl (record { number = t.number; most = le; put = record { at = 0; txn = t; got = refl; number = refl; written = subst IsSome (sym q) refl } })
    by_put None q true here le = let z : None ≡ Some x = here in absurd (cc)
    by_put None q false here le = inr here

-- ---- the fold over items

cut_live : (b base n : ℕ) (ts : List (ℕ × List PlainItem)) (old : Option ℕ) → AreNumbered base (map txn_of ts) → live_from b (base + n) (map txn_of ts) old ≡ fold (λ old t. after_items b old t.1) old (take n ts)
cut_live b base zero ts old h = live_beyond b (base + 0) (map txn_of ts) old (λ i t got. let lt : base < t.number = numbered_least base (map txn_of ts) h i t got in omega (arith, lt)) ∙ nothing ts
  where
    nothing : (ts : List (ℕ × List PlainItem)) → old ≡ fold (λ old t. after_items b old t.1) old (take zero ts)
    nothing [] = refl
    nothing (t ∷ ts) = refl
cut_live b base (suc n) [] old h = refl
cut_live b base (suc n) (t ∷ ts) old h =
    let first : t.0 ≡ base + 0 + 1 = h.each 0 (txn_of t) refl in
    let rest : AreNumbered (base + 1) (map txn_of ts) = record { each = λ i u got. let e : u.number ≡ base + suc i + 1 = h.each (suc i) u got in omega (arith, e) } in
    let number : base + suc n ≡ base + 1 + n = omega arith in
    ap (λ (c : Bool). live_from b (base + suc n) (map txn_of ts) (if c then after_txn b (txn_of t) old else old)) (le-leb t.0 (base + suc n) (omega (arith, first)))
    ∙ ap (live_from b (base + suc n) (map txn_of ts)) (sym (stated_over b (written_by t.1) (if is_freed_by t.1 b then None else old)))
    ∙ ap (λ (m : ℕ). live_from b m (map txn_of ts) (after_items b old t.1)) number
    ∙ cut_live b (base + 1) n ts (after_items b old t.1) rest

module _ (base : ℕ) (first : ℕ → Option ℕ) (ts : List (ℕ × List PlainItem)) (listed : List (ℕ × ℕ)) (found : ℕ → Option ℕ) (numbered : AreNumbered base (map txn_of ts)) where
  sum_live : (b k : ℕ) → base ≤ k → live_from b k (map txn_of ts) None ≡ live_sum (take (k - base) ts) b
  sum_live b k ge =
      let e : k ≡ base + (k - base) = omega (arith, ge) in
      ap (λ (m : ℕ). live_from b m (map txn_of ts) None) e ∙ cut_live b base (k - base) ts None numbered

  passes_items : ((b x : ℕ) → Contains listed (b, x) → found b ≡ Some x) → (k : ℕ) → base ≤ k → Passes (take (k - base) ts) listed → PassesAt found first (map txn_of ts) k
  passes_items has k ge passes b x live tested =
      let alone : live_from b k (map txn_of ts) (first b) ≡ live_from b k (map txn_of ts) None = written_hides b k (map txn_of ts) (first b) None tested.put.at tested.put.txn tested.put.got (omega (arith, tested.put.number, tested.most)) tested.put.written in
      has b x (passes b x (sym (sum_live b k ge) ∙ sym alone ∙ live))

  items_pass : ((b x : ℕ) → found b ≡ Some x → Contains listed (b, x)) → (k : ℕ) → base ≤ k → PassesAt found first (map txn_of ts) k → Passes (take (k - base) ts) listed
  items_pass has k ge passes b x live =
      let here : live_from b k (map txn_of ts) None ≡ Some x = sum_live b k ge ∙ live in
      elim (live_written b k (map txn_of ts) None x here) [
        | inl tested ↦
            let alone : live_from b k (map txn_of ts) (first b) ≡ live_from b k (map txn_of ts) None = written_hides b k (map txn_of ts) (first b) None tested.put.at tested.put.txn tested.put.got (omega (arith, tested.put.number, tested.most)) tested.put.written in
            has b x (passes b x (alone ∙ here) tested)
        | inr none ↦ let z : None ≡ Some x = none in absurd (cc)
      ]

  pub kept_of_items : ((b x : ℕ) → Contains listed (b, x) → found b ≡ Some x) → ((b x : ℕ) → found b ≡ Some x → Contains listed (b, x)) → (k : ℕ) → IsKeptNumber base ts listed k → IsKeptUpTo found base first (map txn_of ts) k
  kept_of_items there back k kept = record {
    least = kept.least;
    most = omega (arith, kept.most, length-map ts txn_of);
    passes = passes_items there k kept.least kept.passes;
    greatest = λ j lt le passes. kept.greatest j lt (omega (arith, le, length-map ts txn_of)) (items_pass back j (omega (arith, kept.least, lt)) passes);
  }

  pub items_of_kept : ((b x : ℕ) → Contains listed (b, x) → found b ≡ Some x) → ((b x : ℕ) → found b ≡ Some x → Contains listed (b, x)) → (k : ℕ) → IsKeptUpTo found base first (map txn_of ts) k → IsKeptNumber base ts listed k
  items_of_kept there back k kept = record {
    least = kept.least;
    most = omega (arith, kept.most, length-map ts txn_of);
    passes = items_pass back k kept.least kept.passes;
    greatest = λ j lt le passes. kept.greatest j lt (omega (arith, le, length-map ts txn_of)) (passes_items there j (omega (arith, kept.least, lt)) passes);
  }
