-- What the images left now hold, from the uses and the cells.
use Rattle.std.proofs.Common.{◌≡◌, ℕ, zero, suc, ◌+◌, ◌<◌, ◌≤◌, Bool, true, false, if◌then◌else◌, List, [], ◌∷◌, ◌++◌, length, refl, sym, ap, subst, ◌∙◌, arith, length-append, ◌⊎◌, inl, inr, Option, Some, None}
use Rattle.std.specs.Prelude.{nat_le, nat_lt, slice_get}
use Rattle.std.proofs.lemmas.Bool.{cases_lt, cases_Bool, and_from, le-leb, lt-ltb}
use Rattle.std.proofs.lemmas.Bool.Decides.{leb_tells}
use Rattle.fx_disk.specs.Record.{DiskRecord, LeftNow, cell_now}
use Rattle.fx_uses.specs.Live.{Txn, AreNumbered, IsPut, live_from, live_after}
use Rattle.fx_uses.specs.Uses.{Use, Live, Freed, Layer, Coming, BlockUses, IsOurs, AreUses, CellsHold, last, live_by_use, since_of, Want, Firm, wanted, HasWanted, IsGood, bytes_now, image_block}
use Rattle.fx_kept.specs.Kept.{PassesAt, IsKeptUpTo, HasTrueBlocks, IsStretch, HasContents, sum_found}
use Rattle.fx_uses.proofs.LiveOverLists.{live_append, live_beyond, live_reached, numbered_most, numbered_least, numbered_front, numbered_rest, put_more, put_after}
use Rattle.fx_uses.proofs.UseOverEvent.{ours_since}

-- what a use shows was written by a transaction up to the number
pub record IsShown (k : ℕ) (u : Use) (here x : ℕ) : Type 0 where
  pub since : ℕ
  pub since_is : since_of u ≡ Some since
  pub wants : wanted u ≡ Firm since
  pub most : since ≤ k
  pub same : here ≡ x

pub shown_some : (k : ℕ) (u : Use) (here x : ℕ) → live_by_use k u here ≡ Some x → IsShown k u here x
shown_some k (Live j) here x e = elim (leb_tells j k) [
  | inl up ↦ let q : Some here ≡ Some x = sym (ap (λ (t : Bool). if t then Some here else None) up.0) ∙ e in record { since = j; since_is = refl; wants = refl; most = up.1; same = cc }
  | inr beyond ↦ let q : None ≡ Some x = sym (ap (λ (t : Bool). if t then Some here else None) beyond.0) ∙ e in absurd (cc)
]
shown_some k (Freed j m) here x e = elim (leb_tells j k) [
  | inl up ↦ let q : (if nat_le m k then None else Some here) ≡ Some x = sym (ap (λ (t : Bool). if t then (if nat_le m k then None else Some here) else None) up.0) ∙ e in
      elim (leb_tells m k) [
        | inl gone ↦ let z : None ≡ Some x = sym (ap (λ (t : Bool). if t then None else Some here) gone.0) ∙ q in absurd (cc)
        | inr still ↦ let z : Some here ≡ Some x = sym (ap (λ (t : Bool). if t then None else Some here) still.0) ∙ q in record { since = j; since_is = refl; wants = refl; most = up.1; same = cc }
      ]
  | inr beyond ↦ let q : None ≡ Some x = sym (ap (λ (t : Bool). if t then (if nat_le m k then None else Some here) else None) beyond.0) ∙ e in absurd (cc)
]
shown_some k u here x e = absurd (cc)

got_either : {X : Type 0} (xs ys : List X) (i : ℕ) (x : X) → slice_get (xs ++ ys) i ≡ Some x → (slice_get xs i ≡ Some x) ⊎ ((j : ℕ) × (slice_get ys j ≡ Some x))
got_either [] ys i x e = inr (i, e)
got_either (y ∷ xs) ys zero x e = inl e
got_either (y ∷ xs) ys (suc i) x e = got_either xs ys i x e

module _ (s : BlockUses) (base : ℕ) (first : ℕ → Option ℕ) (stream : List Txn) (h : AreUses s) (cut : IsStretch s base first stream) where
  all_numbered : AreNumbered s.base (cut.before ++ (stream ++ cut.after))
  all_numbered = subst (λ (ts : List Txn). AreNumbered s.base ts) cut.joined h.numbered

  before_numbered : AreNumbered s.base cut.before
  before_numbered = numbered_front s.base cut.before (stream ++ cut.after) all_numbered

  rest_numbered : AreNumbered base (stream ++ cut.after)
  rest_numbered = subst (λ (n : ℕ). AreNumbered n (stream ++ cut.after)) (sym cut.base_is) (numbered_rest s.base cut.before (stream ++ cut.after) all_numbered)

  pub stream_numbered : AreNumbered base stream
  stream_numbered = numbered_front base stream cut.after rest_numbered

  after_numbered : AreNumbered (base + length stream) cut.after
  after_numbered = numbered_rest base stream cut.after rest_numbered

  pub stretch_within : base + length stream ≤ last s
  stretch_within = omega (arith, cut.base_is, ap length cut.joined, length-append cut.before (stream ++ cut.after), length-append stream cut.after)

  pieces : (k b : ℕ) → live_after s.first s.txns k b ≡ live_from b k cut.after (live_from b k stream (live_from b k cut.before (s.first b)))
  pieces k b = ap (λ (ts : List Txn). live_from b k ts (s.first b)) cut.joined
      ∙ live_append b k cut.before (stream ++ cut.after) (s.first b)
      ∙ live_append b k stream cut.after (live_from b k cut.before (s.first b))

  first_live : (b : ℕ) → first b ≡ live_from b base cut.before (s.first b)
  first_live b = cut.first_is b ∙ pieces base b
      ∙ live_beyond b base cut.after (live_from b base stream (live_from b base cut.before (s.first b))) (λ i t got. let lt : base + length stream < t.number = numbered_least (base + length stream) cut.after after_numbered i t got in omega (arith, lt))
      ∙ live_beyond b base stream (live_from b base cut.before (s.first b)) (numbered_least base stream stream_numbered)

  -- what the superblock and the stream show is what all transactions show
  pub live_stretch : (k b : ℕ) → base ≤ k → k ≤ base + length stream → live_after first stream k b ≡ live_after s.first s.txns k b
  live_stretch k b ge le =
      ap (live_from b k stream) (first_live b ∙ live_reached b base k cut.before (s.first b) (λ i t got. let most : t.number ≤ s.base + length cut.before = numbered_most s.base cut.before before_numbered i t got in (omega (arith, most, cut.base_is), omega (arith, most, cut.base_is, ge))))
      ∙ sym (live_beyond b k cut.after (live_from b k stream (live_from b k cut.before (s.first b))) (λ i t got. let lt : base + length stream < t.number = numbered_least (base + length stream) cut.after after_numbered i t got in omega (arith, lt, le)))
      ∙ sym (pieces k b)

  -- what a transaction of these numbers wrote, one of the stream wrote
  pub put_stretch : (n b : ℕ) → IsPut s.txns n b → base < n → n ≤ base + length stream → IsPut stream n b
  put_stretch n b p lt le = elim (got_either cut.before (stream ++ cut.after) p.at p.txn (subst (λ (ts : List Txn). slice_get ts p.at ≡ Some p.txn) cut.joined p.got)) [
    | inl early ↦ let most : p.txn.number ≤ s.base + length cut.before = numbered_most s.base cut.before before_numbered p.at p.txn early in absurd (omega (arith, most, cut.base_is, p.number, lt))
    | inr rest ↦ elim (got_either stream cut.after rest.0 p.txn rest.1) [
      | inl here ↦ record { at = rest.0; txn = p.txn; got = here; number = p.number; written = p.written }
      | inr late ↦ let least : base + length stream < p.txn.number = numbered_least (base + length stream) cut.after after_numbered late.0 p.txn late.1 in absurd (omega (arith, least, p.number, le))
    ]
  ]

  pub put_stream : (n b : ℕ) → IsPut stream n b → IsPut s.txns n b
  put_stream n b p = subst (λ (ts : List Txn). IsPut ts n b) (sym cut.joined) (put_after cut.before (stream ++ cut.after) n b (put_more stream cut.after n b p))

-- ---- where data can lie

-- a block that a transaction wrote lies past superblocks and ring
data_above : (s : BlockUses) → AreUses s → (b since : ℕ) → since_of (s.uses b) ≡ Some since → s.first_data ≤ b
data_above s h b since e = elim (cases_lt b s.first_data) [
  | inl below ↦ let q : None ≡ Some since = sym (ap since_of (h.system b below)) ∙ e in absurd (cc)
  | inr above ↦ above
]

found_above : (sum : List ℕ → ℕ) (first_data : ℕ) (image : List (List ℕ)) (b : ℕ) → first_data ≤ b → b < length image → sum_found sum first_data image b ≡ Some (sum (image_block image b))
found_above sum first_data image b above within =
    ap (λ (t : Bool). if t then Some (sum (image_block image b)) else None) (and_from (nat_le first_data b) (nat_lt b (length image)) (le-leb first_data b above) (lt-ltb b (length image) within))

-- ---- an image left now

module _ (sum : List ℕ → ℕ) (s : BlockUses) (r : DiskRecord) (image : List (List ℕ)) (held : CellsHold sum s r) (left : LeftNow r image) where
  has_as : (b : ℕ) (w : Want) → wanted (s.uses b) ≡ w → HasWanted (length r.entry) b s.firm w (cell_now r b)
  has_as b w e = subst (λ (w : Want). HasWanted (length r.entry) b s.firm w (cell_now r b)) e (held.each b)

  -- what is to be flushed by now is in the image
  pub image_reaches : (b since : ℕ) → wanted (s.uses b) ≡ Firm since → b < length image
  image_reaches b since e =
      let has : IsGood (length r.entry) b (cell_now r b) × (since ≤ s.firm → (cell_now r b).loose ≡ false) = has_as b (Firm since) e in
      omega (arith, has.0.within, left.size)

  pub image_firm : (b since : ℕ) → wanted (s.uses b) ≡ Firm since → since ≤ s.firm → image_block image b ≡ bytes_now r b
  image_firm b since e le =
      let has : IsGood (length r.entry) b (cell_now r b) × (since ≤ s.firm → (cell_now r b).loose ≡ false) = has_as b (Firm since) e in
      left.kept b has.0.within (has.1 le)

  -- what is not is there too, unless the block is torn
  pub image_whole : (b since : ℕ) → wanted (s.uses b) ≡ Firm since → ((cell_now r b).loose ≡ true → image_block image b ≡ (cell_now r b).bytes) → image_block image b ≡ bytes_now r b
  image_whole b since e whole =
      let has : IsGood (length r.entry) b (cell_now r b) × (since ≤ s.firm → (cell_now r b).loose ≡ false) = has_as b (Firm since) e in
      elim (cases_Bool (cell_now r b).loose) [ inl loose ↦ whole loose | inr fixed ↦ left.kept b has.0.within fixed ]

  -- the layers of the superblock, and those of the one to come
  pub image_layer : (b : ℕ) → s.uses b ≡ Layer → image_block image b ≡ bytes_now r b
  image_layer b e = image_firm b 0 (ap wanted e) (omega arith)

  pub image_coming : (b : ℕ) → s.uses b ≡ Coming → image_block image b ≡ bytes_now r b
  image_coming b e = image_firm b 0 (ap wanted e) (omega arith)

module _ (sum : List ℕ → ℕ) (s : BlockUses) (r : DiskRecord) (base : ℕ) (first : ℕ → Option ℕ) (stream : List Txn) (image : List (List ℕ)) (h : AreUses s) (held : CellsHold sum s r) (cut : IsStretch s base first stream) (left : LeftNow r image) where
  shows_at : (k b x : ℕ) → s.settled ≤ k → base ≤ k → k ≤ base + length stream → live_after first stream k b ≡ Some x → IsShown k (s.uses b) (s.sums b) x
  shows_at k b x settled ge le e = shown_some k (s.uses b) (s.sums b) x
      (sym (h.live_is k b settled (omega (arith, le, stretch_within s base first stream h cut))) ∙ sym (live_stretch s base first stream h cut k b ge le) ∙ e)

  -- The last settled number passes, and so the number that is kept is not below it. What a transaction before
  -- this list wrote has no sum to test.
  pub passes_settled : base ≤ s.settled → PassesAt (sum_found sum s.first_data image) first stream s.settled
  passes_settled ge b x e tested =
      let shows : IsShown s.settled (s.uses b) (s.sums b) x = shows_at s.settled b x (omega arith) ge cut.reaches e in
      let after : s.base < shows.since = h.put b shows.since tested.number shows.since_is (put_stream s base first stream h cut tested.number b tested.put) in
      let ours : IsOurs s.right (s.uses b) = ours_since s.right (s.uses b) shows.since shows.since_is (omega (arith, after, h.right)) in
      found_above sum s.first_data image b (data_above s h b shows.since shows.since_is) (image_reaches sum s r image held left b shows.since shows.wants)
      ∙ ap Some (ap sum (image_firm sum s r image held left b shows.since shows.wants (omega (arith, shows.most, h.firm))) ∙ held.stated b ours ∙ shows.same)

  pub kept_settled : (k : ℕ) → IsKeptUpTo (sum_found sum s.first_data image) base first stream k → s.settled ≤ k
  kept_settled k kept = elim (cases_lt k s.settled) [
    | inl lt ↦ absurd (kept.greatest s.settled lt cut.reaches (passes_settled (omega (arith, kept.least, lt))))
    | inr le ↦ le
  ]

  -- every block that is live after it holds what was put there
  pub kept_contents : (k : ℕ) → IsKeptUpTo (sum_found sum s.first_data image) base first stream k → HasTrueBlocks (cell_now r) first stream k image → HasContents s r k image
  kept_contents k kept chance b x e =
      let settled : s.settled ≤ k = kept_settled k kept in
      let here : live_after first stream k b ≡ Some x = live_stretch s base first stream h cut k b kept.least kept.most ∙ e in
      let shows : IsShown k (s.uses b) (s.sums b) x = shows_at k b x settled kept.least kept.most here in
      elim (cases_lt s.firm shows.since) [
        | inl lt ↦
            let above : base < shows.since = omega (arith, cut.flushed, lt) in
            let put : IsPut stream shows.since b = put_stretch s base first stream h cut shows.since b
            (h.written b shows.since shows.since_is (omega (arith, h.marked, h.firm, lt))) above (omega (arith, shows.most, kept.most)) in
            image_whole sum s r image held left b shows.since shows.wants (chance b x here (record { number = shows.since; most = shows.most; put = put }))
        | inr le ↦ image_firm sum s r image held left b shows.since shows.wants le
      ]

-- ---- which stretches there are

-- the superblock that was mounted, with the first of the transactions
pub stretch_front : (s : BlockUses) (stream after : List Txn) → AreUses s → s.txns ≡ stream ++ after → s.settled ≤ s.base + length stream → IsStretch s s.base s.first stream
stretch_front s stream after h e reaches = record {
  before = [];
  after = after;
  joined = e;
  base_is = omega arith;
  first_is = λ b. sym (live_beyond b s.base s.txns (s.first b) (numbered_least s.base s.txns h.numbered));
  flushed = omega (arith, h.marked, h.firm);
  reaches = reaches;
}

-- a superblock with a later base count, with those after it
pub stretch_later : (s : BlockUses) (before stream after : List Txn) (first : ℕ → Option ℕ) → s.txns ≡ before ++ (stream ++ after) → ((b : ℕ) → first b ≡ live_after s.first s.txns (s.base + length before) b)
    → s.base + length before ≤ s.firm → s.settled ≤ s.base + length before + length stream → IsStretch s (s.base + length before) first stream
stretch_later s before stream after first e is flushed reaches = record { before = before; after = after; joined = e; base_is = refl; first_is = is; flushed = flushed; reaches = reaches }
