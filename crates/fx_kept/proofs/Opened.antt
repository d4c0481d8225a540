-- The state at a mount keeps what every later state keeps.
use Rattle.std.proofs.Common.{◌≡◌, ℕ, zero, suc, ◌+◌, ◌<◌, ◌≤◌, Bool, true, false, if◌then◌else◌, List, [], ◌∷◌, length, refl, sym, ap, subst, ◌∙◌, arith, ◌⊎◌, inl, inr, Option, Some, None, IsSome}
use Rattle.std.specs.Prelude.{◌&&◌, nat_le, nat_lt, slice_get}
use Rattle.std.proofs.lemmas.Bool.{le-leb, cases_lt}
use Rattle.fx_disk.specs.Record.{DiskRecord, Cell, cell_now}
use Rattle.fx_uses.specs.Live.{Txn, AreNumbered, IsPut, put_in, live_after}
use Rattle.fx_uses.specs.Uses.{Use, Free, System, Layer, IsOurs, AreUses, CellsHold, last, live_by_use, since_of, until_of, wanted, Want, Nothing, HasWanted, IsGood, image_block}
use Rattle.fx_kept.specs.Kept.{sum_found, PassesAt}
use Rattle.fx_kept.specs.Opened.{last_writer, writer_over, use_since, sum_or_0, opened_use, opened_uses, AreOthers, HoldsImage}
use Rattle.fx_uses.proofs.LiveOverLists.{Each, numbered_most, numbered_least}
use Rattle.fx_uses.proofs.UsesKept.{shown_none, until_none}
use Rattle.fx_uses.proofs.CellsKept.{ours_wanted}

-- ---- who wrote a block last

wrote_least : (b low : ℕ) (ts : List Txn) (old : ℕ) → low ≤ old → Each (λ t. low ≤ t.number) ts → low ≤ last_writer b ts old
wrote_least b low [] old le each = le
wrote_least b low (t ∷ ts) old le each = wrote_least b low ts (writer_over t.number (put_in b t.puts) old) (one (put_in b t.puts)) (λ i x e. each (suc i) x e)
  where
    one : (o : Option ℕ) → low ≤ writer_over t.number o old
    one None = le
    one (Some x) = each 0 t refl

wrote_most : (b last : ℕ) (ts : List Txn) (old : ℕ) → old ≤ last → Each (λ t. t.number ≤ last) ts → last_writer b ts old ≤ last
wrote_most b last [] old le each = le
wrote_most b last (t ∷ ts) old le each = wrote_most b last ts (writer_over t.number (put_in b t.puts) old) (one (put_in b t.puts)) (λ i x e. each (suc i) x e)
  where
    one : (o : Option ℕ) → writer_over t.number o old ≤ last
    one None = le
    one (Some x) = each 0 t refl

put_later : (t : Txn) (ts : List Txn) (n b : ℕ) → IsPut ts n b → IsPut (t ∷ ts) n b
put_later t ts n b p = record { at = suc p.at; txn = p.txn; got = p.got; number = p.number; written = p.written }

-- it is the old number, or that of one of them that wrote it
wrote_is : (b : ℕ) (ts : List Txn) (old : ℕ) → (last_writer b ts old ≡ old) ⊎ IsPut ts (last_writer b ts old) b
wrote_is b [] old = inl refl
wrote_is b (t ∷ ts) old = one (put_in b t.puts) refl (wrote_is b ts)
  where
    one : (o : Option ℕ) → put_in b t.puts ≡ o → ((old : ℕ) → (last_writer b ts old ≡ old) ⊎ IsPut ts (last_writer b ts old) b) → (last_writer b ts (writer_over t.number o old) ≡ old) ⊎ IsPut (t ∷ ts) (last_writer b ts (writer_over t.number o old)) b
    one None e again = elim (again old) [ inl same ↦ inl same | inr put ↦ inr (put_later t ts (last_writer b ts old) b put) ]
    one (Some x) e again = elim (again t.number) [
      | inl same ↦ inr (record { at = 0; txn = t; got = refl; number = sym same; written = subst IsSome (sym e) refl })
      | inr put ↦ inr (put_later t ts (last_writer b ts t.number) b put)
    ]

-- where one of them wrote it, it is past the first
wrote_ours : (b base n : ℕ) (ts : List Txn) (old : ℕ) → Each (λ t. base < t.number) ts → IsPut ts n b → base < last_writer b ts old
wrote_ours b base n [] old each p = let q : None ≡ Some p.txn = p.got in absurd (cc)
wrote_ours b base n (t ∷ ts) old each p = at_place p.at p.txn p.got p.written (λ m old' rest p'. wrote_ours b base m ts old' rest p') (λ i x e. each (suc i) x e)
  where
    one : (o : Option ℕ) → IsSome o → base + 1 ≤ writer_over t.number o old
    one None e = absurd (cc)
    one (Some x) e = let lt : base < t.number = each 0 t refl in omega (arith, lt)

    at_place : (i : ℕ) (x : Txn) → slice_get (t ∷ ts) i ≡ Some x → IsSome (put_in b x.puts) → ((m old' : ℕ) → Each (λ t. base < t.number) ts → IsPut ts m b → base < last_writer b ts old') → Each (λ t. base < t.number) ts → base < last_writer b ts (writer_over t.number (put_in b t.puts) old)
    at_place zero x got some again rest =
        let same : x ≡ t = cc in
        let le : base + 1 ≤ last_writer b ts (writer_over t.number (put_in b t.puts) old) = wrote_least b (base + 1) ts (writer_over t.number (put_in b t.puts) old) (one (put_in b t.puts) (subst (λ (u : Txn). IsSome (put_in b u.puts)) same some)) (λ j y e. let lt : base < y.number = rest j y e in omega (arith, lt)) in
        omega (arith, le)
    at_place (suc i) x got some again rest = again x.number (writer_over t.number (put_in b t.puts) old) rest (record { at = i; txn = x; got = got; number = refl; written = some })

-- ---- what the other blocks are used for

-- superblocks and ring for the system, and others for nothing or for a layer
other_kind : (first_data : ℕ) (others : ℕ → Use) → AreOthers first_data others → (b : ℕ) → (others b ≡ System) ⊎ ((others b ≡ Free) ⊎ (others b ≡ Layer))
other_kind first_data others are b = elim (cases_lt b first_data) [ inl below ↦ inl (are.system b below) | inr above ↦ inr (are.unused b above) ]

pub others_hidden : (first_data : ℕ) (others : ℕ → Use) → AreOthers first_data others → (b : ℕ) → since_of (others b) ≡ None
others_hidden first_data others are b = elim (other_kind first_data others are b) [
  | inl system ↦ ap since_of system
  | inr (inl free) ↦ ap since_of free
  | inr (inr layer) ↦ ap since_of layer
]

-- no transaction puts anything there
others_never : (first_data : ℕ) (others : ℕ → Use) → AreOthers first_data others → (number b : ℕ) → IsOurs number (others b) → ⊥
others_never first_data others are number b ours = elim (other_kind first_data others are b) [
  | inl system ↦ subst (IsOurs number) system ours
  | inr (inl free) ↦ subst (IsOurs number) free ours
  | inr (inr layer) ↦ subst (IsOurs number) layer ours
]

-- ---- the uses

shown_use : (k : ℕ) (o : Option ℕ) (since : ℕ) (other : Use) → since ≤ k → since_of other ≡ None → live_by_use k (use_since o since other) (sum_or_0 o) ≡ o
shown_use k None since other le hidden = shown_none k other 0 hidden
shown_use k (Some x) since other le hidden = ap (λ (t : Bool). if t then Some x else None) (le-leb since k le)

since_use : (o : Option ℕ) (since : ℕ) (other : Use) (j : ℕ) → since_of other ≡ None → since_of (use_since o since other) ≡ Some j → since ≡ j
since_use None since other j hidden e = absurd (cc)
since_use (Some x) since other j hidden e = cc

until_use : (o : Option ℕ) (since : ℕ) (other : Use) (n : ℕ) → since_of other ≡ None → until_of (use_since o since other) ≡ Some n → ⊥
until_use None since other n hidden e = until_none other n hidden e
until_use (Some x) since other n hidden e = cc

ours_use : (base : ℕ) (o : Option ℕ) (since : ℕ) (other : Use) → (IsOurs base other → ⊥) → IsOurs base (use_since o since other) → (base < since) × (o ≡ Some (sum_or_0 o))
ours_use base None since other never ours = absurd (never ours)
ours_use base (Some x) since other never ours = (ours, refl)

use_of_system : (o : Option ℕ) (since : ℕ) (other : Use) → ((x : ℕ) → o ≡ Some x → ⊥) → other ≡ System → use_since o since other ≡ System
use_of_system None since other none e = e
use_of_system (Some x) since other none e = absurd (none x refl)

module _ (first_data : ℕ) (first : ℕ → Option ℕ) (base : ℕ) (txns : List Txn) (others : ℕ → Use) (numbered : AreNumbered base txns) (are : AreOthers first_data others) where
  most : (b : ℕ) → last_writer b txns base ≤ base + length txns
  most b = wrote_most b (base + length txns) txns base (omega arith) (numbered_most base txns numbered)

  since_opened : (b j : ℕ) → since_of (opened_use first base txns others b) ≡ Some j → last_writer b txns base ≡ j
  since_opened b j e = since_use (live_after first txns (base + length txns) b) (last_writer b txns base) (others b) j (others_hidden first_data others are b) e

  pub opened_used : (right : ℕ) → right ≤ base → ((b x : ℕ) → live_after first txns (base + length txns) b ≡ Some x → first_data ≤ b) → AreUses (opened_uses first_data right first base txns others)
  opened_used right le apart = record {
    numbered = numbered;
    right = le;
    marked = omega arith;
    firm = omega arith;
    most = omega arith;
    system = λ b below. use_of_system (live_after first txns (base + length txns) b) (last_writer b txns base) (others b) (λ x e. let above : first_data ≤ b = apart b x e in omega (arith, above, below)) (are.system b below);
    live_is = λ k b ge le. let e : base + length txns ≡ k = omega (arith, ge, le) in
        subst (λ (n : ℕ). live_after first txns n b ≡ live_by_use n (opened_use first base txns others b) (sum_or_0 (live_after first txns (base + length txns) b))) e
        (sym (shown_use (base + length txns) (live_after first txns (base + length txns) b) (last_writer b txns base) (others b) (most b) (others_hidden first_data others are b)));
    since = λ b j e. omega (arith, since_opened b j e, most b);
    written = λ b j e lt. elim (wrote_is b txns base) [
      | inl same ↦ absurd (omega (arith, same, since_opened b j e, lt))
      | inr put ↦ subst (λ (n : ℕ). IsPut txns n b) (since_opened b j e) put
    ];
    put = λ b j n e p. let lt : base < last_writer b txns base = wrote_ours b base n txns base (numbered_least base txns numbered) p in omega (arith, lt, since_opened b j e);
    until = λ b n e. absurd (until_use (live_after first txns (base + length txns) b) (last_writer b txns base) (others b) n (others_hidden first_data others are b) e);
  }

-- ---- the cells

has_settled : (size b firm : ℕ) (w : Want) (cell : Cell) → ((w ≡ Nothing → ⊥) → IsGood size b cell × (cell.loose ≡ false)) → HasWanted size b firm w cell
has_settled size b firm Nothing cell h = tt
has_settled size b firm Want.Good cell h = let g : IsGood size b cell × (cell.loose ≡ false) = h (λ e. cc) in g.0
has_settled size b firm (Want.Firm since) cell h = let g : IsGood size b cell × (cell.loose ≡ false) = h (λ e. cc) in (g.0, λ le. g.1)

found_sum : (sum : List ℕ → ℕ) (first_data : ℕ) (image : List (List ℕ)) (b x : ℕ) → sum_found sum first_data image b ≡ Some x → sum (image_block image b) ≡ x
found_sum sum first_data image b x e = elim (nat_le first_data b && nat_lt b (length image)) as (λ t. (if t then Some (sum (image_block image b)) else None) ≡ Some x → sum (image_block image b) ≡ x) [
  | true ↦ λ e. cc
  | false ↦ λ e. let z : None ≡ Some x = e in absurd (cc)
] e

-- What an image has that is kept whole: the blocks that are in use lie on the disk, nothing is loose, and the
-- number passes.
pub opened_held : (sum : List ℕ → ℕ) (first_data right : ℕ) (first : ℕ → Option ℕ) (base : ℕ) (txns : List Txn) (others : ℕ → Use) (image : List (List ℕ)) (r : DiskRecord) → AreNumbered base txns → AreOthers first_data others
    → HoldsImage r image
    → ((b : ℕ) → (wanted (opened_use first base txns others b) ≡ Nothing → ⊥) → b < length r.entry)
    → PassesAt (sum_found sum first_data image) first txns (base + length txns)
    → ((b x : ℕ) → right < base → live_after first txns (base + length txns) b ≡ Some x → sum (image_block image b) ≡ x)
    → CellsHold sum (opened_uses first_data right first base txns others) r
opened_held sum first_data right first base txns others image r numbered are settled within passes clean = record {
  each = λ b. has_settled (length r.entry) b (base + length txns) (wanted (opened_use first base txns others b)) (cell_now r b)
      (λ ne. let lt : b < length r.entry = within b ne in (record { within = lt; good = (settled b lt).0 }, (settled b lt).1));
  stated = λ b ours.
      let at : (right < last_writer b txns base) × (live_after first txns (base + length txns) b ≡ Some (sum_or_0 (live_after first txns (base + length txns) b))) = ours_use right (live_after first txns (base + length txns) b) (last_writer b txns base) (others b) (others_never first_data others are right b) ours in
      let lt : b < length r.entry = within b (λ e. ours_wanted right (opened_use first base txns others b) e ours) in
      ap sum (settled b lt).2 ∙ (elim (wrote_is b txns base) [
        | inl same ↦ clean b (sum_or_0 (live_after first txns (base + length txns) b)) (omega (arith, same, at.0)) at.1
        | inr put ↦ found_sum sum first_data image b (sum_or_0 (live_after first txns (base + length txns) b)) (passes b (sum_or_0 (live_after first txns (base + length txns) b)) at.1 (record { number = last_writer b txns base; most = wrote_most b (base + length txns) txns base (omega arith) (numbered_most base txns numbered); put = put }))
      ]);
}
