-- Each image left now shows a cut, and is sound where it keeps it.
use Rattle.std.proofs.Common.{◌≡◌, ℕ, ◌+◌, ◌-◌, ◌≤◌, ◌<◌, Bool, true, false, List, [], ◌∷◌, ◌++◌, length, take, drop, map, refl, sym, ap, subst, ◌∙◌, arith, length-append}
use Rattle.std.specs.Prelude.{IfSome, nat_lt}
use Rattle.std.proofs.lemmas.Bool.{ltb-true}
use Rattle.std.proofs.lemmas.List.{take-append-le}
use Rattle.fx_disk.specs.Began.{BeganAs}
use Rattle.fx_disk.specs.Record.{DiskRecord, Cell, LeftNow, cell_after}
use Rattle.fx_disk.specs.Seen.{DiskSeen}
use Rattle.fx_contents.specs.Points.{Points}
use Rattle.fx_super.specs.Super.{Fields}
use Rattle.fx_super.proofs.Chosen.{one_chosen}
use Rattle.fx_journal.specs.Stream.{IsStream}
use Rattle.fx_log.specs.Chosen.{start_of}
use Rattle.fx_supers.specs.Supers.{SuperCut}
use Rattle.fx_supers.specs.SessionLog.{HoldsLog, IsSessionLog, KeepsLog, SessionLog}
use Rattle.fx_supers.specs.Shown.{ShowsCut}
use Rattle.fx_uses.specs.Live.{txn_of}
use Rattle.fx_uses.specs.Uses.{AreUses, CellsHold, last}
use Rattle.fx_kept.specs.Kept.{IsKeptIn}
use Rattle.fx_cuts.specs.Joined.{JoinedState, NumberedItems, points_at}
use Rattle.fx_cuts.specs.Images.{IsShownCut, ShowsCuts}
use Rattle.fx_cuts.proofs.PointsUpTo.{mapped_length}
use Rattle.fx_cuts.proofs.CutPoints.{cut_points}
use Rattle.fx_shown.specs.Meanings.{ShowsTxns}
use Rattle.fx_shown.specs.LogTxns.{IsBesideLog, IsSuperIn, LogTxns}
use Rattle.fx_shown.proofs.LogCuts.{cut-either, shown-now, when-told}
use Rattle.fx_item.specs.Look.{next_id_after, next_store_after}
use Rattle.fx_sound.specs.declared.image.ImageNumbers.{ImageNumbers}
use Rattle.fx_sound.specs.Parts.{HasNumbersLeft, IsSoundImage}
use Rattle.fx_layered.specs.Layers.{LayersRead, layer_lists}
use Rattle.fx_layered.specs.Gathered.{IsSoundThere, layers_meanings, layers_reading, numbers_up_to}
use Rattle.fx_layered.specs.NamedCuts.{HasNamedLayers, HaveNamedLayers}
use Rattle.fx_layered.specs.SoundAfter.{AreSoundAfter, IsSoundAfter, LeaveDropRoom, gathered_image}
use Rattle.fx_layered.proofs.ByUses.{cut_of, lies_now, named_now}

drop_past : (xs ys : NumberedItems) → drop (length xs) (xs ++ ys) ≡ ys
drop_past [] ys = refl
drop_past (x ∷ xs) ys = drop_past xs ys

-- the numbers by the transactions that are kept
abbrev numbers_with : Fields → LayersRead → NumberedItems → (k : ℕ) → ImageNumbers
numbers_with f said ts k = record {
  generation = f.generation;
  sequence = f.sequence;
  base = f.base;
  kept = k;
  next_id = next_id_after f.next_id (layer_lists said ++ map (λ t. t.1) ts);
  next_store = next_store_after f.next_store (layer_lists said ++ map (λ t. t.1) ts);
}

-- a stream and what is dropped matter to the room for the block that drops it alone
with_stream : (f : Fields) (said : LayersRead) (items : _) (txns others : NumberedItems) (k stream : ℕ) (drops : Bool) → numbers_up_to f said txns k ≡ numbers_up_to f said others k → (drops ≡ true → stream < f.ring)
    → IsSoundImage (gathered_image f said items txns k 0 false) → IsSoundImage (gathered_image f said items others k stream drops)
with_stream f said items txns others k stream drops same room h = record {
  tree = record { tree = h.tree.tree; on_disk = h.tree.on_disk };
  blocks = record { allocated = h.blocks.allocated; apart = h.blocks.apart };
  layers = record { one_more = h.layers.one_more; two = h.layers.two };
  drops = room;
  numbers = subst HasNumbersLeft same h.numbers;
}

module _ (sum : List ℕ → ℕ) (first_data : ℕ) (s : JoinedState) (log : SessionLog) (r : DiskRecord) (is : IsSessionLog log) (keeps : KeepsLog log r) (used : AreUses s.blocks) (txns_are : s.blocks.txns ≡ map txn_of s.txns) (held : CellsHold sum s.blocks r)
    (have : HaveNamedLayers s log r) (sound : AreSoundAfter s log r have) (room : LeaveDropRoom sum first_data r) (image : List (List ℕ)) (left : LeftNow r image) (cut : SuperCut) (one : IsSuperIn log.supers cut) (c : ShowsCut log image cut)
    (txns : NumberedItems) (shows : ShowsTxns (layers_reading sum first_data) image cut.super.base (points_at s cut.super.base) txns) (shown : IsShownCut s cut.super.base (points_at s cut.super.base) txns)
    (k : ℕ) (ge : s.blocks.settled ≤ k) (kept : IsKeptIn sum first_data image cut.super.base txns k) where
  abbrev base : ℕ
  base = cut.super.base

  abbrev h : HasNamedLayers s log r cut
  h = have cut one

  same_super : shows.super ≡ cut.super
  same_super = (one_chosen image shows.chosen.0 c.chosen.0 shows.super cut.super shows.chosen.1 c.chosen.1).1

  stream_here : IsStream image cut.super.ring cut.super.generation (start_of cut.super) shows.stream shows.next
  stream_here = subst (λ (f : Fields). IsStream image f.ring f.generation (start_of f) shows.stream shows.next) same_super shows.stream_is

  ends : k ≤ base + length txns
  ends = let most = kept.most in omega (arith, most, mapped_length txns)

  within : k ≤ last s.blocks
  within =
      let at = shown.base_is in
      omega (
        arith,
        ends,
        at,
        ap length txns_are,
        mapped_length s.txns,
        ap length shown.joined,
        length-append shown.earlier (txns ++ shown.later),
        length-append txns shown.later,
      )

  least : base ≤ k
  least = kept.least

  after : IsSoundAfter s cut h.said k
  after = sound cut one k ge within least

  -- the transactions after the base, as the state has them and as the image shows them
  same_kept : take (k - base) (drop (base - s.blocks.base) s.txns) ≡ take (k - base) txns
  same_kept =
      let at = shown.base_is in
      let from : base - s.blocks.base ≡ length shown.earlier = omega (arith, at) in
      let few : k - base ≤ length txns = omega (arith, ends, least) in
      ap (λ (n : ℕ). take (k - base) (drop n s.txns)) from
      ∙ ap (λ (ts : NumberedItems). take (k - base) (drop (length shown.earlier) ts)) shown.joined
      ∙ ap (λ (ts : NumberedItems). take (k - base) ts) (drop_past shown.earlier (txns ++ shown.later))
      ∙ take-append-le (k - base) txns shown.later few

  same_numbers : numbers_up_to cut.super h.said (drop (base - s.blocks.base) s.txns) k ≡ numbers_up_to cut.super h.said txns k
  same_numbers = ap (λ (ts : NumberedItems). numbers_with cut.super h.said ts k) same_kept

  pub sound_where_kept : IsSoundThere image base (points_at s base) txns k
  sound_where_kept = record {
    plain = gathered_image cut.super h.said after.items txns k (length shows.stream) (nat_lt k (base + length txns));
    gathered = record {
      super = cut.super;
      chosen = c.chosen;
      base_is = refl;
      size = left.size ∙ keeps.size ∙ sym is.head.blocks ∙ sym (cut_of log is cut one).blocks_are;
      disk = refl;
      ring = refl;
      said = h.said;
      named = h.are;
      lie = lies_now sum s log r is held cut one h image left;
      standing = after.standing;
      items_are = λ p. after.items_are p ∙ sym (ap (λ (m : Points). m p) (cut_points s used txns_are base (points_at s base) txns shown k least ends));
      stream = shows.stream;
      next = shows.next;
      stream_is = stream_here;
      stream_length = refl;
      drops = refl;
      numbers = refl;
    };
    sound = with_stream cut.super h.said after.items (drop (base - s.blocks.base) s.txns) txns k (length shows.stream) (nat_lt k (base + length txns)) same_numbers
        (λ e. room image left cut.super c.chosen shows.stream shows.next stream_here txns shows.txns_are k kept (ltb-true k (base + length txns) e)) after.sound;
  }

abbrev pub CutsWithLayers : (sum : List ℕ → ℕ) → ℕ → (ℕ → Cell) → JoinedState → SessionLog → DiskRecord → Type 0
CutsWithLayers sum first_data before s log r = (first : List (List ℕ)) → BeganAs r log.from first → ((b : ℕ) → cell_after r log.from b ≡ before b) → CellsHold sum s.blocks r
    → (have : HaveNamedLayers s log r) → AreSoundAfter s log r have → LeaveDropRoom sum first_data r → ShowsCuts (layers_meanings sum first_data before log.head.super.generation) s r

pub cuts_layered : (sum : List ℕ → ℕ) (first_data : ℕ) (before : ℕ → Cell) (s : JoinedState) (log : SessionLog) (t : LogTxns) (marks : ℕ) (seen : DiskSeen) → HoldsLog log seen → IsBesideLog s log t marks → AreUses s.blocks → s.blocks.txns ≡ map txn_of s.txns
    → IfSome seen.told (CutsWithLayers sum first_data before s log)
cuts_layered sum first_data before s log t marks seen holds b used txns_are = when-told (KeepsLog log) (CutsWithLayers sum first_data before s log) seen.told now holds.told
  where
    now : (r : DiskRecord) → KeepsLog log r → CutsWithLayers sum first_data before s log r
    now r keeps first began same held have sound room image left formed =
        let c = shown-now before log holds.log_is r keeps first began same image left formed in
        let shown = cut-either (layers_reading sum first_data) log t holds.log_is b.has s marks b.state used image c.0 (b.above c.0 c.1) (b.bases c.0 c.1) c.2 (named_now sum first_data s log r holds.log_is held have c.0 c.1 image left c.2.chosen) in (
          c.0.super.base,
          points_at s c.0.super.base,
          shown.0,
          shown.1,
          shown.2,
          λ k ge kept. sound_where_kept sum first_data s log r holds.log_is keeps used txns_are held have sound room image left c.0 c.1 c.2 shown.0 shown.1 shown.2 k ge kept,
        )
