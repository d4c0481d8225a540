-- An image of names alone that keeps transactions up to a number is one that stands for the tree there.
use Rattle.std.proofs.Common.{◌≡◌, ℕ, ◌+◌, ◌≤◌, inl, inr, List, length, map, sym, subst, arith}
use Rattle.std.proofs.lemmas.Bool.{cases_lt}
use Rattle.fx_disk.specs.Record.{Cell, DiskRecord, cell_after, cell_at}
use Rattle.fx_disk.specs.Always.{Always}
use Rattle.fx_super.specs.Super.{Fields}
use Rattle.fx_plain.specs.Tree.{Tree}
use Rattle.fx_contents.specs.Points.{Points}
use Rattle.fx_contents.specs.Standing.{StandForTree}
use Rattle.fx_contents.proofs.NamesAlone.{to_names}
use Rattle.fx_history.specs.declared.entry.Entry.{Entry}
use Rattle.fx_history.specs.History.{tree_at}
use Rattle.fx_plain.specs.Bare.{bare}
use Rattle.fx_uses.specs.Live.{txn_of}
use Rattle.fx_uses.specs.Uses.{image_block}
use Rattle.fx_kept.specs.Kept.{IsKeptIn, sum_found, none_live}
use Rattle.fx_kept.specs.Opened.{WritesNoBlock}
use Rattle.fx_kept.proofs.NamesAlone.{all_kept}
use Rattle.fx_log.specs.Chance.{NotByChance}
use Rattle.fx_logcuts.specs.Cuts.{pieces_in}
use Rattle.fx_record.specs.Txns.{IsTxns}
use Rattle.fx_image.specs.Standing.{IsImage, HasSessionRoom, HasAmpleRoom, Transactions, items_after, kept}
use Rattle.fx_image.specs.Prefix.{Began, IsPrefix, KeepsPrefix}
use Rattle.fx_cuts.specs.Joined.{NumberedItems}
use Rattle.fx_cuts.specs.Images.{IsImageUpTo, IsPrefixUpTo, LeavesPrefix, Mark, NoBlockByChance}
use Rattle.fx_cuts.proofs.PointsUpTo.{mapped_length}
use Rattle.fx_shown.specs.Meanings.{ShowsTxns}
use Rattle.fx_shown.proofs.ChanceForms.{forms-from_chance}
use Rattle.fx_named.specs.Names.{HaveEntries, IsOfNames, WritesNever, bare_trees, names_meanings, names_reading}

module _ (sum : List ℕ → ℕ) (first_data size : ℕ) (ample : Type 0) (before : ℕ → Cell) (generation : ℕ) where
  -- all transactions are kept
  all-of : (image : List (List ℕ)) (base : ℕ) (txns : NumberedItems) (k : ℕ) → WritesNoBlock (map txn_of txns) → IsKeptIn sum first_data image base txns k → k ≡ base + length txns
  all-of image base txns k none is =
      let whole = all_kept (sum_found sum first_data image) base none_live (map txn_of txns) none in
      let long : length (map txn_of txns) ≡ length txns = mapped_length txns in
      elim (cases_lt k (base + length (map txn_of txns))) [
        | inl lt ↦ (let no : ⊥ = is.greatest (base + length (map txn_of txns)) lt (omega arith) whole.passes in absurd no)
        | inr ge ↦ (let most = is.most in omega (arith, ge, most, long))
      ]

  pub names-image : (image : List (List ℕ)) (base : ℕ) (points : Points) (txns : NumberedItems) (k : ℕ) (tree : Tree) → IsImageUpTo (names_meanings sum first_data size ample before generation) image base points txns k tree
      → (f : Fields) × (kept f txns ≡ k) × IsImage size image f txns tree × (ample → HasSessionRoom f txns)
  names-image image base points txns k tree h =
      let shows : ShowsTxns (names_reading sum first_data size ample) image base points txns = h.shows in
      let sound : IsOfNames size ample image base points txns k = h.sound in
      let f : Fields = shows.super in
      let names = to_names (items_after txns) sound.alone (image_block image) tree (subst (λ (m : Points). StandForTree m (image_block image) tree) sound.values h.stands.stands) in (
        f,
        omega (arith, shows.base_is, all-of image base txns k sound.unwritten h.kept),
        record {
          chosen = shows.chosen;
          blocks = sound.blocks f shows.chosen;
          layers = shows.layers.0;
          stream = shows.stream;
          next = shows.next;
          stream_is = shows.stream_is;
          txns_are = subst (λ (b : ℕ). IsTxns b (pieces_in shows.stream) txns) (sym shows.base_is) shows.txns_are;
          stands = record { stands = names.0; tree_is = names.1 };
        },
        sound.room f shows.chosen,
      )

  pub names-prefix : (tree : Tree) (base from m k : ℕ) (history : List Entry) (marks bases : List Mark) (image : List (List ℕ)) → HaveEntries base from history marks → from ≤ m
      → IsPrefixUpTo (names_meanings sum first_data size ample before generation) (bare_trees tree history) (base + length history) marks bases m image k → IsPrefix size ample tree base history m image
  names-prefix tree base from m k history marks bases image have ge h =
      let is = names-image image h.base h.points h.txns k (bare_trees tree history k) h.image_is in
      record {
        super = is.0;
        txns = h.txns;
        least = let low : base ≤ k = h.settled 0 (record { number = base; calls = from }) have.first ge in omega (arith, is.1, low);
        most = let within = h.within in omega (arith, is.1, within);
        settled = λ i entry got some by.
            let by-mark = have.each i entry got some in
            let low : by-mark.1.number ≤ k = h.settled by-mark.0 by-mark.1 by-mark.2 (let calls = by-mark.3 in omega (arith, calls, by)) in
            let up = by-mark.4 in
            omega (arith, is.1, low, up);
        image_is = subst (λ (n : ℕ). IsImage size image is.0 h.txns (bare (tree_at tree history n))) (sym is.1) is.2;
        room = is.3;
      }

  -- no block by chance, where none is written
  pub names-chance : (cells : ℕ → Cell) (image : List (List ℕ)) → NotByChance before cells generation image
      → ((base : ℕ) (points : Points) (txns : NumberedItems) → ShowsTxns (names_reading sum first_data size ample) image base points txns → WritesNoBlock (map txn_of txns))
      → NoBlockByChance (names_meanings sum first_data size ample before generation) cells image
  names-chance cells image chance none = record {
    formed = forms-from_chance before cells generation image chance;
    blocks = λ base points txns k shows is b x live tested loose. absurd (none base points txns shows tested.number b tested.put);
  }

-- ---- at every moment

pub names-keep : (sum : List ℕ → ℕ) (first_data size from : ℕ) (tree : Tree) (base : ℕ) (history : List Entry) (marks bases : List Mark) (r : DiskRecord) → from ≤ length r.calls → HaveEntries base from history marks
    → ((image : List (List ℕ)) (f : Fields) (txns : Transactions) → Began size from base tree r image f txns →
    Always (LeavesPrefix (names_meanings sum first_data size (HasAmpleRoom f txns) (cell_after r from) f.generation) (bare_trees tree history) (base + length history) marks bases) from r
    × WritesNever (names_meanings sum first_data size (HasAmpleRoom f txns) (cell_after r from) f.generation) from r)
    → KeepsPrefix size from tree base history r
names-keep sum first_data size from tree base history marks bases r since have all = record {
  since = since;
  always = λ image f txns began.
      let both = all image f txns began in
      record {
        since = since;
        each = λ m left ge le is chance.
            let p = both.0.each m left ge le is (names-chance sum first_data size (HasAmpleRoom f txns) (cell_after r from) f.generation (cell_at r m) left chance
            (both.1.each m left ge le is (forms-from_chance (cell_after r from) (cell_at r m) f.generation left chance))) in
            names-prefix sum first_data size (HasAmpleRoom f txns) (cell_after r from) f.generation tree base from m p.0 history marks bases left have ge p.1;
      };
}
