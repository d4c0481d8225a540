-- What items in order say of blocks by allocations, and by the extents that they write.
use Rattle.std.proofs.Common.{◌≡◌, ℕ, zero, suc, ◌==◌, ◌+◌, ◌≤◌, Bool, true, false, if◌then◌else◌, map, length, List, [], ◌∷◌, ◌++◌, refl, sym, ap, subst, ◌∙◌, arith, length-append, inl, inr, Some, None, IsSome}
use Rattle.std.specs.List.{list_any}
use Rattle.std.proofs.lemmas.Bool.{and_parts, and_from, cases_Bool, le-leb}
use Rattle.fx_item.specs.Item.{PlainItem, TakenValue}
use Rattle.fx_item.specs.Overlay.{AtDeviceBlock, Entry, ValueEntry, says}
use Rattle.fx_verify.specs.Kept.{written_by, is_freed_by, is_taken_by}
use Rattle.fx_contents.specs.Points.{Points, points_after}
use Rattle.fx_contents.specs.Allocated.{AreAllocated}
use Rattle.fx_uses.specs.Live.{Txn, txn_of, AreNumbered, put_in}
use Rattle.fx_uses.specs.Uses.{AreUses, last}
use Rattle.fx_live.specs.Live.{AreOrdered, KeepsTogether, SaysTaken, SaysBlock}
use Rattle.fx_live.specs.Moving.{MovesBlocks}
use Rattle.fx_live.proofs.Stated.{device_said, freed_says, says_freed, says_stated, says_taken, states_has, taken_says, written_states}
use Rattle.fx_live.proofs.Together.{stated_last}
use Rattle.fx_live.proofs.Moved.{moved_together}
use Rattle.fx_cuts.specs.Allocations.{TellsBlocks, TellBlocks, TellsState}
use Rattle.fx_cuts.specs.Joined.{JoinedState, NumberedItems, HasLiveFiles, points_at, with_entry}
use Rattle.fx_cuts.proofs.LiveAllocated.{live_is_taken, files_are_live}
use Rattle.fx_cuts.proofs.PointsUpTo.{mapped_append, mapped_length, points_append, points_reached, most_of}

module _ (items : List PlainItem) (o : AreOrdered items) where
  -- a block that is not taken is not written
  put_none : (b : ℕ) → (SaysTaken (says items) b → ⊥) → put_in b (written_by items) ≡ None
  put_none b ne = elim (stated_last b (written_by items) None) [
    | inl r ↦ absurd (ne (taken_says items b o (and_parts (is_taken_by items b) _ (sym (written_states items b r.0) ∙ r.2)).0))
    | inr r ↦ r.0
  ]

  -- one that is taken, and in which an extent lies, is
  put_some : (b sum : ℕ) → SaysTaken (says items) b → SaysBlock (says items) b sum → IsSome (put_in b (written_by items))
  put_some b sum taken lies = elim (stated_last b (written_by items) None) [
    | inl r ↦ subst IsSome (sym r.1) refl
    | inr r ↦
        let has : list_any (λ p. p.0 == b) (written_by items) ≡ true = states_has (written_by items) b sum (written_states items b sum ∙ and_from (is_taken_by items b) _ (says_taken items b o taken) (says_stated items b sum o lies)) in
        let z : false ≡ true = sym r.1 ∙ has in absurd (cc)
  ]

  said_taken : (b : ℕ) (entry : Entry) → says items (AtDeviceBlock b) ≡ Some (Some entry) → SaysTaken (says items) b
  said_taken b entry e = elim (device_said items b (Some entry) o e) [
    | inl t ↦ e ∙ ap (λ z. Some z) t.0
    | inr t ↦ absurd (let q : Some entry ≡ None = t.0 in cc)
  ]

  pub told_blocks : (m : Points) → MovesBlocks m (says items) → TellsBlocks items
  told_blocks m moves = record {
    taken = λ b entry e. let at = moves.taken b entry e in put_some b at.1 (said_taken b entry e) at.2;
    given_up = λ b e. (put_none b (λ t. let q : Some None ≡ Some (Some (ValueEntry TakenValue)) = sym e ∙ t in absurd (cc)), says_freed items b o e);
    silent = λ b e. (put_none b (λ t. let q : None ≡ Some (Some (ValueEntry TakenValue)) = sym e ∙ t in absurd (cc)), not_freed b e);
  }
    where
      not_freed : (b : ℕ) → says items (AtDeviceBlock b) ≡ None → is_freed_by items b ≡ false
      not_freed b e = elim (cases_Bool (is_freed_by items b)) [
        | inl freed ↦ let q : None ≡ Some None = sym e ∙ freed_says items b o freed in absurd (cc)
        | inr not' ↦ not'
      ]

-- ---- one more transaction

tell_more : (txns : NumberedItems) (t : ℕ × List PlainItem) → TellBlocks txns → TellsBlocks t.1 → TellBlocks (txns ++ t ∷ [])
tell_more [] t h one zero u e = let same : t ≡ u = cc in subst (λ (v : ℕ × List PlainItem). TellsBlocks v.1) same one
tell_more [] t h one (suc i) u e = let z : None ≡ Some u = e in absurd (cc)
tell_more (x ∷ xs) t h one zero u e = h 0 u e
tell_more (x ∷ xs) t h one (suc i) u e = tell_more xs t (λ j v q. h (suc j) v q) one i u e

module _ (s : JoinedState) (who n : ℕ) (items : List PlainItem) (used : AreUses s.blocks) (told : TellsState s) (next : n ≡ last s.blocks + 1) where
  abbrev t : JoinedState
  t = with_entry s who n items

  at_last : points_at s n ≡ points_at s (last s.blocks)
  at_last =
      let numbered : AreNumbered s.blocks.base (map txn_of s.txns) = subst (AreNumbered s.blocks.base) told.txns_are used.numbered in
      let size : length s.blocks.txns ≡ length s.txns = ap length told.txns_are ∙ mapped_length s.txns in
      points_reached s.opening s.txns n (last s.blocks) (λ i x got. let le : x.0 ≤ s.blocks.base + length s.txns = most_of s.blocks.base s.txns numbered i x got in (omega (arith, le, size, next), omega (arith, le, size)))

  points_next : points_at t n ≡ points_after (points_at s (last s.blocks)) (says items)
  points_next = points_append s.opening s.txns ((n, items) ∷ []) n
      ∙ ap (λ (c : Bool). if c then points_after (points_at s n) (says items) else points_at s n) (le-leb n n (omega arith))
      ∙ ap (λ (m : Points). points_after m (says items)) at_last

  last_next : n ≡ last t.blocks
  last_next = omega (arith, next, length-append s.blocks.txns (txn_of (n, items) ∷ []))

  pub told_commit : AreOrdered items → MovesBlocks (points_at s (last s.blocks)) (says items) → TellsState t × HasLiveFiles t n
  told_commit o moves = (
    record { txns_are = txns_are; tell = tell; first = told.first; allocated = subst (λ (k : ℕ). AreAllocated (points_at t k)) last_next allocated },
    files_are_live t n allocated (live_is_taken t txns_are tell told.first n),
  )
    where
      txns_are : t.blocks.txns ≡ map txn_of t.txns
      txns_are = ap (λ (ts : List Txn). ts ++ txn_of (n, items) ∷ []) told.txns_are ∙ sym (mapped_append s.txns ((n, items) ∷ []))

      tell : TellBlocks t.txns
      tell = tell_more s.txns (n, items) told.tell (told_blocks items o (points_at s (last s.blocks)) moves)

      allocated : AreAllocated (points_at t n)
      allocated = subst AreAllocated (sym points_next) (moved_together (points_at s (last s.blocks)) items o told.allocated moves).allocated

pub told_together : (m : Points) (items : List PlainItem) → AreOrdered items → AreAllocated m → MovesBlocks m (says items) → TellsBlocks items × KeepsTogether m items
told_together m items o a moves = (told_blocks items o m moves, moved_together m items o a moves)
