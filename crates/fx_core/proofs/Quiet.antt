-- A core over an event that neither the disk nor the ring sees.
use Rattle.std.proofs.Common.{◌≡◌, inl, inr, ℕ, ◌+◌, Option, Some, None, refl, sym, ap, ◌∙◌, arith}
use Rattle.std.specs.FinMap as finite
use Rattle.std.specs.Ordering.{nat_cmp}
use Rattle.std.proofs.lemmas.Bool.{cases_eq}
use Rattle.fx_disk.specs.Seen.{DiskSeen}
use Rattle.fx_keys.specs.declared.table.Asked.TheVariants.{Held, Busy}
use Rattle.fx_image.specs.Standing.{Transactions}
use Rattle.fx_parts.specs.Live.{MakesNames}
use Rattle.fx_parts.specs.Parts.{Part, SharedState, IsPartOf, fresh_part, number_now}
use Rattle.fx_parts.specs.Happening.{AskKey, Commit, Count, DropSnapshot, Enter, Leave, MakeRoom, Mark, MayHappen, Meet, RaiseBase, RaiseKey, Reserve, RollBack, SharedEvent, TakeSnapshot, Tidy, Unlock, after_event, by_part, set_keys, set_part, with_key, with_raised, with_snapshot, without_keys, without_snapshot}
use Rattle.fx_parts.proofs.Events.{event_sound}
use Rattle.fx_parts.proofs.Maps.{get_other, get_same, gone_other, gone_same}
use Rattle.fx_core.specs.Events.{IsQuiet, LeavesJournal}
use Rattle.fx_core.specs.Inside.{GivenLimits, IsCore, blocks_wanted, wanted_by}
use Rattle.fx_core.specs.Tail.{TailState}
use Rattle.fx_core.proofs.Staying.{logged_leaves}

abbrev Parts : Type 0
Parts = finite.FinMap nat_cmp Part

abbrev wanted_of : Option Part → ℕ
wanted_of o = elim o [ Some part ↦ blocks_wanted part.reserved | None ↦ 0 ]

-- a part with the same reservation wants the same
pub wants_set : (parts : Parts) (who : ℕ) (old new : Part) → finite.get parts who ≡ Some old → new.reserved ≡ old.reserved → (w : ℕ) → wanted_by (finite.insert parts who new) w ≡ wanted_by parts w
wants_set parts who old new is same w = elim (cases_eq w who) [
  | inl here ↦ ap (λ k. wanted_by (finite.insert parts who new) k) here ∙ ap wanted_of (get_same parts who new) ∙ ap blocks_wanted same ∙ sym (ap wanted_of is) ∙ ap (wanted_by parts) (sym here)
  | inr ne ↦ ap wanted_of (get_other parts who w new ne)
]

wants_new : (parts : Parts) (who faults : ℕ) → finite.get parts who ≡ None → (w : ℕ) → wanted_by (finite.insert parts who (fresh_part faults)) w ≡ wanted_by parts w
wants_new parts who faults none w = elim (cases_eq w who) [
  | inl here ↦ ap (λ k. wanted_by (finite.insert parts who (fresh_part faults)) k) here ∙ ap wanted_of (get_same parts who (fresh_part faults)) ∙ sym (ap wanted_of none) ∙ ap (wanted_by parts) (sym here)
  | inr ne ↦ ap wanted_of (get_other parts who w (fresh_part faults) ne)
]

wants_gone : (parts : Parts) (who : ℕ) (old : Part) → finite.get parts who ≡ Some old → old.reserved ≡ None → (w : ℕ) → wanted_by (finite.remove parts who) w ≡ wanted_by parts w
wants_gone parts who old is none w = elim (cases_eq w who) [
  | inl here ↦ ap (λ k. wanted_by (finite.remove parts who) k) here ∙ ap wanted_of (gone_same parts who) ∙ sym (ap wanted_of is ∙ ap blocks_wanted none) ∙ ap (wanted_by parts) (sym here)
  | inr ne ↦ ap wanted_of (gone_other parts who w ne)
]

-- ids, faults and what is blocks_wanted stay
record Quiet (s t : SharedState) : Type 0 where
  ids : t.ids ≡ s.ids
  stores : t.stores ≡ s.stores
  faults : t.faults ≡ s.faults
  wants : (w : ℕ) → wanted_by t.parts w ≡ wanted_by s.parts w

quiet_same : (s t : SharedState) → t.ids ≡ s.ids → t.stores ≡ s.stores → t.faults ≡ s.faults → t.parts ≡ s.parts → Quiet s t
quiet_same s t i k f p = record { ids = i; stores = k; faults = f; wants = λ w. ap (λ x. wanted_by x w) p }

quiet_by : (s : SharedState) (who : ℕ) (f : Part → SharedState) → ((part : Part) → IsPartOf s who part → Quiet s (f part)) → Quiet s (by_part s who f)
quiet_by s who f each = by (finite.get s.parts who) refl
  where
    by : (o : Option Part) → finite.get s.parts who ≡ o → Quiet s (elim o [ Some part ↦ f part | None ↦ s ])
    by (Some part) e = each part e
    by None e = quiet_same s s refl refl refl refl

quiet : (s : SharedState) (event : SharedEvent) → IsQuiet event → MayHappen MakesNames s event → Quiet s (after_event s event)
quiet s (Enter who) q may = record { ids = refl; stores = refl; faults = refl; wants = wants_new s.parts who s.faults may.free }
quiet s (Meet who) q may = quiet_by s who (λ part. set_part who (record part { faults = s.faults }) s) (λ part is. record { ids = refl; stores = refl; faults = refl; wants = wants_set s.parts who part (record part { faults = s.faults }) is refl })
quiet s (Leave who) q may = record { ids = refl; stores = refl; faults = refl; wants = wants_gone s.parts who may.0 may.1 may.2.reserved }
quiet s (MakeRoom who count table) q may = quiet_by s who (λ part. set_keys table who (record part { room = part.room + count }) s) (λ part is. record { ids = refl; stores = refl; faults = refl; wants = wants_set s.parts who part (record part { room = part.room + count }) is refl })
quiet s (AskKey who key mode Held table) q may = quiet_by s who (λ part. set_keys table who (with_key key mode (number_now s) part) s) (λ part is. record { ids = refl; stores = refl; faults = refl; wants = wants_set s.parts who part (with_key key mode (number_now s) part) is refl })
quiet s (AskKey who key mode (Busy other) table) q may = quiet_same s s refl refl refl refl
quiet s (RaiseKey who key Held table) q may = quiet_by s who (λ part. set_keys table who (with_raised key part) s) (λ part is. record { ids = refl; stores = refl; faults = refl; wants = wants_set s.parts who part (with_raised key part) is refl })
quiet s (RaiseKey who key (Busy other) table) q may = quiet_same s s refl refl refl refl
quiet s (Unlock who table) q may = quiet_by s who (λ part. set_keys table who (without_keys part) s) (λ part is. record { ids = refl; stores = refl; faults = refl; wants = wants_set s.parts who part (without_keys part) is refl })
quiet s (TakeSnapshot who) q may = quiet_by s who (λ part. set_part who (with_snapshot s part) s) (λ part is. record { ids = refl; stores = refl; faults = refl; wants = wants_set s.parts who part (with_snapshot s part) is refl })
quiet s (DropSnapshot who index) q may = quiet_by s who (λ part. set_part who (without_snapshot index part) s) (λ part is. record { ids = refl; stores = refl; faults = refl; wants = wants_set s.parts who part (without_snapshot index part) is refl })
quiet s (Reserve who need bytes) q may = absurd q
quiet s (RollBack who) q may = absurd q
quiet s (Commit who entry items) q may = absurd q
quiet s (Mark number calls) q may = absurd q
quiet s (RaiseBase base) q may = quiet_same s _ refl refl refl refl
quiet s (Tidy lists) q may = quiet_same s _ refl refl refl refl
quiet s (Count faults) q may = absurd q

leaves_so : (event : SharedEvent) → IsQuiet event → LeavesJournal event
leaves_so (Enter who) q = tt
leaves_so (Meet who) q = tt
leaves_so (Leave who) q = tt
leaves_so (MakeRoom who count table) q = tt
leaves_so (AskKey who key mode answer table) q = tt
leaves_so (RaiseKey who key answer table) q = tt
leaves_so (Unlock who table) q = tt
leaves_so (TakeSnapshot who) q = tt
leaves_so (DropSnapshot who index) q = tt
leaves_so (Reserve who need bytes) q = absurd q
leaves_so (RollBack who) q = absurd q
leaves_so (Commit who entry items) q = absurd q
leaves_so (Mark number calls) q = absurd q
leaves_so (RaiseBase base) q = tt
leaves_so (Tidy lists) q = tt
leaves_so (Count faults) q = absurd q

-- the core over a quiet event
pub core_quiet : (seen : DiskSeen) (from : ℕ) (txns : Transactions) (end : GivenLimits) (s : SharedState) (t : TailState) (event : SharedEvent) → IsCore seen from txns end s t → IsQuiet event → MayHappen MakesNames s event → IsCore seen from txns end (after_event s event) t
core_quiet seen from txns end s t event h q may =
    let k = quiet s event q may in
    record {
      journal = h.journal;
      size_is = h.size_is;
      from_is = h.from_is;
      txns_is = h.txns_is;
      opens = h.opens;
      mounted = h.mounted;
      shared = event_sound s h.shared event may;
      logged = logged_leaves seen.calls s h.journal h.logged event (leaves_so event q) may;
      end_is = h.end_is;
      ids = omega (arith, h.ids, k.ids);
      stores = omega (arith, h.stores, k.stores);
      wants = λ who. h.wants who ∙ sym (k.wants who);
      reached = h.reached;
      faults = k.faults ∙ h.faults;
    }
