-- What a number holds stays while others act.
use Rattle.std.proofs.Common.{◌≡◌, ◌≢◌, ℕ, zero, suc, List, [], ◌∷◌, ◌++◌, Some, refl, sym, ap, subst, ◌∙◌}
use Rattle.std.specs.Prelude.{slice_get}
use Rattle.std.specs.FinMap as finite
use Rattle.fx_item.specs.declared.lock.LockKey.{LockKey}
use Rattle.fx_plain.specs.Tree.{Tree}
use Rattle.fx_events.specs.Notes.{Commits}
use Rattle.fx_parts.specs.Live.{AgreeAt, IsNodeThere, LiveMap}
use Rattle.fx_parts.specs.Parts.{Grant, IsPartOf, Part, SharedState, live_now}
use Rattle.fx_parts.specs.Sound.{IsSharedSound}
use Rattle.fx_parts.specs.Happening.{Commit, MayHappen, RunsTo, SharedEvent, actor_of, after_event, part_committed}
use Rattle.fx_parts.proofs.Committing.{others_move}
use Rattle.fx_parts.proofs.Events.{by_there, event_sound}
use Rattle.fx_parts.proofs.Frames.{event_items, event_others}
use Rattle.fx_parts.proofs.Lives.{there_agrees}

module _ {Makes : LiveMap → Tree → Type 0} where
  event_keeps : (s : SharedState) → IsSharedSound Makes s → (who : ℕ) (part : Part) (key : LockKey) (grant : Grant) → IsPartOf s who part → finite.get part.grants key ≡ Some grant → IsNodeThere (live_now s) key
      → (event : SharedEvent) → MayHappen Makes s event → actor_of event ≢ Some who → AgreeAt key (live_now s) (live_now (after_event s event))
  event_keeps s sound who part key grant is held there (Commit w entry items) may ne =
      by_there (λ (t : SharedState). AgreeAt key (live_now s) (live_now t)) s w may.0.0 (λ part. record s {
        notes = s.notes ++ Commits entry ∷ [];
        lists = items ∷ s.lists;
        parts = finite.insert s.parts w (part_committed entry.number part);
      }) may.0.1 ((others_move s sound w may.0.0 may.0.1 entry items may.0.2 may.1 who part (λ e. ne (ap Some (sym e))) is).keys key grant held there)
  event_keeps s sound who part key grant is held there event may ne = λ point here. event_items Makes s event may refl point

  pub run_keeps : (s : SharedState) (events : List SharedEvent) (t : SharedState) (who : ℕ) (part : Part) (key : LockKey) (grant : Grant) → IsSharedSound Makes s → IsPartOf s who part → finite.get part.grants key ≡ Some grant
      → IsNodeThere (live_now s) key → RunsTo Makes s events t → ((i : ℕ) (event : SharedEvent) → slice_get events i ≡ Some event → actor_of event ≢ Some who) → AgreeAt key (live_now s) (live_now t)
  run_keeps s [] t who part key grant sound is held there run none = subst (λ (z : SharedState). AgreeAt key (live_now s) (live_now z)) run (λ point here. refl)
  run_keeps s (event ∷ events) t who part key grant sound is held there run none =
      let agree = event_keeps s sound who part key grant is held there event run.0 (none zero event refl) in
      let rest = run_keeps (after_event s event) events t who part key grant (event_sound s sound event run.0) (event_others s who event (none zero event refl) ∙ is) held
      (there_agrees (live_now s) (live_now (after_event s event)) key agree there) run.1 (λ i e got. none (suc i) e got) in
      λ point here. rest point here ∙ agree point here
